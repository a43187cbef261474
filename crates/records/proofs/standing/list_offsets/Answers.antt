-- `records::standing::list_offsets` meets its contract. The invariant is `Listing`: the offsets of the first n records are listed.
use borrow.Author.Rules.{rules}
use native.Mathlib.Omega.{arith}
use Rattle.records.proofs.Listed.{listing_start, listing-end, listing-low, listing-inside, listing-next}
use Rattle.records.proofs.standing.list_offsets.Goals as goal

pub loop-offset-init : goal.loop-offset-init
loop-offset-init c = search (rules, listing_start)

pub overflow_add-next : goal.overflow_add-next
overflow_add-next c = omega (arith, listing-low _ _ _ _ c.loop-offset.invariant)

pub bounds-s-at : goal.bounds-s-at
bounds-s-at c = search (rules, listing-inside)

pub overflow_add-next-in-loop-offset : goal.overflow_add-next-in-loop-offset
overflow_add-next-in-loop-offset c = omega (arith, listing-low _ _ _ _ c.loop-offset.invariant, c.type_inv.s c.loop-offset.at)

pub overflow_cast-offset : goal.overflow_cast-offset
overflow_cast-offset c = omega (arith, listing-low _ _ _ _ c.loop-offset.invariant)

pub loop-offset-preserved : goal.loop-offset-preserved
loop-offset-preserved c = search (rules, listing-next)

pub returns : goal.returns
returns c = search (rules, listing-end)

-- `tape::listing::place` meets its contract. The invariant is `Placing`: the entries of the first n records are in place.
use borrow.Author.Rules.{rules}
use Rattle.records.proofs.Walking.{walking-stands}
use Rattle.tape.proofs.Placing.{placing-start, placing-next, placing-end}
use Rattle.tape.proofs.listing.place.Goals as goal

pub record_at-requires : goal.record_at-requires
record_at-requires c = search (rules, walking-stands)

pub loop-n-preserved : goal.loop-n-preserved
loop-n-preserved c = search (rules, placing-next)

pub returns : goal.returns
returns c = search (rules, placing-end)

pub loop-n-init : goal.loop-n-init
loop-n-init c = search (rules, placing-start)

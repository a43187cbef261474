-- `records::marking::faces_among` meets its contract. The invariant is `Marking`: the first n records are done, and the list says of each whether it is a face.
use borrow.Author.Rules.{rules}
use native.Mathlib.Omega.{arith}
use Rattle.records.proofs.MarksAmong.{marking-start, marking-end, marking-stands, marking-inside, marking-number, marking-next}
use Rattle.records.proofs.marking.faces_among.Goals as goal

pub loop-n-init : goal.loop-n-init
loop-n-init c = search (rules, marking-start)

pub overflow_add-next : goal.overflow_add-next
overflow_add-next c = omega (arith, (marking-stands _ _ _ _ _ c.loop-n.invariant c.loop-n-test.true).inside)

pub bounds-s-at : goal.bounds-s-at
bounds-s-at c = search (rules, marking-inside)

pub overflow_add-next-in-loop-n : goal.overflow_add-next-in-loop-n
overflow_add-next-in-loop-n c = omega (arith, (marking-stands _ _ _ _ _ c.loop-n.invariant c.loop-n-test.true).inside)

pub record_at-requires : goal.record_at-requires
record_at-requires c = search (rules, marking-stands)

pub bounds-marks-n : goal.bounds-marks-n
bounds-marks-n c = search (rules, marking-number)

pub loop-n-preserved : goal.loop-n-preserved
loop-n-preserved c = search (rules, marking-next)

pub returns : goal.returns
returns c = search (rules, marking-end)

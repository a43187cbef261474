-- `sheet::operands::check_records` meets its contract. The invariant is `Sorting`: n records are done, and the array holds their sorts. The measure is the number of records that may still follow.
use Rattle.sheet.proofs.Sorting.{Sorting}
use Rattle.sheet.proofs.operands.check_records.Given as goal

abbrev pub invariant-loop-r : goal.invariant-loop-r
invariant-loop-r l = Sorting l.s l.sorts l.last l.n l.c

abbrev pub decreases-loop-r : goal.decreases-loop-r
decreases-loop-r l = l.c.left

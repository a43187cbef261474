-- `sheet::operands::check_records` meets its contract. The invariant is `Sorting`: n records are done, and the array holds their sorts. The measure is the number of records that may still follow.
use borrow.Author.Rules.{rules}
use Rattle.sheet.proofs.Walk.{fewer-left, found_below, found-fits}
use Rattle.sheet.proofs.Sorting.{sorting_start, unmet, sorting-next, sorted-end}
use Rattle.sheet.proofs.operands.check_records.Goals as goal

pub loop-r-init : goal.loop-r-init
loop-r-init c = search (rules, sorting_start)

pub returns-then-not-met : goal.returns-then-not-met
returns-then-not-met c = search (rules, unmet)

pub bounds-sorts-n : goal.bounds-sorts-n
bounds-sorts-n c = search (rules, found_below)

pub overflow_add-n : goal.overflow_add-n
overflow_add-n c = search (rules, found-fits)

pub loop-r-smaller : goal.loop-r-smaller
loop-r-smaller c = search (rules, fewer-left)

pub loop-r-preserved : goal.loop-r-preserved
loop-r-preserved c = search (rules, sorting-next _ _ _ _ _ c.loop-r.invariant)

pub returns : goal.returns
returns c = search (rules, sorted-end)

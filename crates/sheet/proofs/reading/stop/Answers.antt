-- `sheet::reading::stop` meets its contract. The invariant: the cursor has 256 - left records before it. The measure is `left`.
use borrow.Author.Rules.{rules}
use Rattle.sheet.proofs.Walk.{at_first, at_after, fewer-left, stop_is}
use Rattle.sheet.proofs.reading.stop.Goals as goal

pub loop-next-init : goal.loop-next-init
loop-next-init c = search (rules, at_first)

pub returns-in-Err : goal.returns-in-Err
returns-in-Err c = search (rules, stop_is)

pub loop-next-smaller : goal.loop-next-smaller
loop-next-smaller c = search (rules, fewer-left)

pub loop-next-preserved : goal.loop-next-preserved
loop-next-preserved c = search (rules, at_after)

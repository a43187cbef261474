-- `records::marking::faces` meets its contract. The invariant is `Marking`: the first n records are done, and the list says of each whether it is a face.
use borrow.Author.Rules.{rules}
use Rattle.records.proofs.Marks.{marking-start, marking-end, marking-stop, marking-next}
use Rattle.records.proofs.marking.faces.Goals as goal

pub loop-mark-init : goal.loop-mark-init
loop-mark-init c = search (rules, marking-start)

pub loop-mark-preserved : goal.loop-mark-preserved
loop-mark-preserved c = search (rules, marking-next)

pub returns-after-loop-mark : goal.returns-after-loop-mark
returns-after-loop-mark c = search (rules, marking-end)

pub returns-in_default : goal.returns-in_default
returns-in_default c = search (rules, marking-stop)

-- `records::marking::faces` meets its contract. The invariant is `Marking`: the first n records are done, and the list says of each whether it is a face.
use Rattle.records.proofs.Marks.{Marking}
use Rattle.records.proofs.marking.faces.Given as goal

abbrev pub invariant-loop-mark : goal.invariant-loop-mark
invariant-loop-mark l = Marking l.s l.mark-items l.c l.mark-index

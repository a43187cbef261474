-- `records::marking::faces_among` meets its contract. The invariant is `Marking`: the first n records are done, and the list says of each whether it is a face.
use Rattle.records.proofs.MarksAmong.{Marking}
use Rattle.records.proofs.marking.faces_among.Given as goal

abbrev pub invariant-loop-n : goal.invariant-loop-n
invariant-loop-n l = Marking l.s l.count l.marks l.at l.n

-- `tape::shortening::keep` meets its contract. The invariant is `Keeping`: the words from i on are done.
use Rattle.tape.proofs.Keeping.{Keeping}
use Rattle.tape.proofs.shortening.keep.Given as goal

abbrev pub invariant-loop-i : goal.invariant-loop-i
invariant-loop-i l = Keeping l.initial.tape l.from l.to l.at l.initial.marks l.tape l.marks l.next l.i

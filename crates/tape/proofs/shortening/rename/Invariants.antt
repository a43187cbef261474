-- `tape::shortening::rename` meets its contract. The invariant is `Renaming`.
use Rattle.tape.proofs.Renaming.{Renaming}
use Rattle.tape.proofs.shortening.rename.Given as goal

abbrev pub invariant-loop-i : goal.invariant-loop-i
invariant-loop-i l = Renaming l.initial.tape l.from l.to l.down l.states l.initial.twins l.tape l.twins l.i

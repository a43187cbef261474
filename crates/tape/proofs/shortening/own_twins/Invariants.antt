-- `tape::shortening::own_twins` meets its contract.
use Rattle.tape.proofs.Owning.{Owning}
use Rattle.tape.proofs.shortening.own_twins.Given as goal

abbrev pub invariant-loop-n : goal.invariant-loop-n
invariant-loop-n l = Owning l.twin-items l.n

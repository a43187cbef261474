-- `colour::judging::judge` meets its contract. The invariant is `Filling`: the first n records are done, and the lists hold what is known of them.
use Rattle.colour.proofs.Filling.{Filling}
use Rattle.colour.proofs.judging.judge.Given as goal

abbrev pub invariant-loop-n : goal.invariant-loop-n
invariant-loop-n l = Filling l.s l.offsets l.q l.known.0 l.known.1.0 l.n

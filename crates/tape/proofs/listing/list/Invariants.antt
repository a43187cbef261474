-- `tape::listing::list` meets its contract. The invariant is `Putting`: the words of the first n records are done.
use Rattle.tape.proofs.Putting.{Putting}
use Rattle.tape.proofs.listing.list.Given as goal

abbrev pub invariant-loop-n : goal.invariant-loop-n
invariant-loop-n l = Putting l.s l.offsets l.initial.tape l.from l.logical l.tape l.to l.n

-- `tape::listing::place` meets its contract. The invariant is `Placing`: the entries of the first n records are in place.
use Rattle.tape.proofs.Placing.{Placing}
use Rattle.tape.proofs.listing.place.Given as goal

abbrev pub invariant-loop-n : goal.invariant-loop-n
invariant-loop-n l = Placing l.s l.offsets l.known.bounds l.known.states l.n

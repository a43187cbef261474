-- `records::standing::list_offsets` meets its contract. The invariant is `Listing`: the offsets of the first n records are listed.
use Rattle.records.proofs.Listed.{Listing}
use Rattle.records.proofs.standing.list_offsets.Given as goal

abbrev pub invariant-loop-offset : goal.invariant-loop-offset
invariant-loop-offset l = Listing l.s l.offsets l.at l.offset-index

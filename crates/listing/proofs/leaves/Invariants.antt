-- `listing::leaves` is safe: a walk over a map that opens knows the place of each leaf.
use Rattle.std.proofs.Common.{◌≡◌}
use Rattle.zonemap.specs.Leaves.{nth_place}
use Rattle.listing.proofs.leaves.Given as goal

abbrev pub invariant-loop-i : goal.invariant-loop-i
invariant-loop-i g l = l.place ≡ nth_place l.map l.i

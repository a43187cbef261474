-- `colour::Entries::blank` meets its contract: the bounds of a record of which nothing is known are within the limit.
use mathlib.Core.Path.{refl}
use Rattle.colour.proofs.Arms.{blank-small}
use Rattle.colour.proofs.Entries.blank.Goals as goal

pub invariant_of-result : goal.invariant_of-result
invariant_of-result c = record { bounds_long = refl; states_long = refl; small = blank-small 256 }

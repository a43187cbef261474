-- What is claimed of bounds and states at a point of their cube.
use Rattle.std.specs.Prelude.{◌≡◌, Bool, true, false, not, ℕ, ◌^◌}
use Rattle.interval.specs.declared.Interval.{Interval}
use Rattle.interval.specs.Claims.{Between}
use Rattle.colour.specs.declared.State.{State}
use Rattle.colour.specs.declared.State.TheVariants.{Out, In, Single, Comp, Mixed}
use Rattle.meaning.specs.Truth.{Value}

-- the interval contains the value, a numerator over a power of n
abbrev pub HoldsValue : ℕ → Interval → Value → Type 0
HoldsValue n i v = Between i (n ^ v.power) v.numerator

-- what a state says of a record that holds or does not, where `face f` says whether face f holds
unfoldable pub Sound : (ℕ → Bool) → State → Bool → Type 0
Sound face Out holds = holds ≡ false
Sound face In holds = holds ≡ true
Sound face (Single f) holds = holds ≡ face f
Sound face (Comp f) holds = holds ≡ not (face f)
Sound face Mixed holds = Unit {0}

-- The limit: an end lies in -2^60 to 2^60.
use Rattle.std.specs.Prelude.{Bool, cond, List, [], ◌∷◌, ◌≤◌, ◌^◌, leb, ℤ, nat_abs, Err, Ok, Result}
use Rattle.integers.specs.First.{on_first}
use Rattle.replies.specs.declared.End.{End}
use Rattle.replies.specs.declared.End.TheVariants.{Low, High}
use Rattle.interval.specs.declared.Interval.{Interval}

-- a number lies in -2^60 to 2^60
unfoldable pub is_small : ℤ → Bool
is_small z = leb (nat_abs z) (2 ^ 60)

-- the one test of an interval against the limit: the end outside -2^60 to 2^60, if one is; the low end if it is, otherwise the high end
unfoldable pub past_end : Interval → List End
past_end i = cond (is_small i.low) (cond (is_small i.high) [] (High ∷ [])) (Low ∷ [])

-- the interval, or the end past the limit
unfoldable pub bounded_of : Interval → Result Interval End
bounded_of i = on_first (past_end i) Err (Ok i)

-- both ends lie in -2^60 to 2^60, as an operation requires of its operands
pub record SmallEnds (i : Interval) : Type 0 where
  pub low : nat_abs i.low ≤ 2 ^ 60
  pub high : nat_abs i.high ≤ 2 ^ 60

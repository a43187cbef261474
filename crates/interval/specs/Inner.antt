-- How a product is worked out. Only inner contracts cite this.
use Rattle.std.specs.Prelude.{Bool, cond, ◌&&◌, ◌+◌, ◌^◌, ℤ, pos, neg_ℤ, ◌≤ℤ◌}
use Rattle.std.specs.Int.Signed.{non_neg, le_z, lt_z}
use Rattle.interval.specs.Rules.{from}
use Rattle.interval.specs.Limit.{SmallEnds, is_small}
use Rattle.interval.specs.declared.Interval.{Interval}

-- the number if it is within the limit, otherwise the first number past the limit on its side
unfoldable pub clamp_of : ℤ → ℤ
clamp_of z = cond (is_small z) z (cond (non_neg z) (pos (2 ^ 60 + 1)) (neg_ℤ (pos (2 ^ 60 + 1))))

-- the same of both ends
unfoldable pub clamped : Interval → Interval
clamped i = from (clamp_of i.low) (clamp_of i.high)

-- the same two ends, the lesser one first
unfoldable pub ordered_of : Interval → Interval
ordered_of i = cond (le_z i.low i.high) i (from i.high i.low)

-- zero lies strictly inside
unfoldable pub is_across : Interval → Bool
is_across i = lt_z i.low (pos 0) && lt_z (pos 0) i.high

-- in both operands
unfoldable pub both_across : Interval → Interval → Bool
both_across i j = is_across i && is_across j

-- the first number if j is nowhere negative, the second if it is nowhere positive, otherwise the third
unfoldable pub by_sign : Interval → ℤ → ℤ → ℤ → ℤ
by_sign j x y z = cond (le_z (pos 0) j.low) x (cond (le_z j.high (pos 0)) y z)

-- the end of i that is a factor of the low end of its product with j, if zero is not strictly inside both
unfoldable pub least_factor : Interval → Interval → ℤ
least_factor i j = by_sign j i.low i.high (cond (le_z i.high (pos 0)) i.low i.high)

-- and of the high end
unfoldable pub greatest_factor : Interval → Interval → ℤ
greatest_factor i j = by_sign j i.high i.low (cond (le_z (pos 0) i.low) i.high i.low)

-- both ends are within the limit and in order
pub record OrderedEnds (i : Interval) : Type 0 where
  pub small : SmallEnds i
  pub ordered : i.low ≤ℤ i.high

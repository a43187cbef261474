-- What is claimed of intervals.
use Rattle.std.specs.Prelude.{ℕ, ℤ, pos, ◌*ℤ◌, ◌≤ℤ◌}
use Rattle.interval.specs.declared.Interval.{Interval}

-- a/n lies in the interval
pub record Between (i : Interval) (n : ℕ) (a : ℤ) : Type 0 where
  pub low : (i.low *ℤ pos n) ≤ℤ a
  pub high : a ≤ℤ (i.high *ℤ pos n)

-- the interval i has its ends in order and lies in j
pub record Inside (i j : Interval) : Type 0 where
  pub low : j.low ≤ℤ i.low
  pub ordered : i.low ≤ℤ i.high
  pub high : i.high ≤ℤ j.high

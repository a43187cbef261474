-- Facts for the proofs of the sum, the difference and the square of intervals, in the form that the proofs need: the machine reads a number back from its bits.
use Rattle.std.specs.Prelude.{Result}
use mathlib.Core.Path.{◌≡◌, ap, ap₂, ◌∙◌}
use mathlib.Core.Bool.{true, false}
use Prim.Native.Nat.{◌≤◌, ◌<◌, ◌^◌}
use lib.IntN.{ℤ, pos, nat_abs, ◌+ℤ◌, ◌-ℤ◌, ◌*ℤ◌}
use lib.Signed.{mag, le_z}
use mir.Syntax.{w64}
use mir.Val.{to_z, of_z}
use Rattle.integers.specs.Least.{greater_of}
use Rattle.integers.proofs.Least.{greater-kept}
use Rattle.integers.proofs.Machine.{again}
use Rattle.interval.specs.Rules.{from, sum, difference, square}
use Rattle.interval.specs.Limit.{SmallEnds, is_small, bounded_of}
use Rattle.interval.specs.Inner.{clamp_of}
use Rattle.interval.specs.declared.Interval.{Interval}
use Rattle.interval.proofs.Limit.{limit-back, sum_back, difference-back, clamp-keeps, bounded-clamped}
use Rattle.replies.specs.declared.End.{End}

-- ---- the sum and the difference
module _ (r : Result Interval End) (i j : Interval) (si : SmallEnds i) (sj : SmallEnds j) where
  pub sum_told : r ≡ bounded_of (from (to_z w64 (of_z w64 (to_z w64 (of_z w64 i.low) +ℤ to_z w64 (of_z w64 j.low)))) (to_z w64 (of_z w64 (to_z w64 (of_z w64 i.high) +ℤ to_z w64 (of_z w64 j.high)))))
      → r ≡ bounded_of (sum i j)
  unfolding sum
  sum_told e = e ∙ ap bounded_of (ap₂ from (sum_back i.low j.low si.low sj.low) (sum_back i.high j.high si.high sj.high))

  pub difference-told : r ≡ bounded_of (from (to_z w64 (of_z w64 (to_z w64 (of_z w64 i.low) -ℤ to_z w64 (of_z w64 j.high)))) (to_z w64 (of_z w64 (to_z w64 (of_z w64 i.high) -ℤ to_z w64 (of_z w64 j.low)))))
      → r ≡ bounded_of (difference i j)
  unfolding difference
  difference-told e = e ∙ ap bounded_of (ap₂ from (difference-back i.low j.high si.low sj.high) (difference-back i.high j.low si.high sj.low))

-- ---- what a call of `times` returned, read back
pub times-told : (r a b : ℤ) → nat_abs a ≤ 2 ^ 60 → nat_abs b ≤ 2 ^ 60 → r ≡ clamp_of (to_z w64 (of_z w64 a) *ℤ to_z w64 (of_z w64 b)) → mag r < 2 ^ 63
    → to_z w64 (of_z w64 r) ≡ clamp_of (a *ℤ b)
times-told r a b ha hb e h = again w64 r (clamp_of (a *ℤ b)) (rw (limit-back a ha, limit-back b hb) at e) h

-- aa and bb are the squares of the ends, clamped
module _ (r : Result Interval End) (i : Interval) (aa bb : ℤ) (s : SmallEnds i) (ea : aa ≡ clamp_of (i.low *ℤ i.low)) (eb : bb ≡ clamp_of (i.high *ℤ i.high)) where
  read_low : to_z w64 (of_z w64 i.low) ≡ i.low
  read_low = limit-back i.low s.low

  read-high : to_z w64 (of_z w64 i.high) ≡ i.high
  read-high = limit-back i.high s.high

  pub square-up : le_z (pos 0) (to_z w64 (of_z w64 i.low)) ≡ true → r ≡ bounded_of (from aa bb) → r ≡ bounded_of (square i)
  unfolding square
  square-up t e = rw (rw read_low at t) (e ∙ rw (ea, eb) (bounded-clamped (i.low *ℤ i.low) (i.high *ℤ i.high)))

  module _ (t : le_z (pos 0) (to_z w64 (of_z w64 i.low)) ≡ false) where
    pub square-down : le_z (to_z w64 (of_z w64 i.high)) (pos 0) ≡ true → r ≡ bounded_of (from bb aa) → r ≡ bounded_of (square i)
    unfolding square
    square-down u e = rw (rw read_low at t, rw read-high at u) (e ∙ rw (ea, eb) (bounded-clamped (i.high *ℤ i.high) (i.low *ℤ i.low)))

    pub square-across : (g : ℤ) → le_z (to_z w64 (of_z w64 i.high)) (pos 0) ≡ false → g ≡ greater_of aa bb → mag g < 2 ^ 63
        → r ≡ bounded_of (from (pos 0) (to_z w64 (of_z w64 g))) → r ≡ bounded_of (square i)
    unfolding square clamp_of is_small
    square-across g u f h e =
        let high = again w64 g (clamp_of (greater_of (i.low *ℤ i.low) (i.high *ℤ i.high)))
        (f ∙ ap₂ greater_of ea eb ∙ greater-kept clamp_of clamp-keeps (i.low *ℤ i.low) (i.high *ℤ i.high)) h in
        rw (rw read_low at t, rw read-high at u) (e ∙ rw high (bounded-clamped (pos 0) (greater_of (i.low *ℤ i.low) (i.high *ℤ i.high))))

-- Facts for the proof of `times`, in the form that it needs: the machine reads a number back from its bits.
use mathlib.Core.Path.{◌≡◌, refl, sym, ◌∙◌}
use mathlib.Core.Bool.{Bool, true, false, beq}
use Prim.Native.Nat.{ℕ, zero, suc, ◌+◌, ◌*◌, ◌≤◌, ◌<◌, ◌^◌}
use native.Mathlib.Nat.{mul-le-mul}
use native.Mathlib.Omega.{arith}
use borrow.Author.Tests.{leb-true, le-ltb}
use lib.Dec.{leb}
use lib.IntN.{ℤ, pos, negsuc, neg_ℤ, nat_abs, ◌*ℤ◌}
use lib.Signed.{lt_z, non_neg}
use mir.Syntax.{w64}
use mir.Val.{SFits, to_z, of_z}
use Rattle.integers.proofs.Naturals.{abs-*}
use Rattle.integers.proofs.Machine.{fits, result_fits, result-back}
use Rattle.interval.specs.Limit.{is_small}
use Rattle.interval.specs.Inner.{clamp_of}
use Rattle.interval.proofs.Limit.{small-true, small-false, small-test, limit-fits, limit-back, clamp-same}

-- ---- times
-- a product that is not zero is positive if its factors have the same sign
minus : (n : ℕ) → 0 < n → non_neg (neg_ℤ (pos n)) ≡ false
minus zero h = let z : ⊥ = omega arith in absurd z
minus (suc n) h = refl

plus : (n : ℕ) → lt_z (pos n) (pos 0) ≡ false
plus n = le-ltb n 0 (omega arith)

side : (a b : ℤ) → 0 < nat_abs a * nat_abs b → non_neg (a *ℤ b) ≡ beq (lt_z a (pos 0)) (lt_z b (pos 0))
side (pos a) (pos b) h = rw (plus a, plus b)
side (pos a) (negsuc b) h = rw (plus a, minus (a * suc b) (omega arith))
side (negsuc a) (pos b) h = rw (plus b, minus (suc a * b) (omega arith))
side (negsuc a) (negsuc b) h = refl

module _ (a b : ℤ) (ha : nat_abs a ≤ 2 ^ 60) (hb : nat_abs b ≤ 2 ^ 60) where
  -- a product within the limit is computed exactly
  module _ (t : is_small (a *ℤ b) ≡ true) where
    product-fits : SFits w64 (a *ℤ b)
    product-fits = fits w64 (a *ℤ b) (omega (arith, small-true (a *ℤ b) t))

    within-exact : to_z w64 (of_z w64 (to_z w64 (of_z w64 a) *ℤ to_z w64 (of_z w64 b))) ≡ clamp_of (a *ℤ b)
    within-exact = result-back w64 ◌*ℤ◌ a b (limit-fits a ha) (limit-fits b hb) product-fits ∙ sym (clamp-same (a *ℤ b) t)

  -- u and v are what the two calls of `is_short` returned
  module _ (u v : Bool) (eu : u ≡ leb (nat_abs (to_z w64 (of_z w64 a))) (2 ^ 30)) (ev : v ≡ leb (nat_abs (to_z w64 (of_z w64 b))) (2 ^ 30)) (tu : u ≡ true) (tv : v ≡ true) where
    short-small : is_small (a *ℤ b) ≡ true
    short-small =
        let ka = leb-true (nat_abs a) (2 ^ 30) (rw (limit-back a ha) at (sym eu ∙ tu)) in
        let kb = leb-true (nat_abs b) (2 ^ 30) (rw (limit-back b hb) at (sym ev ∙ tv)) in
        small-test (a *ℤ b) (rw (abs-* a b) (mul-le-mul ka kb))

    pub short-fits : SFits w64 (to_z w64 (of_z w64 a) *ℤ to_z w64 (of_z w64 b))
    short-fits = result_fits w64 ◌*ℤ◌ a b (limit-fits a ha) (limit-fits b hb) (product-fits short-small)

    pub short-exact : to_z w64 (of_z w64 (to_z w64 (of_z w64 a) *ℤ to_z w64 (of_z w64 b))) ≡ clamp_of (a *ℤ b)
    short-exact = within-exact short-small

  -- m and n are the magnitudes that the two calls returned, and s is what `is_small_product` returned for them
  module _ (m n : ℕ) (s : Bool) (em : m ≡ nat_abs (to_z w64 (of_z w64 a))) (en : n ≡ nat_abs (to_z w64 (of_z w64 b))) (e : s ≡ leb (m * n) (2 ^ 60)) where
    small_is : is_small (a *ℤ b) ≡ s
    unfolding is_small
    small_is = rw abs-* (rw (limit-back a ha, limit-back b hb) at (sym (rw (em, en) at e)))

    pub times-exact : s ≡ true → to_z w64 (of_z w64 (to_z w64 (of_z w64 a) *ℤ to_z w64 (of_z w64 b))) ≡ clamp_of (a *ℤ b)
    times-exact t = within-exact (small_is ∙ t)

    module _ (t : s ≡ false) where
      side-is : (u : Bool) → beq (lt_z (to_z w64 (of_z w64 a)) (pos 0)) (lt_z (to_z w64 (of_z w64 b)) (pos 0)) ≡ u → non_neg (a *ℤ b) ≡ u
      side-is u k = side a b (omega (arith, abs-* a b, small-false (a *ℤ b) (small_is ∙ t))) ∙ (rw (limit-back a ha, limit-back b hb) at k)

      pub times_above : beq (lt_z (to_z w64 (of_z w64 a)) (pos 0)) (lt_z (to_z w64 (of_z w64 b)) (pos 0)) ≡ true → pos (2 ^ 60 + 1) ≡ clamp_of (a *ℤ b)
      unfolding clamp_of
      times_above k = rw (small_is, t, side-is true k)

      pub times_below : beq (lt_z (to_z w64 (of_z w64 a)) (pos 0)) (lt_z (to_z w64 (of_z w64 b)) (pos 0)) ≡ false → neg_ℤ (pos (2 ^ 60 + 1)) ≡ clamp_of (a *ℤ b)
      unfolding clamp_of
      times_below k = rw (small_is, t, side-is false k)

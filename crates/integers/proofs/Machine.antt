-- Signed machine arithmetic of any width. A local holds bits, so each operand and each result is read back from its bits, `to_z w (of_z w a)`:
-- for a number that fits, this is the number itself.
use mathlib.Core.Path.{◌≡◌, ◌∙◌}
use mathlib.Core.Bool.{false}
use Prim.Native.Nat.{ℕ, suc, ◌≤◌, ◌<◌, ◌^◌}
use native.Mathlib.Omega.{arith}
use lib.Dec.{T}
use lib.IntN.{ℤ, pos, negsuc, nat_abs, ◌+ℤ◌}
use lib.Signed.{mag, lt_z, non_neg}
use mir.Syntax.{Width, w32, w64}
use mir.Val.{Fits, SFits, hbits, to_z, of_z}
use mir.Facts.{to_z-of_z, to_z_pos, sfits_widen}
use Rattle.integers.proofs.Naturals.{abs-+}
use Rattle.integers.proofs.Order.{not_negative}

mag-le : (a : ℤ) → mag a ≤ nat_abs a
mag-le (pos a) = omega arith
mag-le (negsuc a) = omega arith

pub abs-most : (a : ℤ) → nat_abs a ≤ suc (mag a)
abs-most (pos a) = omega arith
abs-most (negsuc a) = omega arith

module _ (w : Width) where
  pub fits : (a : ℤ) → nat_abs a < 2 ^ hbits w → SFits w a
  fits a h = record { sfits = omega (arith, mag-le a) }

  pub back : (a : ℤ) → nat_abs a < 2 ^ hbits w → to_z w (of_z w a) ≡ a
  back a h = to_z-of_z (fits a h)

  -- a callee's result, passed on or returned
  pub again : (a b : ℤ) → a ≡ b → mag a < 2 ^ hbits w → to_z w (of_z w a) ≡ b
  again a b e h = to_z-of_z (record { sfits = h }) ∙ e

  -- the result of an operation, a sum, a difference or a product, on two operands
  module _ (f : ℤ → ℤ → ℤ) (a b : ℤ) (fa : SFits w a) (fb : SFits w b) (fr : SFits w (f a b)) where
    pub result_fits : SFits w (f (to_z w (of_z w a)) (to_z w (of_z w b)))
    result_fits = rw (to_z-of_z fa, to_z-of_z fb) fr

    pub result-back : to_z w (of_z w (f (to_z w (of_z w a)) (to_z w (of_z w b)))) ≡ f a b
    result-back = rw (to_z-of_z fa, to_z-of_z fb) (to_z-of_z fr)

-- a number that is not negative, cast to unsigned
pub plain-cast : (a : ℤ) → SFits w64 a → lt_z (to_z w64 (of_z w64 a)) (pos 0) ≡ false → T (non_neg (to_z w64 (of_z w64 a))) × Fits w64 (nat_abs (to_z w64 (of_z w64 a)))
plain-cast a f t = rw (to_z-of_z f) (not_negative a (rw (to_z-of_z f) at t), record { fits = omega (arith, f.sfits, abs-most a) })

-- ---- a 32-bit number, cast to 64 bits
-- an unsigned number added to it after the cast
abbrev pub wide_sum : ℤ → ℕ → ℤ
wide_sum a n = to_z w64 (of_z w64 (to_z w32 (of_z w32 a))) +ℤ to_z w64 n

module _ (a : ℤ) (f : SFits w32 a) where
  wider : SFits w64 a
  wider = sfits_widen {w = w32} {w' = w64} tt f

  pub wide_fits : SFits w64 (to_z w32 (of_z w32 a))
  wide_fits = rw (to_z-of_z f) wider

  pub wide_back : to_z w64 (of_z w64 (to_z w32 (of_z w32 a))) ≡ a
  wide_back = rw (to_z-of_z f) (to_z-of_z wider)

  module _ (n : ℕ) (g : Fits w32 n) where
    sum_is : wide_sum a n ≡ a +ℤ pos n
    sum_is = rw (wide_back, to_z_pos w64 {n = n} (omega (arith, g.fits)))

    sum-small : SFits w64 (a +ℤ pos n)
    sum-small = fits w64 (a +ℤ pos n) (omega (arith, f.sfits, g.fits, abs-most a, abs-+ a (pos n)))

    pub wide-sum-fits : SFits w64 (wide_sum a n)
    wide-sum-fits = rw sum_is sum-small

    pub wide-sum-back : to_z w64 (of_z w64 (wide_sum a n)) ≡ a +ℤ pos n
    wide-sum-back = rw sum_is (to_z-of_z sum-small)

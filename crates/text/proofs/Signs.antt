-- A signed number by its sign and its magnitude, and how long it is.
use mathlib.Core.Path.{◌≡◌, refl}
use mathlib.Core.Bool.{true, false, true≢false}
use mathlib.Core.List.{◌∷◌}
use Prim.Native.Nat.{ℕ, suc, ◌≤◌, ◌<◌}
use native.Mathlib.Omega.{arith}
use borrow.Author.Tests.{ltb-true}
use lib.IntN.{ℤ, pos, negsuc, nat_abs}
use lib.ListN.{length}
use lib.Signed.{lt_z}
use mir.Syntax.{w64}
use mir.Val.{SFits, to_z, of_z}
use mir.Facts.{to_z-of_z}
use Rattle.text.specs.Text.{decimal_of, signed_text}
use Rattle.text.proofs.Digits.{decimal-length, decimal-some}

-- ---- by its sign: m is the magnitude as the code has it
no_sign : (n : ℤ) → lt_z n (pos 0) ≡ false → signed_text n ≡ decimal_of (nat_abs n)
unfolding signed_text
no_sign (pos k) t = refl
no_sign (negsuc k) t = absurd (true≢false t)

minus_sign : (n : ℤ) → lt_z n (pos 0) ≡ true → signed_text n ≡ 45 ∷ decimal_of (nat_abs n)
unfolding signed_text
minus_sign (pos k) t = let z : ⊥ = omega (arith, ltb-true k 0 t) in absurd z
minus_sign (negsuc k) t = refl

module _ (n : ℤ) (m : ℕ) (f : SFits w64 n) (e : m ≡ nat_abs (to_z w64 (of_z w64 n))) where
  pub plain-text : lt_z (to_z w64 (of_z w64 n)) (pos 0) ≡ false → signed_text n ≡ decimal_of m
  plain-text t = rw (e, to_z-of_z f) (no_sign n (rw (to_z-of_z f) at t))

  pub less-text : lt_z (to_z w64 (of_z w64 n)) (pos 0) ≡ true → signed_text n ≡ 45 ∷ decimal_of m
  less-text t = rw (e, to_z-of_z f) (minus_sign n (rw (to_z-of_z f) at t))

-- ---- at most a sign and 19 digits
pub signed-length : (n : ℤ) → SFits w64 n → length (signed_text n) ≤ 20
unfolding signed_text
signed-length (pos k) f = omega (arith, decimal-length 18 k (omega (arith, f.sfits)))
signed-length (negsuc k) f = omega (arith, decimal-length 18 (suc k) (omega (arith, f.sfits)))

-- at least a digit
pub signed-some : (n : ℤ) → 0 < length (signed_text n)
unfolding signed_text
signed-some (pos k) = decimal-some k
signed-some (negsuc k) = omega arith

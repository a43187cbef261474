-- Powers of a whole number, as scale factors of numerators.
use mathlib.Core.Path.{◌≡◌, ap, ◌∙◌}
use Prim.Native.Nat.{ℕ, zero, suc, ◌*◌, ◌^◌}
use native.Mathlib.Nat.{one-mul, pow-zero, pow-suc}
use native.Mathlib.Omega.{arith}
use lib.IntN.{ℤ, pos, ◌*ℤ◌}
use Rattle.integers.proofs.Ring.{times-one}

pub pow-one : (n : ℕ) → n ^ 1 ≡ n
pow-one n = pow-suc n 0 ∙ ap (λ (k : ℕ). k * n) (pow-zero n) ∙ one-mul n

pub mul-pow : (n m k : ℕ) → (n * m) ^ k ≡ n ^ k * m ^ k
mul-pow n m zero = rw (pow-zero (n * m), pow-zero n, pow-zero m)
mul-pow n m (suc k) = rw (pow-suc (n * m) k, pow-suc n k, pow-suc m k, mul-pow n m k) (omega arith)

-- over n^0 a number is itself
pub times_none : (a : ℤ) (n : ℕ) → a *ℤ pos (n ^ 0) ≡ a
times_none a n = ap (λ (k : ℕ). a *ℤ pos k) (pow-zero n) ∙ times-one a

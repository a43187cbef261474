-- The digits of a number: one if it is below 10, otherwise those of a tenth of it and one more.
use mathlib.Core.Path.{◌≡◌, refl, ap}
use mathlib.Core.List.{List, [], ◌∷◌, ◌++◌}
use Prim.Native.Nat.{ℕ, zero, suc, ◌/◌, ◌%◌, ◌≤◌, ◌<◌, ◌^◌}
use native.Mathlib.Omega.{arith}
use lib.ListN.{length, length-append}
use Rattle.text.specs.Text.{digit, digits_of, decimal_of}

-- equal digits stay equal with the last one added
then-last : (n : ℕ) (ds es : List ℕ) → ds ≡ es → ds ++ (digit (n % 10) ∷ []) ≡ es ++ (digit (n % 10) ∷ [])
then-last n ds es e = ap (λ (fs : List ℕ). fs ++ (digit (n % 10) ∷ [])) e

no-digits : (k : ℕ) → digits_of k 0 ≡ []
unfolding digits_of
no-digits zero = refl
no-digits (suc k) = refl

-- the limit on the number of digits does not matter if it is not reached
same_digits : (k n m : ℕ) → n ≤ k → n ≤ m → digits_of k n ≡ digits_of m n
unfolding digits_of
same_digits zero n m h g = let e : n ≡ 0 = omega arith in rw (e, no-digits m)
same_digits (suc k) zero m h g = rw (no-digits m)
same_digits (suc k) (suc n) zero h g = let z : ⊥ = omega arith in absurd z
same_digits (suc k) (suc n) (suc m) h g = then-last (suc n) _ _ (same_digits k (suc n / 10) m (omega arith) (omega arith))

all_digits : (k n : ℕ) → 0 < n → n ≤ k → digits_of k n ≡ decimal_of n
unfolding digits_of decimal_of
all_digits zero n p h = let z : ⊥ = omega arith in absurd z
all_digits (suc k) zero p h = let z : ⊥ = omega arith in absurd z
all_digits (suc k) (suc n) p h = then-last (suc n) _ _ (same_digits k (suc n / 10) (suc n) (omega arith) (omega arith))

pub one-digit : (n : ℕ) → n < 10 → decimal_of n ≡ digit n ∷ []
unfolding decimal_of
one-digit n h =
    let t : n / 10 ≡ 0 = omega arith in
    let l : n % 10 ≡ n = omega arith in
    rw (t, l, no-digits n)

pub more-digits : (n : ℕ) → 10 ≤ n → decimal_of n ≡ decimal_of (n / 10) ++ (digit (n % 10) ∷ [])
unfolding decimal_of
more-digits n h = then-last n _ _ (all_digits n (n / 10) (omega arith) (omega arith))

-- a number below a power of ten has no more digits than the power has zeros
few-digits : (k m n : ℕ) → n < 10 ^ k → length (digits_of m n) ≤ k
unfolding digits_of
few-digits k zero n h = omega arith
few-digits k (suc m) zero h = omega arith
few-digits zero (suc m) (suc n) h = let z : ⊥ = omega arith in absurd z
few-digits (suc k) (suc m) (suc n) h =
    omega (arith, length-append (digits_of m (suc n / 10)) (digit (suc n % 10) ∷ []), few-digits k m (suc n / 10) (omega arith))

pub decimal-length : (k n : ℕ) → n < 10 ^ suc k → length (decimal_of n) ≤ suc k
unfolding decimal_of
decimal-length k n h =
    omega (arith, length-append (digits_of n (n / 10)) (digit (n % 10) ∷ []), few-digits k n (n / 10) (omega arith))

pub decimal-some : (n : ℕ) → 0 < length (decimal_of n)
unfolding decimal_of
decimal-some n = omega (arith, length-append (digits_of n (n / 10)) (digit (n % 10) ∷ []))

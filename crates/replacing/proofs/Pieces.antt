-- What leaves i to j - 1 are replaced by, in pieces: one leaf, one piece after another, and all.
use mathlib.Core.Path.{◌≡◌, refl, sym, ap, ◌∙◌}
use mathlib.Core.List.{List, [], ◌++◌, append_assoc, append-nil}
use Prim.Native.Nat.{ℕ, zero, suc, ◌+◌, ◌-◌, ◌≤◌}
use native.Mathlib.Omega.{arith}
use lib.ListN.{length, length-append}
use Rattle.tree.specs.Visit.{upto}

module _ {A : Type 0} (f : ℕ → List A) where
  -- n lists from f i on
  abbrev from : ℕ → ℕ → List A
  from i n = upto (λ k. f (i + k)) n

  from-add : (i a n : ℕ) → from i (a + n) ≡ from i a ++ from (i + a) n
  unfolding upto
  from-add i a zero = let z : a + 0 ≡ a = omega arith in rw z (sym (append-nil _))
  from-add i a (suc n) =
      let z : a + suc n ≡ suc (a + n) = omega arith in
      let y : i + (a + n) ≡ i + a + n = omega arith in
      rw (z, from-add i a n, y) (append_assoc (from i a) (from (i + a) n) (f (i + a + n)))

  pub piece-none : (i : ℕ) → from i (i - i) ≡ []
  unfolding upto
  piece-none i = let z : i - i ≡ 0 = omega arith in rw z

  pub piece-one : (i : ℕ) → from i (i + 1 - i) ≡ f i
  unfolding upto
  piece-one i =
      let z : i + 1 - i ≡ 1 = omega arith in
      let y : i + 0 ≡ i = omega arith in
      rw (z, y)

  pub piece-next : (i j k : ℕ) → i ≤ j → j ≤ k → from i (j - i) ++ from j (k - j) ≡ from i (k - i)
  piece-next i j k h l =
      let z : k - i ≡ j - i + (k - j) = omega arith in
      let y : i + (j - i) ≡ j = omega arith in
      sym (ap (from i) z ∙ from-add i (j - i) (k - j) ∙ ap (λ m. from i (j - i) ++ from m (k - j)) y)

  -- the first j
  pub piece-all : (j : ℕ) → upto (λ k. f (0 + k)) j ≡ upto f j
  unfolding upto
  piece-all zero = refl
  piece-all (suc j) = let z : 0 + j ≡ j = omega arith in rw (piece-all j, z)

  -- its length, by those of the first j and the first i
  pub piece-length : (i j : ℕ) → i ≤ j → length (upto f j) ≡ length (upto f i) + length (from i (j - i))
  piece-length i j h =
      let z : i - 0 ≡ i = omega arith in
      let y : j - 0 ≡ j = omega arith in
      ap length (sym (piece-all j) ∙ sym (ap (from 0) y) ∙ sym (piece-next 0 i j (omega arith) h)) ∙ length-append (from 0 (i - 0)) (from i (j - i))
      ∙ ap (λ (n : ℕ). length (from 0 n) + length (from i (j - i))) z ∙ ap (λ (x : List A). length x + length (from i (j - i))) (piece-all i)

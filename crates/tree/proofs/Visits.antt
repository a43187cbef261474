-- Laws of lists one after the other, and of what the cubes of a tree contribute.
use mathlib.Core.Path.{◌≡◌, refl, sym, ap, ◌∙◌}
use mathlib.Core.Bool.{Bool, true, false, cond}
use mathlib.Core.Logic.{⊎_elim}
use mathlib.Core.List.{List, [], ◌++◌, append_assoc, append-nil}
use Prim.Native.Nat.{ℕ, zero, suc, ◌+◌, ◌-◌, ◌*◌, ◌^◌, ◌≤◌, ◌<◌}
use native.Mathlib.Nat.{le_refl, le_trans, eq-or-lt_of_le, one-le-pow, zero-lt-suc}
use native.Mathlib.Numerals.{add-one, sub-one}
use native.Mathlib.Omega.{arith}
use lib.ListN.{length, length-append}
use Rattle.cube.specs.declared.Cube.{Cube}
use Rattle.cube.specs.Cubes.{child_of}
use Rattle.tree.specs.Visit.{upto, visit}

-- ---- lists one after the other
module _ {A : Type 0} (f : ℕ → List A) where
  pub upto-none : upto f 0 ≡ []
  unfolding upto
  upto-none = refl

  pub upto-more : (k : ℕ) → upto f (k + 1) ≡ upto f k ++ f k
  unfolding upto
  upto-more k = rw add-one

  pub upto-length : (k : ℕ) → length (upto f (k + 1)) ≡ length (upto f k) + length (f k)
  upto-length k = ap length (upto-more k) ∙ length-append (upto f k) (f k)

  upto_step : (n : ℕ) → length (upto f n) ≤ length (upto f (suc n))
  unfolding upto
  upto_step n = omega (arith, length-append (upto f n) (f n))

  pub upto-most : (k n : ℕ) → k ≤ n → length (upto f k) ≤ length (upto f n)
  upto-most k zero h = let e : k ≡ 0 = omega arith in rw e (le_refl _)
  upto-most k (suc n) h = ⊎_elim (λ e. rw e (le_refl _)) (λ l. le_trans (upto-most k n (omega arith)) (upto_step n)) (eq-or-lt_of_le h)

  upto-bound : (b n : ℕ) → ((k : ℕ) → length (f k) ≤ b) → length (upto f n) ≤ n * b
  unfolding upto
  upto-bound b zero h = omega arith
  upto-bound b (suc n) h = omega (arith, length-append (upto f n) (f n), upto-bound b n h, h n)

-- fewer elements, if each list has fewer
pub upto-fewer : {A : Type 0} (f g : ℕ → List A) → ((k : ℕ) → length (f k) ≤ length (g k)) → (n : ℕ) → length (upto f n) ≤ length (upto g n)
unfolding upto
upto-fewer f g h zero = omega arith
upto-fewer f g h (suc n) = omega (arith, length-append (upto f n) (f n), length-append (upto g n) (g n), upto-fewer f g h n, h n)

-- the same lists, one by one
pub upto-same : {A : Type 0} (f g : ℕ → List A) (n : ℕ) → ((k : ℕ) → k < n → f k ≡ g k) → upto f n ≡ upto g n
unfolding upto
upto-same f g zero h = refl
upto-same f g (suc n) h = rw (upto-same f g n (λ k l. h k (omega arith)), h n (omega arith))

-- the first list, and those after it
pub upto-first : {A : Type 0} (f : ℕ → List A) (n : ℕ) → upto f (suc n) ≡ f 0 ++ upto (λ k. f (suc k)) n
unfolding upto
upto-first f zero = sym (append-nil (f 0))
upto-first f (suc n) = rw (upto-first f n) (append_assoc (f 0) (upto (λ k. f (suc k)) n) (f (suc n)))

-- nothing, if each list is empty
pub upto_nothing : {A : Type 0} (f : ℕ → List A) → ((k : ℕ) → f k ≡ []) → (n : ℕ) → upto f n ≡ []
unfolding upto
upto_nothing f h zero = refl
upto_nothing f h (suc n) = rw (upto_nothing f h n, h n)

-- ---- what the cubes contribute
cond-most : {A : Type 0} (b : Bool) (xs ys : List A) (m : ℕ) → length xs ≤ m → length ys ≤ m → length (cond b xs ys) ≤ m
cond-most true xs ys m h k = h
cond-most false xs ys m h k = k

module _ {A : Type 0} (is_gray : Cube → Bool) (leaf : Cube → List A) where
  -- what child k contributes, where the cube itself has `left` levels left
  abbrev pub kid : ℕ → Cube → ℕ → List A
  kid left q k = visit is_gray leaf (left - 1) (child_of q k)

  pub visit-end : (left : ℕ) (q : Cube) → left ≡ 0 → visit is_gray leaf left q ≡ leaf q
  unfolding visit
  visit-end left q e = rw e

  pub visit-flat : (left : ℕ) (q : Cube) → is_gray q ≡ false → visit is_gray leaf left q ≡ leaf q
  unfolding visit
  visit-flat zero q e = refl
  visit-flat (suc left) q e = rw e

  pub visit-gray : (left : ℕ) (q : Cube) → 0 < left → is_gray q ≡ true → visit is_gray leaf left q ≡ upto (kid left q) 8
  unfolding visit upto
  visit-gray zero q h e = let z : ⊥ = omega arith in absurd z
  visit-gray (suc left) q h e = rw (e, sub-one (suc left))

  -- at most 8^left elements, if a leaf contributes one
  pub visit-most : ((q : Cube) → length (leaf q) ≡ 1) → (left : ℕ) (q : Cube) → length (visit is_gray leaf left q) ≤ 8 ^ left
  unfolding visit
  visit-most l zero q = omega (arith, l q)
  visit-most l (suc left) q =
      let f : ℕ → List A = λ k. visit is_gray leaf left (child_of q k) in
      cond-most (is_gray q) (upto f 8) (leaf q) (8 ^ suc left)
      (omega (arith, upto-bound f (8 ^ left) 8 (λ k. visit-most l left (child_of q k))))
      (omega (arith, l q, one-le-pow (suc left) 8 (zero-lt-suc 7)))

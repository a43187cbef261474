-- A list where each record is its own twin, as the loop fills it; and two parts of a tape, one behind the other.
use mathlib.Core.Path.{◌≡◌, refl, ap, ◌∙◌}
use mathlib.Core.Bool.{Bool, ◌&&◌, ◌||◌}
use mathlib.Core.List.{List, [], ◌∷◌, ◌++◌}
use Prim.Native.Nat.{ℕ, ◌+◌, ◌≤◌, ◌<◌}
use native.Mathlib.Omega.{arith}
use borrow.Author.Tests.{eqb-true, eqb-false, ltb-true, ltb-false}
use lib.Dec.{eqb, ltb}
use lib.ListN.{length, set, length-set, get_or-eq_default, replicate}
use lib.Seq.{get_or-set_same, get_or-set_other}
use Rattle.integers.proofs.Order.{by-test}
use Rattle.carried.specs.Words.{Word, needed, kept}
use Rattle.tape.specs.Shortening.{twin_in, Own}

pub record Owning (found : List ℕ) (i : ℕ) : Type 0 where
  pub long : length found ≡ 256
  pub done : (a : ℕ) → a < i → twin_in found a ≡ a

pub owning-start : Owning (replicate 256 0) 0
owning-start = record { long = refl; done = λ a l. absurd (omega arith) }

pub owning-next : (found : List ℕ) (i : ℕ) → Owning found i → i < 256 → Owning (set found i i) (i + 1)
owning-next found i k h =
    record {
      long = length-set found i i ∙ k.long;
      done = λ a l. by-test (eqb a i)
          (λ t. rw (eqb-true a i t) (get_or-set_same found i i i (omega (arith, k.long))))
          (λ t. get_or-set_other found i a i a (eqb-false a i t) ∙ k.done a (omega (arith, eqb-false a i t)));
    }

pub owning-end : (found : List ℕ) (i : ℕ) → Owning found i → 256 ≤ i → Own found
owning-end found i k stop =
    record {
      long = k.long;
      each = λ a. by-test (ltb a 256) (λ t. k.done a (let z : a < 256 = ltb-true a 256 t in omega (arith, z)))
          (λ t. get_or-eq_default found a (let z : 256 ≤ a = ltb-false a 256 t in omega (arith, k.long, z)));
    }

-- ---- two parts
module _ {R : Type 0} (is : R → Word) (uses : R → ℕ → Bool) (wanted : ℕ → Bool) where
  pub needed-append : (xs ys : List R) → needed is uses wanted (xs ++ ys) ≡ needed is uses (needed is uses wanted ys) xs
  unfolding needed
  needed-append [] ys = refl
  needed-append (x ∷ xs) ys = ap (λ (f : ℕ → Bool). λ (a : ℕ). f a || (f (is x).number && uses x a)) (needed-append xs ys)

  pub kept_append : (xs ys : List R) → kept is uses wanted (xs ++ ys) ≡ kept is uses (needed is uses wanted ys) xs ++ kept is uses wanted ys
  unfolding kept
  kept_append [] ys = refl
  kept_append (x ∷ xs) ys =
      let e : needed is uses wanted (xs ++ ys) (is x).number ≡ needed is uses (needed is uses wanted ys) xs (is x).number = ap (λ (f : ℕ → Bool). f (is x).number) (needed-append xs ys) in
      by-test (needed is uses (needed is uses wanted ys) xs (is x).number)
      (λ t. rw (e ∙ t, t) (ap (λ (l : List R). x ∷ l) (kept_append xs ys)))
      (λ t. rw (e ∙ t, t) (kept_append xs ys))

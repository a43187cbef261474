-- Runs of leaves: the leaves of a map have no fault exactly if they run from 0 to 8^d, each good at its own place.
use mathlib.Core.Path.{◌≡◌, sym, ◌∙◌}
use mathlib.Core.Bool.{Bool, true, false}
use mathlib.Core.List.{List, [], ◌∷◌, ◌++◌}
use Prim.Native.Nat.{ℕ, zero, suc, ◌+◌, ◌*◌, ◌%◌, ◌^◌, ◌≤◌, ◌<◌}
use native.Mathlib.Omega.{arith}
use borrow.Author.Tests.{eq-eqb, ne_eqb}
use Rattle.std.proofs.lemmas.Bool.Decides.{nat_tests}
use lib.ListN.{length, get_or}
use Rattle.zonemap.specs.declared.Leaf.{Leaf}
use Rattle.zonemap.specs.Opening.{size_of, level_good, face_good, place_good, leaf_good, leaves_fault}
use Rattle.zonemap.specs.Leaves.{place_at, nowhere}

-- ---- what a good leaf is
module _ (d : ℕ) (l : Leaf) where
  pub level-told : level_good d l ≡ true → (l.level ≤ d) × (l.class ≤ 4) × (l.class ≡ 4 → l.level ≡ d)
  unfolding level_good
  level-told e = (grind (arith, nat_tests), grind (arith, nat_tests), λ c. grind (arith, nat_tests))

  pub place-told : (p : ℕ) → place_good d p l ≡ true → (p % size_of d l ≡ 0) × (p + size_of d l ≤ 8 ^ d)
  unfolding place_good
  place-told p e = (grind (arith, nat_tests), grind (arith, nat_tests))

module _ (named : ℕ → Bool) (d p : ℕ) (l : Leaf) where
  pub leaf-parts : leaf_good named d p l ≡ true → (level_good d l ≡ true) × (face_good named l ≡ true) × (place_good d p l ≡ true)
  unfolding leaf_good
  leaf-parts e = (grind (arith, nat_tests), grind (arith, nat_tests), grind (arith, nat_tests))

  pub good-level : leaf_good named d p l ≡ true → l.level ≤ d
  good-level e = (level-told d l (leaf-parts e).0).0

  pub good-place : leaf_good named d p l ≡ true → (p % size_of d l ≡ 0) × (p + size_of d l ≤ 8 ^ d)
  good-place e = place-told d l p (leaf-parts e).2

-- ---- runs
-- the leaves run from place p to place e, and `Each` holds for each of them at its own place
unfoldable pub Run : (ℕ → Leaf → Type 0) → ℕ → ℕ → List Leaf → ℕ → Type 0
Run Each d p [] e = p ≡ e
Run Each d p (l ∷ ls) e = Each p l × Run Each d (p + size_of d l) ls e

module _ (Each : ℕ → Leaf → Type 0) (d : ℕ) where
  pub run-append : (p m e : ℕ) (a b : List Leaf) → Run Each d p a m → Run Each d m b e → Run Each d p (a ++ b) e
  unfolding Run
  run-append p m e [] b r s = rw r s
  run-append p m e (l ∷ a) b r s = (r.0, run-append (p + size_of d l) m e a b r.1 s)

  pub run-map : (To : ℕ → Leaf → Type 0) → ((p : ℕ) (l : Leaf) → Each p l → To p l) → (p e : ℕ) (ls : List Leaf) → Run Each d p ls e → Run To d p ls e
  unfolding Run
  run-map To t p e [] r = r
  run-map To t p e (l ∷ ls) r = (t p l r.0, run-map To t (p + size_of d l) e ls r.1)

  -- `Each` holds for leaf i of a run at its own place
  pub run_at : (p e i : ℕ) (ls : List Leaf) → Run Each d p ls e → i < length ls → Each (p + place_at d i ls) (get_or ls i nowhere)
  unfolding Run place_at
  run_at p e i [] r h = absurd (omega arith)
  run_at p e zero (l ∷ ls) r h = let z : p + 0 ≡ p = omega arith in rw z r.0
  run_at p e (suc i) (l ∷ ls) r h =
      let z : p + (size_of d l + place_at d i ls) ≡ p + size_of d l + place_at d i ls = omega arith in
      rw z (run_at (p + size_of d l) e i ls r.1 (omega arith))

  -- a run ends at its start plus the sizes of all its leaves
  pub run_end : (p e : ℕ) (ls : List Leaf) → Run Each d p ls e → p + place_at d (length ls) ls ≡ e
  unfolding Run place_at
  run_end p e [] r = omega (arith, r)
  run_end p e (l ∷ ls) r = omega (arith, run_end (p + size_of d l) e ls r.1)

  later : (low lower e p : ℕ) (ls : List Leaf) → lower ≤ low → Run (λ q l. Each q l × (low ≤ q) × (q + size_of d l ≤ e)) d p ls e → Run (λ q l. Each q l × (lower ≤ q) × (q + size_of d l ≤ e)) d p ls e
  unfolding Run
  later low lower e p [] h r = r
  later low lower e p (l ∷ ls) h r = ((r.0.0, omega (arith, r.0.1), r.0.2), later low lower e (p + size_of d l) ls h r.1)

  -- each leaf of a run lies between its start and its end
  pub run-between : (p e : ℕ) (ls : List Leaf) → Run Each d p ls e → Run (λ q l. Each q l × (p ≤ q) × (q + size_of d l ≤ e)) d p ls e
  unfolding Run
  run-between p e [] r = r
  run-between p e (l ∷ ls) r = (
    (r.0, omega arith, omega (arith, run_end (p + size_of d l) e ls r.1)),
    later (p + size_of d l) p e (p + size_of d l) ls (omega arith) (run-between (p + size_of d l) e ls r.1),
  )

  -- leaves are a run if `Each` holds for each of them at its own place
  pub at-run : (p e : ℕ) (ls : List Leaf) → ((i : ℕ) → i < length ls → Each (p + place_at d i ls) (get_or ls i nowhere)) → p + place_at d (length ls) ls ≡ e → Run Each d p ls e
  unfolding Run place_at
  at-run p e [] h k = omega (arith, k)
  at-run p e (l ∷ ls) h k = (
    let z : p + 0 ≡ p = omega arith in rw z at (h 0 (omega arith)),
    at-run (p + size_of d l) e ls
        (λ i m. let z : p + (size_of d l + place_at d i ls) ≡ p + size_of d l + place_at d i ls = omega arith in rw z at (h (suc i) (omega arith)))
        (omega (arith, k)),
  )

-- ---- leaves without a fault are a run
-- a leaf is good at its place
abbrev pub Fine : (ℕ → Bool) → ℕ → ℕ → Leaf → Type 0
Fine named d p l = leaf_good named d p l ≡ true

-- a list of one fault is not empty
pub one-fault : (at : ℕ) → ◌≡◌ {A = List ℕ} (at ∷ []) [] → ⊥
one-fault at e = cc

module _ (named : ℕ → Bool) (d : ℕ) where
  pub opens-run : (p at : ℕ) (ls : List Leaf) → leaves_fault named d p at ls ≡ [] → Run (Fine named d) d p ls (8 ^ d)
  unfolding Run leaves_fault
  opens-run p at [] e = grind (arith, nat_tests)
  opens-run p at (l ∷ ls) e = (grind (arith, nat_tests), opens-run (p + size_of d l) (at + 3) ls (grind (arith, nat_tests)))

  -- the first fault: the first leaf that is not good, or the end of leaves that stop short
  pub leaf-fault : (p at i : ℕ) (ls : List Leaf) → i < length ls → ((j : ℕ) → j < i → Fine named d (p + place_at d j ls) (get_or ls j nowhere)) → leaf_good named d (p + place_at d i ls) (get_or ls i nowhere) ≡ false
      → leaves_fault named d p at ls ≡ (at + 3 * i) ∷ []
  unfolding leaves_fault place_at
  leaf-fault p at i [] h good bad = absurd (omega arith)
  leaf-fault p at zero (l ∷ ls) h good bad =
      let z : p + 0 ≡ p = omega arith in
      let end : at + 3 * 0 ≡ at = omega arith in
      rw (rw z at bad, end)
  leaf-fault p at (suc i) (l ∷ ls) h good bad =
      let z : p + 0 ≡ p = omega arith in
      let on : (j : ℕ) → p + (size_of d l + place_at d j ls) ≡ p + size_of d l + place_at d j ls = λ j. omega arith in
      let end : at + 3 * suc i ≡ at + 3 + 3 * i = omega arith in
      rw (rw z at (good 0 (omega arith)), end) (leaf-fault (p + size_of d l) (at + 3) i ls (omega arith) (λ j k. rw (on j) at (good (suc j) (omega arith))) (rw (on i) at bad))

  pub end-fault : (p at e : ℕ) (ls : List Leaf) → Run (Fine named d) d p ls e → (e ≡ 8 ^ d → ⊥) → leaves_fault named d p at ls ≡ (at + 3 * length ls) ∷ []
  unfolding Run leaves_fault
  end-fault p at e [] r short = let end : at + 3 * 0 ≡ at = omega arith in rw (ne_eqb p (8 ^ d) (λ z. short (sym r ∙ z)), end)
  end-fault p at e (l ∷ ls) r short =
      let end : at + 3 * suc (length ls) ≡ at + 3 + 3 * length ls = omega arith in
      rw (r.0, end) (end-fault (p + size_of d l) (at + 3) e ls r.1 short)

  pub run-opens : (p at : ℕ) (ls : List Leaf) → Run (Fine named d) d p ls (8 ^ d) → leaves_fault named d p at ls ≡ []
  unfolding Run leaves_fault
  run-opens p at [] r = rw (eq-eqb p (8 ^ d) r)
  run-opens p at (l ∷ ls) r = rw r.0 (run-opens (p + size_of d l) (at + 3) ls r.1)

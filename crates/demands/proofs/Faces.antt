-- The faces of a sheet: each is a record of kind 16, and its state and what it says at a point are its operand's, by its comparison.
use mathlib.Core.Path.{◌≡◌, refl, sym, ap, ◌∙◌}
use mathlib.Core.Bool.{true, false, true≢false}
use mathlib.Core.Logic.{◌↔◌}
use mathlib.Core.List.{List, [], ◌∷◌}
use Prim.Native.Nat.{ℕ, zero, suc, ◌<◌}
use native.Mathlib.Omega.{arith}
use lib.IntN.{ℤ, pos}
use lib.ListN.{length, get_or, take}
use lib.Seq.{length-take-le}
use lib.Signed.{◌≤ℤ◌, ◌<ℤ◌}
use Rattle.integers.proofs.Order.{by-test, le_z-true, le_z-above, lt_z-true, lt_z-false, le_test, gt-test, lt_test, ge-test}
use Rattle.sheet.specs.declared.Comparison.{Comparison}
use Rattle.sheet.specs.declared.Comparison.TheVariants.{AtMost, LessThan}
use Rattle.sheet.specs.declared.Record.{Record}
use Rattle.sheet.specs.declared.Record.TheVariants.{Constant, X, Y, Z, Sum, Difference, Product, Square, Face, Both, Either, Complement}
use Rattle.sheet.proofs.Along.{length-along, entry_at, before_at}
use Rattle.records.specs.Faces.{is_face, has_face}
use Rattle.cube.specs.declared.Cube.{Cube}
use Rattle.meaning.specs.Fractions.{FractionalPoint}
use Rattle.meaning.specs.Truth.{satisfies, Meaning, absent, holds_of, meaning_of, meanings, holds_at}
use Rattle.colour.specs.States.{meets, face_state, state_with}
use Rattle.colour.specs.Entries.{Entry, blank, face_bounds, entry_with, entry_of, entries}
use Rattle.soundness.proofs.StatesSound.{satisfied}
use Rattle.demands.specs.Terms.{bounds_over, state_over}
use Rattle.demands.specs.Versions.{operand_of, value_at, FaceRule}

-- ---- the record of a face
is-face : (r : Record) → is_face r ≡ true → (by : Comparison) × (a : ℕ) × (r ≡ Face by a)
is-face (Constant c) e = absurd (true≢false (sym e))
is-face X e = absurd (true≢false (sym e))
is-face Y e = absurd (true≢false (sym e))
is-face Z e = absurd (true≢false (sym e))
is-face (Sum a b) e = absurd (true≢false (sym e))
is-face (Difference a b) e = absurd (true≢false (sym e))
is-face (Product a b) e = absurd (true≢false (sym e))
is-face (Square a) e = absurd (true≢false (sym e))
is-face (Face by a) e = (by, a, refl)
is-face (Both a b) e = absurd (true≢false (sym e))
is-face (Either a b) e = absurd (true≢false (sym e))
is-face (Complement a) e = absurd (true≢false (sym e))

-- the number of a face is that of a record
pub face-among : (rs : List Record) (f : ℕ) → has_face rs f ≡ true → f < length rs
unfolding has_face
face-among [] f e = absurd (true≢false (sym e))
face-among (r ∷ rs) zero e = omega arith
face-among (r ∷ rs) (suc f) e = omega (arith, face-among rs f e)

-- its comparison and its operand
pub face-is : (rs : List Record) (f : ℕ) → has_face rs f ≡ true → (by : Comparison) × (a : ℕ) × (get_or rs f X ≡ Face by a)
unfolding has_face
face-is rs f e = is-face (get_or rs f X) e

-- ---- record f is a face
module _ (rs : List Record) (f : ℕ) (by : Comparison) (a : ℕ) (among : f < length rs) (e : get_or rs f X ≡ Face by a) where
  pub face-state : (q : Cube) → (get_or (entries q rs) f blank).state ≡ face_state by (face_bounds q (get_or (entries q (take f rs)) a blank)) f
  unfolding entry_with state_with
  face-state q =
      let before = take f rs in
      ap (λ (m : Entry). m.state) (entry_at (entry_of q) rs f blank among ∙ ap (entry_of q (entries q before)) e)
      ∙ ap (face_state by (face_bounds q (get_or (entries q before) a blank))) (length-along (entry_of q) before ∙ length-take-le f rs (omega arith))

  -- whether it holds at a point, by its operand there
  face-holds : (p : FractionalPoint) → holds_at rs f p ≡ satisfies by (get_or (meanings p (take f rs)) a absent).value
  unfolding holds_at meaning_of holds_of
  face-holds p = ap (λ (m : Meaning). m.holds) (entry_at (meaning_of p) rs f absent among ∙ ap (meaning_of p (meanings p (take f rs))) e)

  -- ---- its operand is an earlier record
  module _ (earlier : a < f) where
    state-by : (q : Cube) → state_over rs q f ≡ face_state by (bounds_over rs q a) f
    unfolding face_bounds
    state-by q = face-state q ∙ ap (λ (o : Entry). face_state by o.bounds f) (before_at (entry_of q) rs f a blank (omega arith) earlier)

    holds_by : (p : FractionalPoint) → holds_at rs f p ≡ meets by (value_at rs a p).numerator
    holds_by p =
        face-holds p
        ∙ ap (λ (m : Meaning). satisfies by m.value) (before_at (meaning_of p) rs f a absent (omega arith) earlier)
        ∙ satisfied by (value_at rs a p)

    -- so, in the words that a comparison stands for
    module _ (Meets Fails : ℤ → Type 0) (met : (v : ℤ) → (meets by v ≡ true) ↔ Meets v) (failed : (v : ℤ) → (meets by v ≡ false) ↔ Fails v) where
      not-met : (v : ℤ) → (Meets v → ⊥) → meets by v ≡ false
      not-met v n = by-test (meets by v) (λ t. absurd (n ((met v).0 t))) (λ t. t)

      not-failed : (v : ℤ) → (Fails v → ⊥) → meets by v ≡ true
      not-failed v n = by-test (meets by v) (λ t. t) (λ t. absurd (n ((failed v).0 t)))

      pub face-rule : FaceRule Meets Fails rs f (operand_of rs f)
      unfolding face_state
      face-rule = rw e (record {
        holds = λ p. (λ h. (met _).0 (sym (holds_by p) ∙ h), λ h. holds_by p ∙ (met _).1 h);
        inside = λ q h. state-by q ∙ rw ((met _).1 h);
        outside = λ q h k. state-by q ∙ rw (not-met _ h, (failed _).1 k);
        otherwise = λ q h k. state-by q ∙ rw (not-met _ h, not-failed _ k);
      })

-- ---- what each comparison stands for
pub at-most-met : (v : ℤ) → (meets AtMost v ≡ true) ↔ (v ≤ℤ pos 0)
unfolding meets
at-most-met v = (le_z-true v (pos 0), le_test v (pos 0))

pub at-most-failed : (v : ℤ) → (meets AtMost v ≡ false) ↔ (pos 0 <ℤ v)
unfolding meets
at-most-failed v = (le_z-above v (pos 0), gt-test v (pos 0))

pub less-than-met : (v : ℤ) → (meets LessThan v ≡ true) ↔ (v <ℤ pos 0)
unfolding meets
less-than-met v = (lt_z-true v (pos 0), lt_test v (pos 0))

pub less-than-failed : (v : ℤ) → (meets LessThan v ≡ false) ↔ (pos 0 ≤ℤ v)
unfolding meets
less-than-failed v = (lt_z-false v (pos 0), ge-test v (pos 0))

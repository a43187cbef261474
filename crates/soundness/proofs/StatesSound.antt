-- States are sound: what a record's state over a closed cube says is true at every point of it, fractions included.
use mathlib.Core.Path.{◌≡◌, refl, sym, ap, ◌∙◌}
use mathlib.Core.Bool.{Bool, true, false, not, ◌&&◌, ◌||◌, and-true, and-false, and_self, and-not_self, or-true, or-false, or_self, or-not_self, not-not}
use mathlib.Core.Logic.{◌⊎◌, inl, inr}
use mathlib.Core.List.{List, ◌∷◌, ◌++◌}
use Prim.Native.Nat.{ℕ, ◌^◌, ◌<◌}
use native.Mathlib.Nat.{one-le-pow}
use lib.IntN.{ℤ, pos, ◌*ℤ◌}
use lib.ListN.{length, get_or}
use Rattle.integers.proofs.Order.{by-test, same_sign, same-sign-strict}
use Rattle.interval.specs.declared.Interval.{Interval}
use Rattle.sheet.specs.declared.Comparison.{Comparison}
use Rattle.sheet.specs.declared.Comparison.TheVariants.{AtMost, LessThan}
use Rattle.sheet.specs.declared.Record.{Record}
use Rattle.sheet.specs.declared.Record.TheVariants.{Constant, X, Y, Z, Sum, Difference, Product, Square, Face, Both, Either, Complement}
use Rattle.sheet.proofs.Along.{Pairs, length-along, entry, related-in}
use Rattle.cube.specs.declared.Cube.{Cube}
use Rattle.colour.specs.declared.State.{State}
use Rattle.colour.specs.declared.State.TheVariants.{Out, In, Single, Comp, Mixed}
use Rattle.colour.specs.States.{is_in, is_out, meets, face_state, complement_of, both_of, either_of, state_with}
use Rattle.colour.specs.Entries.{Entry, blank, entry_with, entry_of, entries}
use Rattle.colour.proofs.Joined.{is-in, is-out}
use Rattle.colour.proofs.Says.{meets-below, fails-above, joined_says}
use Rattle.meaning.specs.Fractions.{FractionalPoint, InClosed}
use Rattle.meaning.specs.Truth.{Value, satisfies, Meaning, absent, holds_of, meaning_of, meanings, holds_at}
use Rattle.soundness.specs.Claims.{HoldsValue, Sound}
use Rattle.soundness.proofs.BoundsHold.{face-bounds-hold}

-- ---- a face's comparison: what both have in common
-- the value's numerator meets it
pub satisfied : (by : Comparison) (v : Value) → satisfies by v ≡ meets by v.numerator
unfolding meets
satisfied AtMost v = refl
satisfied LessThan v = refl

-- a number and a positive multiple of it meet it or do not
meets-scaled : (by : Comparison) (a : ℤ) (n : ℕ) → 0 < n → meets by (a *ℤ pos n) ≡ meets by a
unfolding meets
meets-scaled AtMost a n h = same_sign a n h
meets-scaled LessThan a n h = same-sign-strict a n h

-- ---- each rule, once
module _ (face : ℕ → Bool) where
  -- In if b meets the comparison; Out if a does not; else Single(that face)
  pub face-sound : (by : Comparison) (n : ℕ) → 0 < n → (i : Interval) (v : Value) (f : ℕ) → HoldsValue n i v → face f ≡ satisfies by v → Sound face (face_state by i f) (satisfies by v)
  unfolding face_state Sound
  face-sound by n positive i v f h e =
      let scaled : (a : ℤ) → meets by (a *ℤ pos (n ^ v.power)) ≡ meets by a = λ a. meets-scaled by a (n ^ v.power) (one-le-pow v.power n positive) in
      let is = satisfied by v in
      by-test (meets by i.high)
      (λ t. rw t (is ∙ meets-below by _ _ h.high (scaled i.high ∙ t)))
      (λ t.
      by-test (meets by i.low)
      (λ u. rw (t, u) (sym e))
      (λ u. rw (t, u) (is ∙ fails-above by _ _ h.low (scaled i.low ∙ u))))

  -- Mixed says nothing
  pub mixed-sound : (a : Bool) → Sound face Mixed a
  unfolding Sound
  mixed-sound a = tt

  pub complement-sound : (s : State) (a : Bool) → Sound face s a → Sound face (complement_of s) (not a)
  unfolding Sound
  complement-sound Out a h = ap not h
  complement-sound In a h = ap not h
  complement-sound (Single f) a h = ap not h
  complement-sound (Comp f) a h = ap not h ∙ not-not (face f)
  complement-sound Mixed a h = tt

  in-holds : (s : State) (a : Bool) → is_in s ≡ true → Sound face s a → a ≡ true
  unfolding Sound
  in-holds s a e h = rw (is-in s e) at h

  out-fails : (s : State) (a : Bool) → is_out s ≡ true → Sound face s a → a ≡ false
  unfolding Sound
  out-fails s a e h = rw (is-out s e) at h

  -- a state says one thing, unless nothing is known
  same_truth : (s : State) (a b : Bool) → Sound face s a → Sound face s b → (s ≡ Mixed) ⊎ (a ≡ b)
  unfolding Sound
  same_truth Out a b h k = inr (h ∙ sym k)
  same_truth In a b h k = inr (h ∙ sym k)
  same_truth (Single f) a b h k = inr (h ∙ sym k)
  same_truth (Comp f) a b h k = inr (h ∙ sym k)
  same_truth Mixed a b h k = inl refl

  pub both-sound : (s t : State) (a b : Bool) → Sound face s a → Sound face t b → Sound face (both_of s t) (a && b)
  unfolding Sound
  both-sound =
      joined_says (Sound face) not mixed-sound complement-sound not-not same_truth is_out Out is_in ◌&&◌
      (λ s a b e h. rw (out-fails s a e h)) (λ t a b e k. rw (out-fails t b e k) (and-false a)) (λ s a b e h. rw (in-holds s a e h)) (λ t a b e k. rw (in-holds t b e k) (and-true a))
      and_self (λ s a n h. and-not_self a)

  pub either-sound : (s t : State) (a b : Bool) → Sound face s a → Sound face t b → Sound face (either_of s t) (a || b)
  unfolding Sound
  either-sound =
      joined_says (Sound face) not mixed-sound complement-sound not-not same_truth is_in In is_out ◌||◌
      (λ s a b e h. rw (in-holds s a e h)) (λ t a b e k. rw (in-holds t b e k) (or-true a)) (λ s a b e h. rw (out-fails s a e h)) (λ t a b e k. rw (out-fails t b e k) (or-false a))
      or_self (λ s a n h. or-not_self a)

-- ---- all records
module _ (q : Cube) (p : FractionalPoint) (h : InClosed q p) (rs : List Record) where
  abbrev face : ℕ → Bool
  face f = holds_at rs f p

  abbrev Says : Entry → Meaning → Type 0
  Says e m = Sound face e.state m.holds

  -- a face's own entry
  own : (by : Comparison) (before after : List Record) (a : ℕ) → before ++ Face by a ∷ after ≡ rs → face (length (entries q before)) ≡ satisfies by (get_or (meanings p before) a absent).value
  unfolding holds_at meaning_of holds_of
  own by before after a e =
      ap face (length-along (entry_of q) before)
      ∙ ap (λ (l : List Record). (get_or (meanings p l) (length before) absent).holds) (sym e)
      ∙ ap (λ (m : Meaning). m.holds) (entry (meaning_of p) before (Face by a) after absent)

  step-sound : (before : List Record) (r : Record) (after : List Record) → before ++ r ∷ after ≡ rs → Pairs Says blank absent (entries q before) (meanings p before)
      → Says (entry_of q (entries q before) r) (meaning_of p (meanings p before) r)
  unfolding entry_with state_with meaning_of holds_of
  step-sound before (Constant c) after e k = mixed-sound face false
  step-sound before X after e k = mixed-sound face false
  step-sound before Y after e k = mixed-sound face false
  step-sound before Z after e k = mixed-sound face false
  step-sound before (Sum a b) after e k = mixed-sound face false
  step-sound before (Difference a b) after e k = mixed-sound face false
  step-sound before (Product a b) after e k = mixed-sound face false
  step-sound before (Square a) after e k = mixed-sound face false
  step-sound before (Face by a) after e k = face-sound face by p.n p.positive _ _ _ (face-bounds-hold q p h before a) (own by before after a e)
  step-sound before (Both a b) after e k = both-sound face _ _ _ _ (k.each a) (k.each b)
  step-sound before (Either a b) after e k = either-sound face _ _ _ _ (k.each a) (k.each b)
  step-sound before (Complement a) after e k = complement-sound face _ _ (k.each a)

  -- what the state of record i over the cube says is true at the point
  pub states-sound : (i : ℕ) → Sound face (get_or (entries q rs) i blank).state (holds_at rs i p)
  unfolding Sound holds_at
  states-sound i = (related-in Says blank absent refl (entry_of q) (meaning_of p) rs step-sound).each i

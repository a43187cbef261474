-- Laws of the words of a tape that the documents name and that no proof of the code needs today: what a word's kind makes of its operands.
use mathlib.Core.Path.{◌≡◌, refl, sym, ap, ◌∙◌}
use mathlib.Core.Bool.{false, cond}
use mathlib.Core.List.{List}
use Prim.Native.Nat.{ℕ, ◌<◌}
use native.Mathlib.Omega.{arith}
use lib.ListN.{length, get_or}
use Rattle.std.specs.Prelude.{Result}
use Rattle.replies.specs.declared.End.{End}
use Rattle.interval.specs.declared.Interval.{Interval}
use Rattle.interval.specs.Rules.{square}
use Rattle.interval.specs.Limit.{bounded_of}
use Rattle.sheet.specs.declared.Comparison.{Comparison}
use Rattle.sheet.specs.declared.Comparison.TheVariants.{AtMost, LessThan}
use Rattle.sheet.specs.declared.Record.TheVariants.{Face}
use Rattle.cube.specs.declared.Cube.{Cube}
use Rattle.colour.specs.declared.State.{State}
use Rattle.colour.specs.declared.State.TheVariants.{Out, In, Single, Comp, Mixed}
use Rattle.colour.specs.Bounds.{bounds_of}
use Rattle.colour.specs.States.{is_in, face_state, state_with}
use Rattle.carried.specs.Words.{twin_by}
use Rattle.tape.specs.declared.Kind.{Kind}
use Rattle.tape.specs.declared.Kind.TheVariants as kind
use Rattle.tape.specs.declared.Word.{Word}
use Rattle.tape.specs.Memory.{record_by, record_in, word_in, state_in}
use Rattle.tape.specs.Shortening.{twin_in}
use Rattle.tape.proofs.Slices.{get_d_any}
use Rattle.tape.specs.Working.{bounds_word, state_word}

-- the comparison of a face
pub strict-kind : (a b : ℕ) → record_by kind.LessThan a b ≡ Face LessThan a
strict-kind a b = refl

pub plain-kind : (a b : ℕ) → record_by kind.AtMost a b ≡ Face AtMost a
plain-kind a b = refl

-- the kind of a face, by its comparison
abbrev face_kind : Comparison → Kind
face_kind AtMost = kind.AtMost
face_kind LessThan = kind.LessThan

pub face-is : (by : Comparison) (a b : ℕ) → record_by (face_kind by) a b ≡ Face by a
face-is AtMost a b = refl
face-is LessThan a b = refl

pub record-face : (k : Kind) (by : Comparison) → k ≡ face_kind by → (a b : ℕ) → record_by k a b ≡ Face by a
record-face k by e a b = rw e (face-is by a b)

-- what a word makes of bounds and states
module _ (q : Cube) (b : ℕ → Interval) (s : ℕ → State) (w : Word) where
  pub square-arm : w.kind ≡ kind.Square → (v : Result Interval End) → v ≡ bounded_of (square (b w.first)) → v ≡ bounded_of (bounds_word q b (word_in w))
  unfolding bounds_word bounds_of
  square-arm e v h = rw e h

  pub face-arm : (by : Comparison) → w.kind ≡ face_kind by → (k : State) → k ≡ face_state by (b w.first) w.number → k ≡ state_word b s (word_in w)
  unfolding state_word state_with
  face-arm AtMost e k h = rw e h
  face-arm LessThan e k h = rw e h

-- whose state a record of both has over the cubes inside; an operand is a byte
not-in : (s : State) → (s ≡ In → ⊥) → is_in s ≡ false
not-in Out h = refl
not-in In h = absurd (h refl)
not-in (Single f) h = refl
not-in (Comp f) h = refl
not-in Mixed h = refl

module _ (colours : List State) (twins : List ℕ) (w : Word) (long : length twins ≡ 256) where
  abbrev it : ℕ
  it = twin_by (state_in colours) (twin_in twins) w.number (record_in w)

  both_is : w.kind ≡ kind.Both → it ≡ cond (is_in (state_in colours w.first)) (twin_in twins w.second) (cond (is_in (state_in colours w.second)) (twin_in twins w.first) w.number)
  both_is k = ap (λ (x : Kind). twin_by (state_in colours) (twin_in twins) w.number (record_by x w.first w.second)) k

  read : (a : ℕ) → a < 256 → get_or twins a 0 ≡ twin_in twins a
  read a h = get_d_any twins a 0 a (omega (arith, long))

  pub twin-1 : w.second < 256 → w.kind ≡ kind.Both → state_in colours w.first ≡ In → get_or twins w.second 0 ≡ it
  twin-1 second k h = read w.second second ∙ sym (both_is k ∙ rw h)

  pub twin-2 : w.first < 256 → w.kind ≡ kind.Both → (state_in colours w.first ≡ In → ⊥) → state_in colours w.second ≡ In → get_or twins w.first 0 ≡ it
  twin-2 first k h i = read w.first first ∙ sym (both_is k ∙ rw (not-in (state_in colours w.first) h, i))

  pub twin-3 : w.kind ≡ kind.Both → (state_in colours w.first ≡ In → ⊥) → (state_in colours w.second ≡ In → ⊥) → w.number ≡ it
  twin-3 k h i = sym (both_is k ∙ rw (not-in (state_in colours w.first) h, not-in (state_in colours w.second) i))

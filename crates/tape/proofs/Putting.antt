-- Words are put one after the other, as the loop meets it.
use Rattle.std.specs.Prelude.{Option, Some, None}
use mathlib.Core.Path.{◌≡◌, refl, sym, ap, ap₂, ◌∙◌}
use mathlib.Core.Bool.{Bool, true, false, cond, not, beq}
use mathlib.Core.List.{List, [], ◌∷◌, ◌++◌, map, map-append, append-nil}
use Prim.Native.Nat.{ℕ, zero, suc, ◌+◌, ◌≤◌, ◌<◌}
use native.Mathlib.Numerals.{add-one}
use native.Mathlib.Omega.{arith}
use borrow.Author.Tests.{eqb-true, eqb-false}
use lib.Dec.{eqb}
use lib.ListN.{length, get_or, take, drop, set, length-set, length-append}
use lib.Seq.{slice, slice_empty, take-set-le, take-suc-set, drop-append-le, length-take-le}
use Rattle.std.proofs.lemmas.Bool.{not-true, not-false}
use Rattle.integers.proofs.Order.{by-test}
use Rattle.sheet.specs.declared.Comparison.TheVariants.{AtMost, LessThan}
use Rattle.sheet.specs.declared.Record.{Record}
use Rattle.sheet.specs.declared.Record.TheVariants.{Constant, X, Y, Z, Sum, Difference, Product, Square, Face, Both, Either, Complement}
use Rattle.sheet.specs.Table.{row_at}
use Rattle.sheet.specs.Records.{records_of}
use Rattle.records.specs.Offsets.{Offsets}
use Rattle.carried.specs.Words as carried
use Rattle.carried.specs.Words.{word, own_word, chosen, is_logical}
use Rattle.tape.specs.declared.Kind.{Kind}
use Rattle.tape.specs.declared.Kind.TheVariants as kind
use Rattle.tape.specs.declared.Word.{Word}
use Rattle.tape.specs.Memory.{record_by, has_state, word_in}
use Rattle.tape.specs.Listing.{word_of, listed_of, Listed}
use Rattle.records.proofs.Walking.{Walking, walking_start, walking-end, walking-more, walking-next, walking-record}

-- ---- a record's word
module _ (n : ℕ) where
  taken : (v w : Word) (r : Record) → word_in v ≡ word n r → ◌≡◌ {A = Option Word} (Some v) (Some w) → word_in w ≡ word n r
  taken v w r h e = let z : v ≡ w = cc in ap word_in (sym z) ∙ h

  word-is : (w : Word) (r : Record) → word_of n r ≡ Some w → word_in w ≡ word n r
  word-is w (Constant c) e = absurd (let z : ◌≡◌ {A = ℕ} 0 1 = cc in omega arith)
  word-is w X e = taken _ w X refl e
  word-is w Y e = taken _ w Y refl e
  word-is w Z e = taken _ w Z refl e
  word-is w (Sum a b) e = taken _ w (Sum a b) refl e
  word-is w (Difference a b) e = taken _ w (Difference a b) refl e
  word-is w (Product a b) e = taken _ w (Product a b) refl e
  word-is w (Square a) e = taken _ w (Square a) refl e
  word-is w (Face AtMost a) e = taken _ w (Face AtMost a) refl e
  word-is w (Face LessThan a) e = taken _ w (Face LessThan a) refl e
  word-is w (Both a b) e = taken _ w (Both a b) refl e
  word-is w (Either a b) e = taken _ w (Either a b) refl e
  word-is w (Complement a) e = taken _ w (Complement a) refl e

  -- a constant is in no list
  unlisted : (logical : Bool) (r : Record) → word_of n r ≡ None → listed_of logical (word n r) ≡ false
  unlisted true (Constant c) e = refl
  unlisted false (Constant c) e = refl
  unlisted logical X e = absurd (let z : ◌≡◌ {A = ℕ} 0 1 = cc in omega arith)
  unlisted logical Y e = absurd (let z : ◌≡◌ {A = ℕ} 0 1 = cc in omega arith)
  unlisted logical Z e = absurd (let z : ◌≡◌ {A = ℕ} 0 1 = cc in omega arith)
  unlisted logical (Sum a b) e = absurd (let z : ◌≡◌ {A = ℕ} 0 1 = cc in omega arith)
  unlisted logical (Difference a b) e = absurd (let z : ◌≡◌ {A = ℕ} 0 1 = cc in omega arith)
  unlisted logical (Product a b) e = absurd (let z : ◌≡◌ {A = ℕ} 0 1 = cc in omega arith)
  unlisted logical (Square a) e = absurd (let z : ◌≡◌ {A = ℕ} 0 1 = cc in omega arith)
  unlisted logical (Face AtMost a) e = absurd (let z : ◌≡◌ {A = ℕ} 0 1 = cc in omega arith)
  unlisted logical (Face LessThan a) e = absurd (let z : ◌≡◌ {A = ℕ} 0 1 = cc in omega arith)
  unlisted logical (Both a b) e = absurd (let z : ◌≡◌ {A = ℕ} 0 1 = cc in omega arith)
  unlisted logical (Either a b) e = absurd (let z : ◌≡◌ {A = ℕ} 0 1 = cc in omega arith)
  unlisted logical (Complement a) e = absurd (let z : ◌≡◌ {A = ℕ} 0 1 = cc in omega arith)

-- a word is listed by its kind
listed-by : (logical : Bool) (n : ℕ) (k : Kind) (a b : ℕ) → listed_of logical (word n (record_by k a b)) ≡ beq (has_state k) logical
listed-by true n kind.X a b = refl
listed-by false n kind.X a b = refl
listed-by true n kind.Y a b = refl
listed-by false n kind.Y a b = refl
listed-by true n kind.Z a b = refl
listed-by false n kind.Z a b = refl
listed-by true n kind.Sum a b = refl
listed-by false n kind.Sum a b = refl
listed-by true n kind.Difference a b = refl
listed-by false n kind.Difference a b = refl
listed-by true n kind.Product a b = refl
listed-by false n kind.Product a b = refl
listed-by true n kind.Square a b = refl
listed-by false n kind.Square a b = refl
listed-by true n kind.AtMost a b = refl
listed-by false n kind.AtMost a b = refl
listed-by true n kind.LessThan a b = refl
listed-by false n kind.LessThan a b = refl
listed-by true n kind.Both a b = refl
listed-by false n kind.Both a b = refl
listed-by true n kind.Either a b = refl
listed-by false n kind.Either a b = refl
listed-by true n kind.Complement a b = refl
listed-by false n kind.Complement a b = refl

-- ---- the chosen words grow
module _ (p : carried.Word → Bool) (rs : List Record) where
  abbrev one : ℕ → List carried.Word
  one n = cond (p (own_word rs n)) (own_word rs n ∷ []) []

  chosen-next : (n : ℕ) → chosen p rs (n + 1) ≡ chosen p rs n ++ one n
  unfolding chosen
  chosen-next n = rw (add-one n)

  chosen_more : (n m : ℕ) → n ≤ m → length (chosen p rs n) ≤ length (chosen p rs m)
  unfolding chosen
  chosen_more n zero h = let z : n ≡ 0 = omega arith in rw z (omega arith)
  chosen_more n (suc m) h =
      by-test (eqb n (suc m))
      (λ t. rw (eqb-true n (suc m) t) (omega arith))
      (λ t. omega (arith, chosen_more n m (omega (arith, eqb-false n (suc m) t)), length-append (chosen p rs m) (one m)))

-- ---- words at from..to, and one more
module _ (ws : List carried.Word) (from : ℕ) (tape₀ tape : List Word) (to : ℕ) (l : Listed ws from tape₀ tape to) where
  cut : (w : Word) → to < length tape → slice from (to + 1) (set tape to w) ≡ slice from to tape ++ w ∷ []
  cut w room =
      ap (λ (k : ℕ). slice from k (set tape to w)) (add-one to)
      ∙ ap (drop from) (take-suc-set tape to w room)
      ∙ drop-append-le from (take to tape) (w ∷ []) (omega (arith, l.ends, length-take-le to tape (omega arith)))

  longer : (w : Word) (x : carried.Word) → to < length tape → word_in w ≡ x → Listed (ws ++ x ∷ []) from tape₀ (set tape to w) (to + 1)
  longer w x room e =
      record {
        ends = omega (arith, l.ends, length-append ws (x ∷ []));
        same = length-set tape to w ∙ l.same;
        before = take-set-le from tape to w (omega (arith, l.ends)) ∙ l.before;
        words =
            ap (map word_in) (cut w room)
            ∙ map-append word_in (slice from to tape) (w ∷ [])
            ∙ ap₂ (λ (y : List carried.Word) (z : carried.Word). y ++ z ∷ []) l.words e;
      }

-- ---- the loop
module _ (s offsets : List ℕ) (tape₀ : List Word) (from : ℕ) (logical : Bool) where
  abbrev rs : List Record
  rs = records_of s

  abbrev words : ℕ → List carried.Word
  words n = chosen (listed_of logical) rs n

  pub record Putting (tape : List Word) (to n : ℕ) : Type 0 where
    pub walk : Walking s offsets n
    pub room : from + length (words (length rs)) ≤ length tape₀
    pub done : Listed (words n) from tape₀ tape to

  pub putting-start : Offsets offsets s → from + length (words (length rs)) ≤ length tape₀ → Putting tape₀ from 0
  unfolding chosen
  putting-start o h =
      record { walk = walking_start s offsets o; room = h; done = record { ends = omega arith; same = refl; before = refl; words = ap (map word_in) (slice_empty from tape₀) } }

  module _ (tape : List Word) (to n : ℕ) (p : Putting tape to n) where
    -- record n is r
    module _ (left : n < length offsets) (r : Record) (row : row_at s (get_or offsets n 0) ≡ Some r) where
      own : own_word rs n ≡ word n r
      own = ap (word n) (walking-record s offsets n p.walk left r row)

      skipped : listed_of logical (word n r) ≡ false → Putting tape to (n + 1)
      skipped e =
          let t : listed_of logical (own_word rs n) ≡ false = ap (listed_of logical) own ∙ e in
          let same : words (n + 1) ≡ words n ++ [] = rw t at (chosen-next (listed_of logical) rs n) in
          record { walk = walking-next s offsets n p.walk left; room = p.room; done = rw (same, append-nil (words n)) p.done }

      pub putting-none : word_of n r ≡ None → Putting tape to (n + 1)
      putting-none e = skipped (unlisted n logical r e)

      -- it has the word w, and b says whether it is logical
      module _ (o : Option Word) (made : o ≡ word_of n r) (w : Word) (is : o ≡ Some w) (b : Bool) (told : b ≡ has_state w.kind) where
        by-kind : listed_of logical (word n r) ≡ beq b logical
        by-kind = ap (listed_of logical) (sym (word-is n w r (sym made ∙ is))) ∙ listed-by logical w.number w.kind w.first w.second ∙ ap (λ (x : Bool). beq x logical) (sym told)

        pub putting-other : not (beq b logical) ≡ true → Putting tape to (n + 1)
        putting-other e = skipped (by-kind ∙ not-true (beq b logical) e)

        module _ (e : not (beq b logical) ≡ false) where
          grown : words (n + 1) ≡ words n ++ own_word rs n ∷ []
          grown =
              let t : listed_of logical (own_word rs n) ≡ true = ap (listed_of logical) own ∙ by-kind ∙ not-false (beq b logical) e in
              rw t at (chosen-next (listed_of logical) rs n)

          pub putting-room : to < length tape
          putting-room =
              omega (arith, ap length grown, length-append (words n) (own_word rs n ∷ []), chosen_more (listed_of logical) rs (n + 1) (length rs) (omega (arith, walking-more s offsets n p.walk left)), p.room, p.done.ends, p.done.same)

          pub putting-next : Putting (set tape to w) (to + 1) (n + 1)
          putting-next =
              record {
                walk = walking-next s offsets n p.walk left;
                room = p.room;
                done = rw grown (longer (words n) from tape₀ tape to p.done w (own_word rs n) putting-room (word-is n w r (sym made ∙ is) ∙ sym own));
              }

    pub putting-end : length offsets ≤ n → Listed (words (length rs)) from tape₀ tape to
    putting-end h = rw (walking-end s offsets n p.walk h) at p.done

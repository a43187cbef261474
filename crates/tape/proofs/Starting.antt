-- The tape of a good sheet's own records is what is carried to the root.
use Rattle.std.specs.Prelude.{Ok}
use mathlib.Core.Path.{◌≡◌, refl, sym, ap, ap₂, ◌∙◌}
use mathlib.Core.Bool.{Bool, true, false, cond, not, true≢false}
use mathlib.Core.List.{List, [], ◌∷◌, ◌++◌, map, map-append}
use Prim.Native.Nat.{ℕ, zero, suc, ◌+◌, ◌-◌, ◌≤◌, ◌<◌}
use native.Mathlib.Omega.{arith}
use lib.ListN.{length, get_or, drop, length-append}
use lib.Seq.{slice}
use Rattle.integers.proofs.Order.{by-test}
use Rattle.sheet.specs.declared.Record.{Record}
use Rattle.sheet.specs.declared.Record.TheVariants.{X}
use Rattle.sheet.specs.declared.Sort.TheVariants.{Logical}
use Rattle.sheet.specs.Records.{records_of}
use Rattle.sheet.specs.Operands.{sort_of, first_unmet, last_sort}
use Rattle.sheet.specs.Check.{check_of}
use Rattle.sheet.proofs.Good.{check-parts, sorted-good, records-few, good-some}
use Rattle.sheet.proofs.Unmet.{none-unmet}
use Rattle.cube.specs.declared.Cube.{Cube}
use Rattle.carried.specs.Words as words
use Rattle.carried.specs.Words.{Carried, word, own_word, chosen, is_logical, is_worked, first_words}
use Rattle.carried.proofs.First.{first-carried}
use Rattle.tape.specs.declared.Word.{Word}
use Rattle.tape.specs.Memory.{word_in, words_in}
use Rattle.tape.specs.Working.{OfSort}
use Rattle.tape.specs.Lent.{is_constant, in_place, AllIn, Carries, Starts}
use Rattle.tape.specs.Listing.{listed_of, Listed}
use Rattle.tape.proofs.Slices.{slice-split}

-- ---- the words that are listed
most-one : {A : Type 0} (b : Bool) (x : A) → length (cond b (x ∷ []) []) ≤ 1
most-one true x = omega arith
most-one false x = omega arith

listed-sort : (logical : Bool) (n : ℕ) (r : Record) → listed_of logical (word n r) ≡ true → OfSort logical r
listed-sort true n r e = e
listed-sort false n r e = by-test (is_logical (sort_of r)) (λ t. absurd (true≢false (sym (rw t at e)))) (λ t. t)

module _ (rs : List Record) where
  abbrev listed : Bool → ℕ → List words.Word
  listed logical n = chosen (listed_of logical) rs n

  abbrev one : Bool → ℕ → List words.Word
  one logical n = cond (listed_of logical (own_word rs n)) (own_word rs n ∷ []) []

  -- a record is in one list at most
  one-most : (n : ℕ) → length (one false n) + length (one true n) ≤ 1
  one-most n =
      by-test (is_logical (sort_of (get_or rs n X)))
      (λ t. rw t (omega arith))
      (λ t. rw t (omega (arith, most-one (not (is_constant (get_or rs n X))) (own_word rs n))))

  both-few : (n : ℕ) → length (listed false n) + length (listed true n) ≤ n
  unfolding chosen
  both-few zero = omega arith
  both-few (suc n) = omega (arith, both-few n, one-most n, length-append (listed false n) (one false n), length-append (listed true n) (one true n))

  -- and each list has records of its sort
  in-append : (logical : Bool) (ws vs : List words.Word) → AllIn rs logical ws → AllIn rs logical vs → AllIn rs logical (ws ++ vs)
  in-append logical [] vs t u = u
  in-append logical (w ∷ ws) vs t u = (t.0, t.1, t.2, in-append logical ws vs t.3 u)

  listed_in : (logical : Bool) (n : ℕ) → n ≤ length rs → AllIn rs logical (listed logical n)
  unfolding chosen
  listed_in logical zero h = tt
  listed_in logical (suc n) h =
      in-append logical (listed logical n) (one logical n) (listed_in logical n (omega arith))
      (by-test (listed_of logical (own_word rs n))
      (λ t. let s = listed-sort logical n (get_or rs n X) t in rw t (s, s, omega arith, tt))
      (λ t. rw t tt))

  -- where constants are in place
  works-are : (n : ℕ) → listed false n ≡ chosen (is_worked (in_place rs)) rs n
  unfolding chosen
  works-are zero = refl
  works-are (suc n) = ap (λ (l : List words.Word). l ++ one false n) (works-are n)

-- the last record
last-is : (r : Record) (rs : List Record) → last_sort (r ∷ rs) ≡ sort_of (get_or (r ∷ rs) (length rs) X)
unfolding last_sort
last-is r [] = refl
last-is r (q ∷ rs) = last-is q rs

last-logical : (rs : List Record) → last_sort rs ≡ Logical → 0 < length rs → is_logical (sort_of (get_or rs (length rs - 1) X)) ≡ true
last-logical [] e h = absurd (omega arith)
last-logical (r ∷ rs) e h =
    let n : suc (length rs) - 1 ≡ length rs = omega arith in
    ap (λ (k : ℕ). is_logical (sort_of (get_or (r ∷ rs) k X))) n ∙ ap is_logical (sym (last-is r rs) ∙ e)

-- ---- a good sheet
module _ (s : List ℕ) (count : ℕ) (good : check_of s ≡ Ok count) where
  abbrev rs : List Record
  rs = records_of s

  sorted : (count ≡ length rs) × (first_unmet [] rs ≡ length rs) × (last_sort rs ≡ Logical)
  sorted = sorted-good rs count (check-parts s count good).3

  pub start-count : count ≡ length rs
  start-count = sorted.0

  pub start-some : 0 < count
  start-some = good-some s (check_of s) refl count good

  pub start-few : count - 1 < 256
  start-few = omega (arith, start-count, start-some, records-few s)

  carried : (q : Cube) → Carried rs q (in_place rs) (first_words (in_place rs) rs) (length rs - 1)
  carried q =
      let some : 0 < length rs = omega (arith, start-count, start-some) in
      first-carried rs q (none-unmet rs sorted.1) (in_place rs) some (last-logical rs sorted.2 some)

  abbrev ws : Bool → List words.Word
  ws logical = chosen (listed_of logical) rs (length rs)

  few : length (ws false) + length (ws true) ≤ 256
  few = omega (arith, both-few rs (length rs), records-few s)

  -- there is room for both lists
  module _ (tape : List Word) (from : ℕ) (long : from + 256 ≤ length tape) where
    pub start-works : from + length (ws false) ≤ length tape
    start-works = omega (arith, few, long)

    module _ (tape₁ : List Word) (mid : ℕ) (l : Listed (ws false) from tape tape₁ mid) where
      pub start-states : mid + length (ws true) ≤ length tape₁
      start-states = omega (arith, few, long, l.ends, l.same)

      module _ (tape₂ : List Word) (to : ℕ) (k : Listed (ws true) mid tape₁ tape₂ to) where
        first : words_in tape₂ from mid ≡ ws false
        first = ap (λ (t : List Word). map word_in (drop from t)) k.before ∙ l.words

        both : words_in tape₂ from to ≡ first_words (in_place rs) rs
        both =
            ap (map word_in) (slice-split from mid to tape₂ (omega (arith, l.ends)) (omega (arith, k.ends)) (omega (arith, start-states, k.ends, k.same)))
            ∙ map-append word_in (slice from mid tape₂) (slice mid to tape₂)
            ∙ ap₂ (λ (x y : List words.Word). x ++ y) first k.words
            ∙ ap (λ (x : List words.Word). x ++ chosen (listed_of true) rs (length rs)) (works-are rs (length rs))

        carries : (q : Cube) → Carries rs q tape₂ (record { from = from; mid = mid; to = to; solid = count - 1 })
        carries q =
            record {
              parts = record { first = omega (arith, l.ends); second = omega (arith, k.ends); among = omega (arith, start-states, k.ends, k.same) };
              works = rw first (listed_in rs false (length rs) (omega arith));
              states = rw k.words (listed_in rs true (length rs) (omega arith));
              carried = rw (both, start-count) (carried q);
            }

        pub starts : Starts rs tape₂ (record { from = from; mid = mid; to = to; solid = count - 1 })
        starts = carries

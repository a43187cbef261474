-- The two loops that work words out: those that are left, worked out from here, give what all give.
use Rattle.std.specs.Prelude.{Err, Ok, Result}
use mathlib.Core.Path.{◌≡◌, refl, sym, ap, ◌∙◌}
use mathlib.Core.List.{List, [], ◌∷◌, map}
use Prim.Native.Nat.{ℕ, zero, suc, ◌+◌, ◌≤◌, ◌<◌}
use native.Mathlib.Omega.{arith}
use borrow.Author.Tests.{eqb-true, eqb-false}
use lib.Dec.{eqb}
use lib.ListN.{length, get_or, drop, set, length-set}
use lib.Seq.{drop-cons, get_or-set_same, get_or-set_other}
use Rattle.integers.proofs.Order.{by-test}
use Rattle.interval.specs.declared.Interval.{Interval}
use Rattle.interval.specs.Limit.{SmallEnds, bounded_of}
use Rattle.interval.proofs.Facts.{ends-within, bounded-within, within-is}
use Rattle.replies.specs.declared.End.{End}
use Rattle.cube.specs.declared.Cube.{Cube}
use Rattle.colour.specs.declared.State.{State}
use Rattle.colour.specs.declared.State.TheVariants.{Out}
use Rattle.colour.specs.Bounds.{none}
use Rattle.colour.proofs.Arms.{small-set}
use Rattle.carried.specs.Words as carried
use Rattle.carried.specs.Words.{put}
use Rattle.tape.specs.declared.Word.{Word}
use Rattle.tape.specs.Memory.{word_in, bounds_in, state_in}
use Rattle.tape.specs.Working.{bounds_word, run_bounds, AllSmall, Filled, state_word, run_states, Stated}

-- ---- the words from i on
abbrev pub left : List Word → ℕ → List carried.Word
left words i = map word_in (drop i words)

next_word : (words : List Word) (i : ℕ) (d : Word) → i < length words → left words i ≡ word_in (get_or words i d) ∷ left words (suc i)
next_word words i d h = ap (map word_in) (drop-cons words i d h)

no_word : (words : List Word) (i : ℕ) → length words ≤ i → left words i ≡ []
no_word [] zero h = refl
no_word [] (suc i) h = refl
no_word (w ∷ words) zero h = absurd (omega arith)
no_word (w ∷ words) (suc i) h = no_word words i (omega arith)

-- a value stored in a list that is read by number
stored : {A : Type 0} (l : List A) (n : ℕ) (v d : A) → n < length l → (λ a. get_or (set l n v) a d) ≡ put (λ a. get_or l a d) n v
unfolding put
stored l n v d h = λ i a. at a i
  where
    at : (a : ℕ) → get_or (set l n v) a d ≡ put (λ a. get_or l a d) n v a
    at a = by-test (eqb a n) (λ t. rw t (ap (λ k. get_or (set l n v) k d) (eqb-true a n t) ∙ get_or-set_same l n v d h)) (λ t. rw t (get_or-set_other l n a v d (eqb-false a n t)))

-- ---- bounds
module _ (words : List Word) (q : Cube) (bounds₀ : List Interval) where
  pub record Bounding (bounds : List Interval) (i : ℕ) : Type 0 where
    pub long : length bounds ≡ 256
    pub within : (a : ℕ) → SmallEnds (bounds_in bounds a)
    pub small : AllSmall q (bounds_in bounds) (left words i)
    pub rest : run_bounds q (bounds_in bounds) (left words i) ≡ run_bounds q (bounds_in bounds₀) (map word_in words)

  pub bounding-start : length bounds₀ ≡ 256 → ((a : ℕ) → SmallEnds (bounds_in bounds₀ a)) → AllSmall q (bounds_in bounds₀) (map word_in words) → Bounding bounds₀ 0
  bounding-start h w k = record { long = h; within = w; small = k; rest = refl }

  module _ (bounds : List Interval) (i : ℕ) (k : Bounding bounds i) where
    module _ (more : i < length words) (d : Word) where
      abbrev w : Word
      w = get_or words i d

      abbrev made : Interval
      made = bounds_word q (bounds_in bounds) (word_in w)

      smalls : AllSmall q (bounds_in bounds) (word_in w ∷ left words (suc i))
      smalls = rw (next_word words i d more) at k.small

      -- so the loop does not return early
      pub bounding-never : (b : Result Interval End) → b ≡ bounded_of made → (end : End) → b ≡ Err end → Filled q (map word_in words) bounds₀ bounds
      bounding-never b e end p = let z : Ok made ≡ Err end = bounded-within made (ends-within made smalls.0) ∙ sym e ∙ p in let y : ◌≡◌ {A = ℕ} 0 1 = cc in absurd (omega arith)

      pub bounding-next : w.number < 256 → (b : Result Interval End) (v : Interval) → b ≡ bounded_of made → b ≡ Ok v → Bounding (set bounds w.number v) (i + 1)
      unfolding run_bounds
      bounding-next few b v e f =
          let is = within-is b made e v f in
          let one : i + 1 ≡ suc i = omega arith in
          let there : bounds_in (set bounds w.number v) ≡ put (bounds_in bounds) w.number made =
          stored bounds w.number v none (omega (arith, k.long)) ∙ ap (put (bounds_in bounds) w.number) is in
          record {
            long = length-set bounds w.number v ∙ k.long;
            within = small-set bounds w.number v (rw is smalls.0) k.within;
            small = rw (one, there) smalls.1;
            rest = rw (one, there) (sym (ap (run_bounds q (bounds_in bounds)) (next_word words i d more)) ∙ k.rest);
          }

      -- as the struct keeps them
      pub bounding-small : w.number < 256 → (b : Result Interval End) (v : Interval) → b ≡ bounded_of made → b ≡ Ok v → (a : ℕ) → SmallEnds (bounds_in (set bounds w.number v) a)
      bounding-small few b v e f = (bounding-next few b v e f).within

    pub bounding-end : length words ≤ i → Filled q (map word_in words) bounds₀ bounds
    unfolding run_bounds
    bounding-end stop =
        record { each = λ a. sym (ap (λ (ws : List carried.Word). run_bounds q (bounds_in bounds) ws a) (no_word words i stop)) ∙ ap (λ (f : ℕ → Interval). f a) k.rest }

-- ---- states
module _ (words : List Word) (b : ℕ → Interval) (colours₀ : List State) where
  pub record Stating (colours : List State) (i : ℕ) : Type 0 where
    pub long : length colours ≡ 256
    pub rest : run_states b (state_in colours) (left words i) ≡ run_states b (state_in colours₀) (map word_in words)

  pub stating-start : length colours₀ ≡ 256 → Stating colours₀ 0
  stating-start h = record { long = h; rest = refl }

  module _ (colours : List State) (i : ℕ) (k : Stating colours i) where
    pub stating-next : i < length words → (d : Word) → (get_or words i d).number < 256 → (v : State) → v ≡ state_word b (state_in colours) (word_in (get_or words i d))
        → Stating (set colours (get_or words i d).number v) (i + 1)
    unfolding run_states
    stating-next more d few v is-v =
        let w = get_or words i d in
        let one : i + 1 ≡ suc i = omega arith in
        let there : state_in (set colours w.number v) ≡ put (state_in colours) w.number v = stored colours w.number v Out (omega (arith, k.long)) in
        record {
          long = length-set colours w.number v ∙ k.long;
          rest = rw (one, there, is-v) (sym (ap (run_states b (state_in colours)) (next_word words i d more)) ∙ k.rest);
        }

    pub stating-end : length words ≤ i → Stated b (map word_in words) colours₀ colours
    unfolding run_states
    stating-end stop =
        record { each = λ a. sym (ap (λ (ws : List carried.Word). run_states b (state_in colours) ws a) (no_word words i stop)) ∙ ap (λ (f : ℕ → State). f a) k.rest }

-- A tape is worked out in two loops: the bounds of its arithmetic records, then the states of its logical ones.
use mathlib.Core.Path.{◌≡◌, refl, sym, ap, ◌∙◌}
use mathlib.Core.Bool.{true, false, true≢false}
use mathlib.Core.List.{List, [], ◌∷◌, ◌++◌}
use Prim.Native.Nat.{ℕ}
use borrow.Author.Tests.{eqb-true}
use lib.Dec.{eqb}
use Rattle.integers.proofs.Order.{by-test}
use Rattle.interval.specs.declared.Interval.{Interval}
use Rattle.sheet.specs.declared.Record.{Record}
use Rattle.sheet.specs.declared.Record.TheVariants.{Constant, X, Y, Z, Sum, Difference, Product, Square, Face, Both, Either, Complement}
use Rattle.sheet.specs.Operands.{first_of, second_of}
use Rattle.cube.specs.declared.Cube.{Cube}
use Rattle.colour.specs.declared.State.{State}
use Rattle.colour.specs.declared.State.TheVariants.{Mixed}
use Rattle.colour.specs.Bounds.{none, bounds_of}
use Rattle.colour.specs.States.{state_with, state_of}
use Rattle.colour.specs.Entries.{Entry, face_bounds}
use Rattle.carried.specs.Words.{Word, entry_by, put, run}
use Rattle.tape.specs.Working.{OfSort, bounds_word, run_bounds, state_word, run_states}

-- bounds and states by number, as entries
abbrev pub both : (ℕ → Interval) → (ℕ → State) → ℕ → Entry
both b s a = record { bounds = b a; state = s a }

pub run-append : (q : Cube) (ws vs : List Word) (e : ℕ → Entry) → run q e (ws ++ vs) ≡ run q (run q e ws) vs
unfolding run
run-append q [] vs e = refl
run-append q (w ∷ ws) vs e = run-append q ws vs (put e w.number (entry_by q e w))

-- an arithmetic record says nothing, and a logical one has no bounds
quiet-state : (r : Record) → OfSort false r → (n : ℕ) (i : Interval) (s t : State) → state_of n i s t r ≡ Mixed
unfolding state_with
quiet-state (Constant c) h n i s t = refl
quiet-state X h n i s t = refl
quiet-state Y h n i s t = refl
quiet-state Z h n i s t = refl
quiet-state (Sum a b) h n i s t = refl
quiet-state (Difference a b) h n i s t = refl
quiet-state (Product a b) h n i s t = refl
quiet-state (Square a) h n i s t = refl
quiet-state (Face by a) h n i s t = absurd (true≢false h)
quiet-state (Both a b) h n i s t = absurd (true≢false h)
quiet-state (Either a b) h n i s t = absurd (true≢false h)
quiet-state (Complement a) h n i s t = absurd (true≢false h)

no-bounds : (q : Cube) (r : Record) → OfSort true r → (i j : Interval) → bounds_of q i j r ≡ none
unfolding bounds_of
no-bounds q (Constant c) h i j = absurd (true≢false (sym h))
no-bounds q X h i j = absurd (true≢false (sym h))
no-bounds q Y h i j = absurd (true≢false (sym h))
no-bounds q Z h i j = absurd (true≢false (sym h))
no-bounds q (Sum a b) h i j = absurd (true≢false (sym h))
no-bounds q (Difference a b) h i j = absurd (true≢false (sym h))
no-bounds q (Product a b) h i j = absurd (true≢false (sym h))
no-bounds q (Square a) h i j = absurd (true≢false (sym h))
no-bounds q (Face by a) h i j = refl
no-bounds q (Both a b) h i j = refl
no-bounds q (Either a b) h i j = refl
no-bounds q (Complement a) h i j = refl

-- words of arithmetic records, of which nothing is said, and of logical ones, which have no bounds
abbrev pub Worked : (ℕ → State) → List Word → Type 0
Worked s [] = Unit {0}
Worked s (w ∷ ws) = (OfSort false w.what) × (s w.number ≡ Mixed) × Worked s ws

abbrev pub Judged : (ℕ → Interval) → List Word → Type 0
Judged b [] = Unit {0}
Judged b (w ∷ ws) = (OfSort true w.what) × (b w.number ≡ none) × Judged b ws

module _ (q : Cube) where
  pub one-bounds : (b : ℕ → Interval) (s : ℕ → State) (w : Word) → OfSort false w.what → s w.number ≡ Mixed
      → put (both b s) w.number (entry_by q (both b s) w) ≡ both (put b w.number (bounds_word q b w)) s
  unfolding put entry_by bounds_word
  one-bounds b s w h k = λ i a. at a i
    where
      at : (a : ℕ) → put (both b s) w.number (entry_by q (both b s) w) a ≡ both (put b w.number (bounds_word q b w)) s a
      at a =
          by-test (eqb a w.number)
          (λ t. rw t (λ i. record { bounds = bounds_word q b w; state = (quiet-state w.what h w.number (face_bounds q (both b s (first_of w.what))) (s (first_of w.what)) (s (second_of w.what)) ∙ sym k ∙ ap s (sym (eqb-true a w.number t))) i }))
          (λ t. rw t)

  one_state : (b : ℕ → Interval) (s : ℕ → State) (w : Word) → OfSort true w.what → b w.number ≡ none
      → put (both b s) w.number (entry_by q (both b s) w) ≡ both b (put s w.number (state_word b s w))
  unfolding put entry_by state_word face_bounds
  one_state b s w h k = λ i a. at a i
    where
      at : (a : ℕ) → put (both b s) w.number (entry_by q (both b s) w) a ≡ both b (put s w.number (state_word b s w)) a
      at a =
          by-test (eqb a w.number)
          (λ t. rw t (λ i. record { bounds = (no-bounds q w.what h (b (first_of w.what)) (b (second_of w.what)) ∙ sym k ∙ ap b (sym (eqb-true a w.number t))) i; state = state_word b s w }))
          (λ t. rw t)

  pub run-bounds : (ws : List Word) (b : ℕ → Interval) (s : ℕ → State) → Worked s ws → run q (both b s) ws ≡ both (run_bounds q b ws) s
  unfolding run run_bounds
  run-bounds [] b s h = refl
  run-bounds (w ∷ ws) b s h =
      ap (λ (e : ℕ → Entry). run q e ws) (one-bounds b s w h.0 h.1) ∙ run-bounds ws (put b w.number (bounds_word q b w)) s h.2

  pub run-states : (ws : List Word) (b : ℕ → Interval) (s : ℕ → State) → Judged b ws → run q (both b s) ws ≡ both b (run_states b s ws)
  unfolding run run_states
  run-states [] b s h = refl
  run-states (w ∷ ws) b s h =
      ap (λ (e : ℕ → Entry). run q e ws) (one_state b s w h.0 h.1) ∙ run-states ws b (put s w.number (state_word b s w)) h.2

  -- what the two loops leave is what the tape gives
  pub run-both : (ws vs : List Word) (b : ℕ → Interval) (s : ℕ → State) → Worked s ws → Judged (run_bounds q b ws) vs
      → run q (both b s) (ws ++ vs) ≡ both (run_bounds q b ws) (run_states (run_bounds q b ws) s vs)
  run-both ws vs b s h k =
      run-append q ws vs (both b s) ∙ ap (λ (e : ℕ → Entry). run q e vs) (run-bounds ws b s h) ∙ run-states vs (run_bounds q b ws) s k

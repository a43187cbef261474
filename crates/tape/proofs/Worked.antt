-- Working a tape out over a cube gives its records their entries there, and leaves all places as they are to be.
use mathlib.Core.Path.{◌≡◌, refl, sym, ap, ◌∙◌}
use mathlib.Core.Bool.{Bool, true, false, true≢false}
use mathlib.Core.List.{List, [], ◌∷◌, ◌++◌, map}
use Prim.Native.Nat.{ℕ, zero, suc, ◌-◌, ◌<◌}
use native.Mathlib.Omega.{arith}
use borrow.Author.Tests.{eqb-true}
use lib.Dec.{eqb}
use lib.IntN.{ℤ}
use lib.ListN.{length, get_or, take, drop}
use lib.Seq.{slice}
use Rattle.integers.proofs.Order.{by-test}
use Rattle.interval.specs.declared.Interval.{Interval}
use Rattle.interval.specs.Rules.{only}
use Rattle.interval.specs.Limit.{SmallEnds}
use Rattle.sheet.specs.declared.Record.{Record}
use Rattle.sheet.specs.declared.Record.TheVariants.{Constant, X, Y, Z, Sum, Difference, Product, Square, Face, Both, Either, Complement}
use Rattle.sheet.specs.Operands.{sort_of}
use Rattle.sheet.proofs.Along.{entry_at}
use Rattle.cube.specs.declared.Cube.{Cube}
use Rattle.cube.specs.Points.{CubeInside}
use Rattle.colour.specs.declared.State.{State}
use Rattle.colour.specs.declared.State.TheVariants.{Mixed}
use Rattle.colour.specs.Bounds.{bounds_of}
use Rattle.colour.specs.States.{state_with}
use Rattle.colour.specs.Entries.{Entry, blank, entry_with, entry_of, entries, first_past}
use Rattle.colour.proofs.Smaller.{none-keep}
use Rattle.carried.specs.Words as carried
use Rattle.carried.specs.Words.{over, entry_by, AllTrue, more, Closed, listed, Carried, put, is_logical}
use Rattle.cube.proofs.Cubes.{inside-itself}
use Rattle.carried.proofs.Running.{right-entry, right-more, run-right, listed-old}
use Rattle.tape.specs.declared.Tape.{Tape}
use Rattle.tape.specs.declared.Word.{Word}
use Rattle.tape.specs.Memory.{word_in, words_in, bounds_in, state_in}
use Rattle.tape.specs.Working.{OfSort, bounds_word, run_bounds, AllSmall, Filled, state_word, run_states, Stated}
use Rattle.tape.specs.Lent.{is_constant, in_place, Lent, AllIn, Carries, Stand}
use Rattle.tape.proofs.Phases.{both, Worked, Judged, one-bounds, run-both}
use Rattle.tape.proofs.Slices.{slice-split, slice-as}

-- ---- two parts of a tape
map-append : (xs ys : List Word) → map word_in (xs ++ ys) ≡ map word_in xs ++ map word_in ys
map-append [] ys = refl
map-append (x ∷ xs) ys = ap (λ (l : List carried.Word). word_in x ∷ l) (map-append xs ys)

all_first : (rs : List Record) (q : Cube) (ws vs : List carried.Word) → AllTrue rs q (ws ++ vs) → AllTrue rs q ws
all_first rs q [] vs t = tt
all_first rs q (w ∷ ws) vs t = (t.0, all_first rs q ws vs t.1)

closed-first : (ws vs : List carried.Word) (known : ℕ → Bool) → Closed known (ws ++ vs) → Closed known ws
closed-first [] vs known c = tt
closed-first (w ∷ ws) vs known c = (c.0, closed-first ws vs (more known w.number) c.1)

pub in_parts : (rs : List Record) (q : Cube) (tape : List Word) (t : Tape) → Carries rs q tape t → words_in tape t.from t.to ≡ words_in tape t.from t.mid ++ words_in tape t.mid t.to
in_parts rs q tape t carries =
    let p = carries.parts in
    ap (map word_in) (slice-split t.from t.mid t.to tape p.first p.second p.among) ∙ map-append (slice t.from t.mid tape) (slice t.mid t.to tape)

-- ---- what each loop leaves alone
module _ (rs : List Record) (a : ℕ) where
  apart : (logical : Bool) (n : ℕ) → OfSort logical (get_or rs a X) → (OfSort logical (get_or rs n X) → ⊥) → eqb a n ≡ false
  apart logical n s k = by-test (eqb a n) (λ t. absurd (k (ap (λ (x : ℕ). is_logical (sort_of (get_or rs x X))) (sym (eqb-true a n t)) ∙ s))) (λ t. t)

  bounds-left : (q : Cube) (ws : List carried.Word) (b : ℕ → Interval) → AllIn rs false ws → OfSort true (get_or rs a X) → run_bounds q b ws a ≡ b a
  unfolding run_bounds put
  bounds-left q [] b h s = refl
  bounds-left q (w ∷ ws) b h s = bounds-left q ws (put b w.number (bounds_word q b w)) h.3 s ∙ rw (apart true w.number s (λ t. true≢false (sym t ∙ h.1)))

  states-left : (b : ℕ → Interval) (ws : List carried.Word) (s : ℕ → State) → AllIn rs true ws → OfSort false (get_or rs a X) → run_states b s ws a ≡ s a
  unfolding run_states put
  states-left b [] s h k = refl
  states-left b (w ∷ ws) s h k = states-left b ws (put s w.number (state_word b s w)) h.3 k ∙ rw (apart false w.number k (λ t. true≢false (sym h.1 ∙ t)))

-- ---- a constant's entry
constant-is : (r : Record) → is_constant r ≡ true → {A : Type 0} → ((c : ℤ) → r ≡ Constant c → A) → A
constant-is (Constant c) e f = f c refl
constant-is X e f = absurd (true≢false (sym e))
constant-is Y e f = absurd (true≢false (sym e))
constant-is Z e f = absurd (true≢false (sym e))
constant-is (Sum a b) e f = absurd (true≢false (sym e))
constant-is (Difference a b) e f = absurd (true≢false (sym e))
constant-is (Product a b) e f = absurd (true≢false (sym e))
constant-is (Square a) e f = absurd (true≢false (sym e))
constant-is (Face by a) e f = absurd (true≢false (sym e))
constant-is (Both a b) e f = absurd (true≢false (sym e))
constant-is (Either a b) e f = absurd (true≢false (sym e))
constant-is (Complement a) e f = absurd (true≢false (sym e))

-- it is a record of the sheet
constant-few : (rs : List Record) (a : ℕ) (c : ℤ) → get_or rs a X ≡ Constant c → a < length rs
constant-few [] a c e = absurd (true≢false (sym (ap is_constant e)))
constant-few (r ∷ rs) zero c e = omega arith
constant-few (r ∷ rs) (suc a) c e = omega (arith, constant-few rs a c e)

constant-over : (rs : List Record) (q : Cube) (a : ℕ) (c : ℤ) → get_or rs a X ≡ Constant c → over rs q a ≡ record { bounds = only c; state = Mixed }
unfolding entry_with bounds_of state_with
constant-over rs q a c e = entry_at (entry_of q) rs a blank (constant-few rs a c e) ∙ ap (entry_of q (entries q (take a rs))) e

-- ---- the tape
module _ (rs : List Record) (q : Cube) (none-past : first_past rs q ≡ []) where
  abbrev whole : CubeInside q q
  whole = inside-itself q

  abbrev Right : (ℕ → Bool) → (ℕ → Entry) → Type 0
  Right known e = (a : ℕ) → known a ≡ true → e a ≡ over rs q a

  -- no bounds pass the limit on the way
  all_small : (ws : List carried.Word) (known : ℕ → Bool) (b : ℕ → Interval) (s : ℕ → State) → AllTrue rs q ws → Closed known ws → Worked s ws → Right known (both b s) → AllSmall q b ws
  unfolding entry_by bounds_word
  all_small [] known b s t c h k = tt
  all_small (w ∷ ws) known b s t c h k =
      let e = right-entry rs q q whole known (both b s) w t.0 c.0 k in
      let small : SmallEnds (bounds_word q b w) = rw (ap (λ (x : Entry). x.bounds) e) (none-keep rs q none-past w.number) in
      let next : Right (more known w.number) (both (put b w.number (bounds_word q b w)) s) =
      λ a u. sym (ap (λ (f : ℕ → Entry). f a) (one-bounds q b s w h.0 h.1)) ∙ right-more rs q q whole known (both b s) w t.0 c.0 k a u in
      (small, all_small ws (more known w.number) (put b w.number (bounds_word q b w)) s t.1 c.1 h.2 next)

  module _ (tape : List Word) (t : Tape) (carries : Carries rs q tape t) where
    abbrev works : List carried.Word
    works = words_in tape t.from t.mid

    abbrev states : List carried.Word
    states = words_in tape t.mid t.to

    abbrev parts : List carried.Word
    parts = works ++ states

    -- as the two loops are given them
    works-as : works ≡ map word_in (take (t.mid - t.from) (drop t.from tape))
    works-as = ap (map word_in) (slice-as t.from t.mid tape carries.parts.first (omega (arith, carries.parts.second, carries.parts.among)))

    states-as : states ≡ map word_in (take (t.to - t.mid) (drop t.mid tape))
    states-as = ap (map word_in) (slice-as t.mid t.to tape carries.parts.second carries.parts.among)

    carried-parts : Carried rs q (in_place rs) parts t.solid
    carried-parts = rw (in_parts rs q tape t carries) at carries.carried

    module _ (entries₀ : List Interval) (colours : List State) (lent : Lent rs entries₀ colours) where
      abbrev b : ℕ → Interval
      b = bounds_in entries₀

      abbrev s : ℕ → State
      s = state_in colours

      in_place_lem : Right (in_place rs) (both b s)
      in_place_lem a e =
          constant-is (get_or rs a X) e (λ c h.
          let few = constant-few rs a c h in
          (λ i. record { bounds = lent.constants a c h i; state = lent.states a few (ap (λ (r : Record). is_logical (sort_of r)) h) i }) ∙ sym (constant-over rs q a c h))

      worked : (ws : List carried.Word) → AllIn rs false ws → Worked s ws
      worked [] h = tt
      worked (w ∷ ws) h = (h.0, lent.states w.number h.2 h.1, worked ws h.3)

      pub works-small : AllSmall q b (map word_in (take (t.mid - t.from) (drop t.from tape)))
      works-small =
          rw (← works-as)
          (all_small works (in_place rs) b s (all_first rs q works states carried-parts.holds) (closed-first works states (in_place rs) carried-parts.closed) (worked works carries.works) in_place_lem)

      judged : (ws : List carried.Word) → AllIn rs true ws → Judged (run_bounds q b works) ws
      judged [] h = tt
      judged (w ∷ ws) h = (h.0, bounds-left rs w.number q works b carries.works h.1 ∙ lent.bounds w.number h.2 h.1, judged ws h.3)

      -- all records of the tape, and the constants, have their entries
      all_right : Right (listed (in_place rs) parts) (both (run_bounds q b works) (run_states (run_bounds q b works) s states))
      all_right a u =
          sym (ap (λ (e : ℕ → Entry). e a) (run-both q works states b s (worked works carries.works) (judged states carries.states)))
          ∙ run-right rs q q whole parts (in_place rs) (both b s) carried-parts.holds carried-parts.closed in_place_lem a u

      module _ (entries' : List Interval) (filled : Filled q (map word_in (take (t.mid - t.from) (drop t.from tape))) entries₀ entries')
          (colours' : List State) (stated : Stated (bounds_in entries') (map word_in (take (t.to - t.mid) (drop t.mid tape))) colours colours') where
        filled-each : (a : ℕ) → bounds_in entries' a ≡ run_bounds q b works a
        filled-each a = rw works-as (filled.each a)

        stated-each : (a : ℕ) → state_in colours' a ≡ run_states (bounds_in entries') s states a
        stated-each a = rw states-as (stated.each a)

        new-bounds : bounds_in entries' ≡ run_bounds q b works
        new-bounds = λ i a. filled-each a i

        new-states : state_in colours' ≡ run_states (run_bounds q b works) s states
        new-states = (λ i a. stated-each a i) ∙ ap (λ (x : ℕ → Interval). run_states x s states) new-bounds

        new-right : Right (listed (in_place rs) parts) (both (bounds_in entries') (state_in colours'))
        new-right a u = (λ i. record { bounds = new-bounds i a; state = new-states i a }) ∙ all_right a u

        pub stand : Stand rs q tape t colours'
        stand a u = ap (λ (e : Entry). e.state) (new-right a (ap (λ (ws : List carried.Word). listed (in_place rs) ws a) (sym (in_parts rs q tape t carries)) ∙ u))

        pub lent_still : Lent rs entries' colours'
        lent_still =
            record {
              bounds = λ a h k. filled-each a ∙ bounds-left rs a q works b carries.works k ∙ lent.bounds a h k;
              states = λ a h k. stated-each a ∙ states-left rs a (bounds_in entries') states s carries.states k ∙ lent.states a h k;
              constants = λ a c h. ap (λ (e : Entry). e.bounds) (new-right a (listed-old parts (in_place rs) a (ap is_constant h)) ∙ constant-over rs q a c h);
            }

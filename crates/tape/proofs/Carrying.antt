-- The tape for the children of a cube: what shortening leaves is carried down from it.
use mathlib.Core.Path.{◌≡◌, refl, sym, ap, ◌∙◌}
use mathlib.Core.Bool.{Bool, true, false}
use mathlib.Core.List.{List, [], ◌∷◌, ◌++◌, map}
use Prim.Native.Nat.{ℕ, suc, ◌+◌, ◌-◌, ◌≤◌}
use native.Mathlib.Omega.{arith}
use lib.ListN.{length, get_or, drop, length-map}
use lib.Seq.{slice, length-slice, drop-drop}
use Rattle.integers.proofs.Order.{by-test}
use Rattle.sheet.specs.declared.Record.{Record}
use Rattle.sheet.specs.declared.Record.TheVariants.{Constant, X, Y, Z, Sum, Difference, Product, Square, Face, Both, Either, Complement}
use Rattle.sheet.specs.Operands.{sort_of}
use Rattle.cube.specs.declared.Cube.{Cube}
use Rattle.cube.specs.Points.{CubeInside}
use Rattle.colour.specs.declared.State.{State}
use Rattle.carried.specs.Words as carried
use Rattle.carried.specs.Words.{state_over, word, renamed, twin_after, rename_all, needed, kept, is_logical}
use Rattle.tape.specs.declared.Tape.{Tape}
use Rattle.tape.specs.declared.Word.{Word}
use Rattle.tape.specs.Memory.{word_in, words_in, uses_in, state_in}
use Rattle.tape.specs.Working.{OfSort}
use Rattle.tape.specs.Shortening.{Shortened}
use Rattle.tape.specs.Lent.{in_place, AllIn, Carries, Stand, Stays}
use Rattle.cube.proofs.Cubes.{inside-itself}
use Rattle.carried.proofs.Shorter.{carried-inner}
use Rattle.tape.proofs.Shortened.{shortened-carried}
use Rattle.tape.proofs.Worked.{in_parts}
use Rattle.tape.proofs.Slices.{slice-later}

-- ---- a renamed record is of the same sort
same-sort : (twin : ℕ → ℕ) (r : Record) → sort_of (renamed twin r) ≡ sort_of r
same-sort twin (Constant c) = refl
same-sort twin X = refl
same-sort twin Y = refl
same-sort twin Z = refl
same-sort twin (Sum a b) = refl
same-sort twin (Difference a b) = refl
same-sort twin (Product a b) = refl
same-sort twin (Square a) = refl
same-sort twin (Face by a) = refl
same-sort twin (Both a b) = refl
same-sort twin (Either a b) = refl
same-sort twin (Complement a) = refl

module _ (rs : List Record) where
  kept_in : (logical : Bool) (wanted : ℕ → Bool) (ws : List Word) → AllIn rs logical (map word_in ws) → AllIn rs logical (map word_in (kept word_in uses_in wanted ws))
  unfolding kept
  kept_in logical wanted [] h = tt
  kept_in logical wanted (w ∷ ws) h =
      by-test (needed word_in uses_in wanted ws (word_in w).number)
      (λ t. rw t (h.0, h.1, h.2, kept_in logical wanted ws h.3))
      (λ t. rw t (kept_in logical wanted ws h.3))

  module _ (s : ℕ → State) where
    -- a word in memory that is a renamed one
    one_in : (logical : Bool) (twin : ℕ → ℕ) (x w : carried.Word) → x ≡ word w.number (renamed twin w.what) → OfSort logical w.what → OfSort logical x.what
    one_in logical twin x w e h = ap (λ (v : carried.Word). is_logical (sort_of v.what)) e ∙ ap is_logical (same-sort twin w.what) ∙ h

    same_number : (twin : ℕ → ℕ) (x w : carried.Word) → x ≡ word w.number (renamed twin w.what) → x.number ≡ w.number
    same_number twin x w e = ap (λ (v : carried.Word). v.number) e

    renamed-in : (logical : Bool) (xs : List Word) (ws : List carried.Word) (twin : ℕ → ℕ) → map word_in xs ≡ rename_all s twin ws → AllIn rs logical ws → AllIn rs logical (map word_in xs)
    unfolding rename_all
    renamed-in logical [] ws twin e h = tt
    renamed-in logical (x ∷ xs) [] twin e h = let z : suc (length (map word_in xs)) ≡ 0 = ap length e in absurd (omega (arith, z))
    renamed-in logical (x ∷ xs) (w ∷ ws) twin e h =
        let head : word_in x ≡ word w.number (renamed twin w.what) = ap (λ (l : List carried.Word). get_or l 0 (word_in x)) e in
        let rest : map word_in xs ≡ rename_all s (twin_after s twin w) ws = ap (drop 1) e in
        (one_in logical twin (word_in x) w head h.0, rw (same_number twin (word_in x) w head) h.1, rw (same_number twin (word_in x) w head) h.2, renamed-in logical xs ws (twin_after s twin w) rest h.3)

    parts_in : (xs ys : List Word) (ws vs : List carried.Word) (twin : ℕ → ℕ) → length xs ≡ length ws → map word_in (xs ++ ys) ≡ rename_all s twin (ws ++ vs) → (logical other : Bool)
        → AllIn rs logical ws → AllIn rs other vs → AllIn rs logical (map word_in xs) × AllIn rs other (map word_in ys)
    unfolding rename_all
    parts_in [] ys [] vs twin l e logical other h k = (tt, renamed-in other ys vs twin e k)
    parts_in [] ys (w ∷ ws) vs twin l e logical other h k = let z : ⊥ = omega arith in absurd z
    parts_in (x ∷ xs) ys [] vs twin l e logical other h k = let z : ⊥ = omega arith in absurd z
    parts_in (x ∷ xs) ys (w ∷ ws) vs twin l e logical other h k =
        let head : word_in x ≡ word w.number (renamed twin w.what) = ap (λ (l : List carried.Word). get_or l 0 (word_in x)) e in
        let rest : map word_in (xs ++ ys) ≡ rename_all s (twin_after s twin w) (ws ++ vs) = ap (drop 1) e in
        let more = parts_in xs ys ws vs (twin_after s twin w) (omega arith) rest logical other h.3 k in
        ((one_in logical twin (word_in x) w head h.0, rw (same_number twin (word_in x) w head) h.1, rw (same_number twin (word_in x) w head) h.2, more.0), more.1)

  -- ---- what `shorten` leaves
  module _ (q : Cube) (tape₀ : List Word) (t : Tape) (carries : Carries rs q tape₀ t) (colours : List State) (stand : Stand rs q tape₀ t colours)
      (tape : List Word) (r : Tape) (s : Shortened tape₀ t.from t.mid t.to t.solid colours tape r.from r.mid r.to r.solid) where
    sorts : AllIn rs false (map word_in s.works) × AllIn rs true (map word_in s.states)
    sorts =
        let p = carries.parts in
        let long : length s.works ≡ length (words_in tape₀ t.from t.mid) =
        s.cut ∙ sym (length-map (slice t.from t.mid tape₀) word_in ∙ length-slice t.from t.mid tape₀ (omega (arith, p.second, p.among))) in
        parts_in (state_in colours) s.works s.states (words_in tape₀ t.from t.mid) (words_in tape₀ t.mid t.to) (λ a. a) long
        (s.renames ∙ ap (rename_all (state_in colours) (λ a. a)) (in_parts rs q tape₀ t carries)) false true carries.works carries.states

    pub shorter-carries : Carries rs q tape r
    shorter-carries =
        record {
          parts = s.parts;
          works = rw s.first-kept (kept_in false s.wanted s.works sorts.0);
          states = rw s.second-kept (kept_in true _ s.states sorts.1);
          carried =
              shortened-carried rs q (in_place rs) tape₀ t.from t.mid t.to t.solid carries.carried colours stand tape r.from r.mid r.to r.solid s;
        }

    pub shorter-stays : Stays t.from tape₀ tape
    shorter-stays = record { same = s.same; after = s.source }

    pub shorter-before : r.from ≤ t.from
    shorter-before = omega (arith, s.parts.first, s.parts.second, s.ends)

-- ---- along a walk
pub stays-later : (early late : ℕ) → early ≤ late → (tape₀ tape : List Word) → Stays early tape₀ tape → Stays late tape₀ tape
stays-later early late h tape₀ tape s =
    let n : early + (late - early) ≡ late = omega arith in
    record {
      same = s.same;
      after = ap (λ (x : ℕ). drop x tape) (sym n) ∙ sym (drop-drop (late - early) early tape) ∙ ap (drop (late - early)) s.after ∙ drop-drop (late - early) early tape₀ ∙ ap (λ (x : ℕ). drop x tape₀) n;
    }

stays-words : (from : ℕ) (tape₀ tape : List Word) → Stays from tape₀ tape → (i j : ℕ) → from ≤ i → i ≤ j → j ≤ length tape → words_in tape i j ≡ words_in tape₀ i j
stays-words from tape₀ tape s i j h k l = ap (map word_in) (slice-later i j tape tape₀ k l s.same (stays-later from i h tape₀ tape s).after)

-- a tape that is carried down from a cube still is, if its words stay, and serves every cube inside
module _ (rs : List Record) (q : Cube) (tape₀ : List Word) (t : Tape) (carries : Carries rs q tape₀ t) where
  pub carries-inner : (child : Cube) → CubeInside child q → (tape : List Word) → Stays t.from tape₀ tape → Carries rs child tape t
  carries-inner child inside tape s =
      let p = carries.parts in
      let whole : t.to ≤ length tape = omega (arith, s.same, p.among) in
      record {
        parts = record { first = p.first; second = p.second; among = whole };
        works = rw (stays-words t.from tape₀ tape s t.from t.mid (omega arith) p.first (omega (arith, p.second, whole))) carries.works;
        states = rw (stays-words t.from tape₀ tape s t.mid t.to p.first p.second whole) carries.states;
        carried =
            rw (stays-words t.from tape₀ tape s t.from t.to (omega arith) (omega (arith, p.first, p.second)) whole)
            (carried-inner rs child q inside (in_place rs) (words_in tape₀ t.from t.to) t.solid carries.carried);
      }

  -- the solid's state, once the tape was worked out
  pub solid-stands : (colours : List State) → Stand rs q tape₀ t colours → state_in colours t.solid ≡ state_over rs q (length rs - 1)
  solid-stands colours stand = stand t.solid carries.carried.there ∙ carries.carried.same q (inside-itself q)

pub stays_same : (from : ℕ) (tape : List Word) → Stays from tape tape
stays_same from tape = record { same = refl; after = refl }

pub stays_on : (from : ℕ) (tape₀ tape₁ tape₂ : List Word) → Stays from tape₀ tape₁ → Stays from tape₁ tape₂ → Stays from tape₀ tape₂
stays_on from tape₀ tape₁ tape₂ s t = record { same = t.same ∙ s.same; after = t.after ∙ s.after }

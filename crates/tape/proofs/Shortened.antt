-- A tape in memory that was renamed and kept is what is carried down from the cube.
use mathlib.Core.Path.{◌≡◌, refl, sym, ap, ◌∙◌}
use mathlib.Core.Bool.{Bool, true, false, ◌||◌, true≢false}
use mathlib.Core.List.{List, ◌++◌, map}
use native.Mathlib.Omega.{arith}
use lib.ListN.{length, get_or, drop, set, replicate}
use lib.Seq.{slice, length-slice, drop-drop, get_or-set_same, get_or-set_other}
use Prim.Native.Nat.{ℕ, ◌+◌, ◌-◌, ◌≤◌, ◌<◌}
use borrow.Author.Tests.{eqb-true, eqb-false}
use lib.Dec.{eqb}
use Rattle.integers.proofs.Order.{by-test}
use Rattle.sheet.specs.declared.Record.{Record}
use Rattle.cube.specs.declared.Cube.{Cube}
use Rattle.colour.specs.declared.State.{State}
use Rattle.sheet.proofs.Arrays.{filled-with}
use Rattle.carried.specs.Words as carried
use Rattle.carried.specs.Words.{state_over, reads, listed, Carried, rename_all, twins, needed, kept, shorter_solid}
use Rattle.carried.proofs.Shorter.{carried-renamed, carried-kept}
use Rattle.tape.specs.declared.Kind.{Kind}
use Rattle.tape.specs.declared.Kind.TheVariants as kind
use Rattle.tape.specs.declared.Word.{Word}
use Rattle.tape.specs.Memory.{record_by, word_in, words_in, uses_in, state_in}
use Rattle.tape.specs.Shortening.{twin_in, marked, Moved, Kept, Own, Parts, Shortened}
use Rattle.tape.proofs.Owning.{kept_append}
use Rattle.tape.proofs.Slices.{slice-split, slice-later, get_d_any}

-- a word in memory uses all that its record reads
twice : (a b c : ℕ) → (eqb c a || eqb c a) ≡ true → (eqb c a || eqb c b) ≡ true
twice a b c = by-test (eqb c a) (λ t. rw t (λ h. refl)) (λ t. rw t (λ h. absurd (true≢false (sym h))))

covers-by : (k : Kind) (a b c : ℕ) → reads (record_by k a b) c ≡ true → (eqb c a || eqb c b) ≡ true
covers-by kind.X a b c h = absurd (true≢false (sym h))
covers-by kind.Y a b c h = absurd (true≢false (sym h))
covers-by kind.Z a b c h = absurd (true≢false (sym h))
covers-by kind.Sum a b c h = h
covers-by kind.Difference a b c h = h
covers-by kind.Product a b c h = h
covers-by kind.Square a b c h = twice a b c h
covers-by kind.AtMost a b c h = twice a b c h
covers-by kind.LessThan a b c h = twice a b c h
covers-by kind.Both a b c h = h
covers-by kind.Either a b c h = h
covers-by kind.Complement a b c h = twice a b c h

covers : (w : Word) (c : ℕ) → reads (word_in w).what c ≡ true → uses_in w c ≡ true
covers w c h = covers-by w.kind w.first w.second c h

-- `old` are the words in memory that are carried down from a cube, `raw` the same renamed, s the states over the cube
tape-carried : (rs : List Record) (q : Cube) (base : ℕ → Bool) (old raw : List Word) (solid : ℕ) → Carried rs q base (map word_in old) solid
    → (s : ℕ → State) → ((a : ℕ) → listed base (map word_in old) a ≡ true → s a ≡ state_over rs q a) → map word_in raw ≡ rename_all s (λ a. a) (map word_in old)
    → (twin : ℕ) → twin ≡ shorter_solid s (map word_in old) solid → Carried rs q base (map word_in (kept word_in uses_in (λ a. eqb a twin) raw)) twin
tape-carried rs q base old raw solid c s h e twin t =
    let r : Carried rs q base (map word_in raw) twin = rw (e, t) (carried-renamed rs q s base (map word_in old) solid c h) in
    carried-kept word_in uses_in covers rs q base raw twin r

-- ---- the function: renamed, then kept in two calls
pub one-mark : (n a : ℕ) → n < 256 → marked (set (replicate 256 false) n true) a ≡ eqb a n
one-mark n a h =
    by-test (eqb a n)
    (λ t. ap (marked (set (replicate 256 false) n true)) (eqb-true a n t) ∙ get_or-set_same (replicate 256 false) n true false h ∙ sym t)
    (λ t. get_or-set_other (replicate 256 false) n a true false (eqb-false a n t) ∙ filled-with false 256 a ∙ sym t)

module _ (tape₀ : List Word) (from mid to solid₀ : ℕ) (colours : List State) (good : Parts tape₀ from mid to) (room : to ≤ from + from) where
  abbrev down : ℕ
  down = to - from

  module _ (own : List ℕ) (tape₁ : List Word) (found : List ℕ) (is-own : Own own) (moved : Moved tape₀ from to down colours own tape₁ found)
      (solid : ℕ) (told : (solid ≡ get_or found solid₀ 0) × (solid₀ < 256) × (solid < 256)) where
    module _ (m : ℕ) (tape₂ : List Word) (marks₁ : List Bool) (k : Kept tape₁ (mid - down) from from (set (replicate 256 false) solid true) m tape₂ marks₁)
        (f : ℕ) (tape₃ : List Word) (marks₂ : List Bool) (l : Kept tape₂ (from - down) (mid - down) m marks₁ f tape₃ marks₂) where
      abbrev s : ℕ → State
      s = state_in colours

      same-own : twin_in own ≡ (λ (a : ℕ). a)
      same-own = λ i a. is-own.each a i

      old : List carried.Word
      old = map word_in (slice from to tape₀)

      end_is : to - down ≡ from
      end_is = omega (arith, good.first, good.second)

      wanted-is : marked (set (replicate 256 false) solid true) ≡ (λ (a : ℕ). eqb a solid)
      wanted-is = λ i a. one-mark solid a told.2 i

      room₁ : from ≤ length tape₁
      room₁ = omega (arith, moved.same, good.among, good.first, good.second)

      room₂ : from ≤ length tape₂
      room₂ = omega (arith, room₁, k.same)

      room₃ : from ≤ length tape₃
      room₃ = omega (arith, room₂, l.same)

      first_part : slice f m tape₃ ≡ kept word_in uses_in (needed word_in uses_in (marked (set (replicate 256 false) solid true)) (slice (mid - down) from tape₁)) (slice (from - down) (mid - down) tape₁)
      first_part =
          l.words
          ∙ ap (λ (w : ℕ → Bool). kept word_in uses_in w (slice (from - down) (mid - down) tape₂)) (λ i a. k.needs a i)
          ∙ ap (λ (x : List Word). kept word_in uses_in (needed word_in uses_in (marked (set (replicate 256 false) solid true)) (slice (mid - down) from tape₁)) (drop (from - down) x)) k.before

      second-part : slice m from tape₃ ≡ kept word_in uses_in (marked (set (replicate 256 false) solid true)) (slice (mid - down) from tape₁)
      second-part = slice-later m from tape₃ tape₂ k.most room₃ l.same l.after ∙ k.words

      abbrev renamed-parts : List Word
      renamed-parts = slice (from - down) (mid - down) tape₁ ++ slice (mid - down) from tape₁

      joined : slice (from - down) from tape₁ ≡ slice (from - down) (mid - down) tape₁ ++ slice (mid - down) from tape₁
      joined = slice-split (from - down) (mid - down) from tape₁ (omega (arith, good.first)) (omega (arith, good.first, good.second)) room₁

      by-solid : (ws : List Word) → kept word_in uses_in (marked (set (replicate 256 false) solid true)) ws ≡ kept word_in uses_in (λ a. eqb a solid) ws
      by-solid ws = ap (λ (w : ℕ → Bool). kept word_in uses_in w ws) wanted-is

      pub shorten-told : Shortened tape₀ from mid to solid₀ colours tape₃ f m from solid
      shorten-told =
          record {
            works = slice (from - down) (mid - down) tape₁;
            states = slice (mid - down) from tape₁;
            wanted = needed word_in uses_in (marked (set (replicate 256 false) solid true)) (slice (mid - down) from tape₁);
            cut = length-slice (from - down) (mid - down) tape₁ (omega (arith, good.first, good.second, room₁)) ∙ omega (arith, good.first, good.second, room);
            renames =
                ap (map word_in) (sym joined)
                ∙ ap (λ (x : ℕ). words_in tape₁ (from - down) x) (sym end_is)
                ∙ moved.words
                ∙ ap (λ (t : ℕ → ℕ). rename_all s t (words_in tape₀ from to)) same-own;
            twin =
                told.0 ∙ get_d_any found solid₀ 0 solid₀ (omega (arith, told.1, moved.long))
                ∙ ap (λ (t : ℕ → ℕ). t solid₀) moved.last
                ∙ ap (λ (t : ℕ → ℕ). twins s t (words_in tape₀ from to) solid₀) same-own;
            ends = refl;
            parts = record { first = l.most; second = k.most; among = room₃ };
            first-kept = first_part;
            second-kept = second-part ∙ by-solid (slice (mid - down) from tape₁);
            words =
                slice-split f m from tape₃ l.most k.most room₃
                ∙ ap (λ (x : List Word). x ++ slice m from tape₃) first_part
                ∙ ap (λ (x : List Word). kept word_in uses_in (needed word_in uses_in (marked (set (replicate 256 false) solid true)) (slice (mid - down) from tape₁)) (slice (from - down) (mid - down) tape₁) ++ x) second-part
                ∙ sym (kept_append word_in uses_in (marked (set (replicate 256 false) solid true)) (slice (from - down) (mid - down) tape₁) (slice (mid - down) from tape₁))
                ∙ by-solid renamed-parts;
            source =
                let n : m + (from - m) ≡ from = omega (arith, k.most) in
                ap (λ (x : ℕ). drop x tape₃) (sym n) ∙ sym (drop-drop (from - m) m tape₃) ∙ ap (drop (from - m)) l.after ∙ drop-drop (from - m) m tape₂ ∙ ap (λ (x : ℕ). drop x tape₂) n
                ∙ k.after ∙ moved.source;
            same = l.same ∙ k.same ∙ moved.same;
          }

-- what `shorten` leaves is carried down from the cube
pub shortened-carried : (rs : List Record) (q : Cube) (base : ℕ → Bool) (tape₀ : List Word) (from mid to solid₀ : ℕ) → Carried rs q base (words_in tape₀ from to) solid₀
    → (colours : List State) → ((a : ℕ) → listed base (words_in tape₀ from to) a ≡ true → state_in colours a ≡ state_over rs q a)
    → (tape : List Word) (first middle last solid : ℕ) → Shortened tape₀ from mid to solid₀ colours tape first middle last solid → Carried rs q base (words_in tape first last) solid
shortened-carried rs q base tape₀ from mid to solid₀ c colours h tape first middle last solid s =
    rw s.words (tape-carried rs q base (slice from to tape₀) (s.works ++ s.states) solid₀ c (state_in colours) h s.renames solid s.twin)

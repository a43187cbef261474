-- Words are kept from the last to the first, as the loop meets it.
use mathlib.Core.Path.{◌≡◌, refl, sym, ap, ◌∙◌}
use mathlib.Core.Bool.{Bool, true, false, not, ◌||◌, or-true, or-false}
use mathlib.Core.List.{List, ◌∷◌}
use Prim.Native.Nat.{ℕ, zero, suc, ◌-◌, ◌≤◌, ◌<◌}
use native.Mathlib.Omega.{arith}
use borrow.Author.Tests.{eqb-true, eqb-false}
use lib.Dec.{eqb}
use lib.ListN.{length, get_or, take, drop, set, length-set}
use lib.Seq.{slice, slice_empty, slice-cons, take-set-le, take-set-lt, drop-set-lt, get_or-take, get_or-set_same, get_or-set_other, take-take}
use Rattle.std.proofs.lemmas.Bool.{not-true, not-false}
use Rattle.integers.proofs.Order.{by-test}
use Rattle.carried.specs.Words.{needed, kept}
use Rattle.tape.specs.declared.Word.{Word}
use Rattle.tape.specs.Memory.{word_in, uses_in}
use Rattle.tape.specs.Shortening.{marked, Room}

-- ---- marks
mark-more : (marks : List Bool) (n a : ℕ) → n < length marks → marked (set marks n true) a ≡ (marked marks a || eqb a n)
mark-more marks n a h =
    by-test (eqb a n)
    (λ t. rw t (ap (marked (set marks n true)) (eqb-true a n t) ∙ get_or-set_same marks n true false h ∙ sym (or-true (marked marks a))))
    (λ t. rw t (get_or-set_other marks n a true false (eqb-false a n t) ∙ sym (or-false (marked marks a))))

or_assoc : (a b c : Bool) → ((a || b) || c) ≡ (a || (b || c))
or_assoc true b c = refl
or_assoc false b c = refl

marks-more : (marks : List Bool) (w : Word) (a : ℕ) → w.first < 256 → w.second < 256 → length marks ≡ 256 → marked (set (set marks w.first true) w.second true) a ≡ (marked marks a || uses_in w a)
marks-more marks w a f g l =
    mark-more (set marks w.first true) w.second a (omega (arith, l, length-set marks w.first true, g))
    ∙ ap (λ (x : Bool). x || eqb a w.second) (mark-more marks w.first a (omega (arith, l)))
    ∙ or_assoc (marked marks a) (eqb a w.first) (eqb a w.second)

slice_set : (f t : ℕ) (l : List Word) (i : ℕ) (v : Word) → i < f → i < t → slice f t (set l i v) ≡ slice f t l
slice_set f t l i v h k = ap (drop f) (take-set-lt t l i v k) ∙ drop-set-lt f (take t l) i v h

-- ---- the loop
module _ (tape₀ : List Word) (from to at : ℕ) (marks₀ : List Bool) where
  abbrev need : List Word → ℕ → Bool
  need = needed word_in uses_in (marked marks₀)

  abbrev keep : List Word → List Word
  keep = kept word_in uses_in (marked marks₀)

  -- the words from i on are done
  pub record Keeping (tape : List Word) (marks : List Bool) (next i : ℕ) : Type 0 where
    pub low : from ≤ i
    pub high : i ≤ to
    pub ahead : i ≤ next
    pub below : next ≤ at
    pub same : length tape ≡ length tape₀
    pub long : length marks ≡ 256
    pub unread : take i tape ≡ take i tape₀
    pub words : slice next at tape ≡ keep (slice i to tape₀)
    pub after : drop at tape ≡ drop at tape₀
    pub needs : (a : ℕ) → marked marks a ≡ need (slice i to tape₀) a

  pub keeping_start : Room tape₀ from to at marks₀ → Keeping tape₀ marks₀ at to
  unfolding kept needed
  keeping_start r =
      record {
        low = r.ordered;
        high = omega arith;
        ahead = r.before;
        below = omega arith;
        same = refl;
        long = r.long;
        unread = refl;
        words = slice_empty at tape₀ ∙ sym (ap keep (slice_empty to tape₀));
        after = refl;
        needs = λ a. sym (ap (λ (l : List Word). need l a) (slice_empty to tape₀));
      }

  module _ (r : Room tape₀ from to at marks₀) (tape : List Word) (marks : List Bool) (next j : ℕ) (k : Keeping tape marks next (suc j)) (more : from < suc j) (w d : Word) (is : w ≡ get_or tape j d) where
    abbrev rest : List Word
    rest = slice (suc j) to tape₀

    word-is : w ≡ get_or tape₀ j d
    word-is =
        is
        ∙ sym (get_or-take (suc j) tape j d (omega arith))
        ∙ ap (λ (l : List Word). get_or l j d) k.unread
        ∙ get_or-take (suc j) tape₀ j d (omega arith)

    cut : slice j to tape₀ ≡ w ∷ rest
    cut = slice-cons j to tape₀ d (omega (arith, k.high)) (omega (arith, r.before, r.among)) ∙ ap (λ (x : Word). x ∷ rest) (sym word-is)

    unread-one : (l : List Word) → take (suc j) l ≡ take (suc j) tape₀ → take j l ≡ take j tape₀
    unread-one l e = sym (take-take j (suc j) l (omega arith)) ∙ ap (take j) e ∙ take-take j (suc j) tape₀ (omega arith)

    yes : w.first < 256 → w.second < 256 → marked marks w.number ≡ true → Keeping (set tape (next - 1) w) (set (set marks w.first true) w.second true) (next - 1) j
    unfolding kept needed
    yes f g t =
        let n : need rest w.number ≡ true = sym (k.needs w.number) ∙ t in
        let room : next - 1 < length tape = omega (arith, k.ahead, k.below, k.same, r.among) in
        let here : suc (next - 1) ≡ next = omega (arith, k.ahead) in
        record {
          low = omega arith;
          high = omega (arith, k.high);
          ahead = omega (arith, k.ahead);
          below = omega (arith, k.below);
          same = length-set tape (next - 1) w ∙ k.same;
          long = length-set (set marks w.first true) w.second true ∙ length-set marks w.first true ∙ k.long;
          unread = take-set-le j tape (next - 1) w (omega (arith, k.ahead)) ∙ unread-one tape k.unread;
          words =
              slice-cons (next - 1) at (set tape (next - 1) w) d (omega (arith, k.ahead, k.below)) (omega (arith, length-set tape (next - 1) w, k.same, r.among))
              ∙ ap (λ (x : Word). x ∷ slice (suc (next - 1)) at (set tape (next - 1) w)) (get_or-set_same tape (next - 1) w d room)
              ∙ ap (λ (x : ℕ). w ∷ slice x at (set tape (next - 1) w)) here
              ∙ ap (λ (l : List Word). w ∷ l) (slice_set next at tape (next - 1) w (omega (arith, k.ahead)) (omega (arith, k.ahead, k.below)))
              ∙ ap (λ (l : List Word). w ∷ l) k.words
              ∙ sym (ap keep cut ∙ rw n);
          after = drop-set-lt at tape (next - 1) w (omega (arith, k.ahead, k.below)) ∙ k.after;
          needs = λ a. marks-more marks w a f g k.long ∙ ap (λ (x : Bool). x || uses_in w a) (k.needs a) ∙ sym (ap (λ (l : List Word). need l a) cut ∙ rw n);
        }

    no : marked marks w.number ≡ false → Keeping tape marks next j
    unfolding kept needed
    no t =
        let n : need rest w.number ≡ false = sym (k.needs w.number) ∙ t in
        record {
          low = omega arith;
          high = omega (arith, k.high);
          ahead = omega (arith, k.ahead);
          below = k.below;
          same = k.same;
          long = k.long;
          unread = unread-one tape k.unread;
          words = k.words ∙ sym (ap keep cut ∙ rw n);
          after = k.after;
          needs = λ a. k.needs a ∙ sym (ap (λ (l : List Word). need l a) cut ∙ rw n (or-false (need rest a)));
        }

  -- the same as the loop has it
  module _ (r : Room tape₀ from to at marks₀) (tape : List Word) (marks : List Bool) (next : ℕ) where
    pub keeping-no : (i : ℕ) → Keeping tape marks next i → from < i → (d : Word) → not (marked marks (get_or tape (i - 1) d).number) ≡ true → Keeping tape marks next (i - 1)
    keeping-no zero k more d t = absurd (omega arith)
    keeping-no (suc j) k more d t =
        let n : suc j - 1 ≡ j = omega arith in
        rw n (no r tape marks next j k more (get_or tape j d) d refl (not-true _ (rw n at t)))

    pub keeping-yes : (i : ℕ) → Keeping tape marks next i → from < i → (d : Word) → (get_or tape (i - 1) d).first < 256 → (get_or tape (i - 1) d).second < 256
        → not (marked marks (get_or tape (i - 1) d).number) ≡ false
        → Keeping (set tape (next - 1) (get_or tape (i - 1) d)) (set (set marks (get_or tape (i - 1) d).first true) (get_or tape (i - 1) d).second true) (next - 1) (i - 1)
    keeping-yes zero k more d f g t = absurd (omega arith)
    keeping-yes (suc j) k more d f g t =
        let n : suc j - 1 ≡ j = omega arith in
        rw n (yes r tape marks next j k more (get_or tape j d) d refl (rw n at f) (rw n at g) (not-false _ (rw n at t)))

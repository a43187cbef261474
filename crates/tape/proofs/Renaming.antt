-- Words take twins for operands one after the other, as the loop meets it.
use mathlib.Core.Path.{◌≡◌, refl, sym, ap, ◌∙◌}
use mathlib.Core.List.{List, [], ◌∷◌, ◌++◌, map, append_assoc, append-nil}
use Prim.Native.Nat.{ℕ, suc, ◌+◌, ◌-◌, ◌≤◌, ◌<◌}
use native.Mathlib.Omega.{arith}
use borrow.Author.Tests.{eqb-true, eqb-false}
use lib.Dec.{eqb}
use lib.ListN.{length, get_or, drop, set, length-set}
use lib.Seq.{slice, slice_empty, slice-cons, drop-set-lt, get_or-drop, get_or-set_same, get_or-set_other}
use Rattle.integers.proofs.Order.{by-test}
use Rattle.colour.specs.declared.State.{State}
use Rattle.carried.specs.Words as carried
use Rattle.carried.specs.Words.{word, put, twin_by, renamed, twin_after, rename_all, twins}
use Rattle.tape.specs.declared.Word.{Word}
use Rattle.tape.specs.Memory.{record_in, word_in, state_in}
use Rattle.tape.specs.Shortening.{twin_in, Moves, Moved}
use Rattle.tape.proofs.Slices.{slice-more}

map_more : (xs : List Word) (v : Word) → map word_in (xs ++ v ∷ []) ≡ map word_in xs ++ word_in v ∷ []
map_more [] v = refl
map_more (x ∷ xs) v = ap (λ (l : List carried.Word). word_in x ∷ l) (map_more xs v)

same_source : (f i : ℕ) (l m : List Word) (d : Word) → drop f l ≡ drop f m → f ≤ i → get_or l i d ≡ get_or m i d
same_source f i l m d e h =
    let n : f + (i - f) ≡ i = omega arith in
    ap (λ (x : ℕ). get_or l x d) (sym n) ∙ sym (get_or-drop f l (i - f) d) ∙ ap (λ (x : List Word). get_or x (i - f) d) e ∙ get_or-drop f m (i - f) d ∙ ap (λ (x : ℕ). get_or m x d) n

twin-stored : (found : List ℕ) (n t : ℕ) → n < length found → (a : ℕ) → twin_in (set found n t) a ≡ put (twin_in found) n t a
unfolding put
twin-stored found n t h a =
    by-test (eqb a n)
    (λ u. rw u (ap (twin_in (set found n t)) (eqb-true a n u) ∙ get_or-set_same found n t n h))
    (λ u. rw u (get_or-set_other found n a t a (eqb-false a n u)))

module _ (tape₀ : List Word) (from to down : ℕ) (colours : List State) (found₀ : List ℕ) where
  abbrev s : ℕ → State
  s = state_in colours

  abbrev left : ℕ → List carried.Word
  left i = map word_in (slice i to tape₀)

  pub record Renaming (tape : List Word) (found : List ℕ) (i : ℕ) : Type 0 where
    pub least : from ≤ i
    pub most : i ≤ to
    pub same : length tape ≡ length tape₀
    pub long : length found ≡ 256
    pub source : drop from tape ≡ drop from tape₀
    pub words : map word_in (slice (from - down) (i - down) tape) ++ rename_all s (twin_in found) (left i) ≡ rename_all s (twin_in found₀) (left from)
    pub last : twins s (twin_in found) (left i) ≡ twins s (twin_in found₀) (left from)

  module _ (m : Moves tape₀ from to down) (tape : List Word) (found : List ℕ) (i : ℕ) (k : Renaming tape found i) where
    pub renaming-next : i < to → (d : Word) → (get_or tape i d).number < 256
        → (r : Word) → word_in r ≡ word (get_or tape i d).number (renamed (twin_in found) (record_in (get_or tape i d)))
        → (t : ℕ) → t ≡ twin_by s (twin_in found) (get_or tape i d).number (record_in (get_or tape i d))
        → Renaming (set tape (i - down) r) (set found (get_or tape i d).number t) (i + 1)
    unfolding rename_all twins
    renaming-next h d few r n t te =
        let w = get_or tape i d in
        let here : w ≡ get_or tape₀ i d = same_source from i tape tape₀ d k.source k.least in
        let cut : slice i to tape₀ ≡ w ∷ slice (suc i) to tape₀ = slice-cons i to tape₀ d h m.among ∙ ap (λ (x : Word). x ∷ slice (suc i) to tape₀) (sym here) in
        let one : suc i ≡ i + 1 = omega arith in
        let place : i + 1 - down ≡ suc (i - down) = omega (arith, m.room, k.least) in
        let inside : i - down < length tape = omega (arith, m.room, k.least, k.same, m.among) in
        let after : twin_in (set found w.number t) ≡ twin_after s (twin_in found) (word_in w) =
        (λ j a. twin-stored found w.number t (omega (arith, few, k.long)) a j) ∙ ap (put (twin_in found) w.number) te in
        let done = map word_in (slice (from - down) (i - down) tape) in
        record {
          least = omega (arith, k.least);
          most = omega arith;
          same = length-set tape (i - down) r ∙ k.same;
          long = length-set found w.number t ∙ k.long;
          source = drop-set-lt from tape (i - down) r (omega (arith, m.room, m.apart, k.least)) ∙ k.source;
          words =
              ap (λ (x : ℕ). map word_in (slice (from - down) x (set tape (i - down) r)) ++ rename_all s (twin_in (set found w.number t)) (left (i + 1))) place
              ∙ ap (λ (l : List Word). map word_in l ++ rename_all s (twin_in (set found w.number t)) (left (i + 1))) (slice-more (from - down) (i - down) tape r (omega (arith, m.room, k.least)) inside)
              ∙ ap (λ (l : List carried.Word). l ++ rename_all s (twin_in (set found w.number t)) (left (i + 1))) (map_more (slice (from - down) (i - down) tape) r)
              ∙ append_assoc done (word_in r ∷ []) (rename_all s (twin_in (set found w.number t)) (left (i + 1)))
              ∙ ap (λ (x : carried.Word). done ++ x ∷ rename_all s (twin_in (set found w.number t)) (left (i + 1))) n
              ∙ ap (λ (f : ℕ → ℕ). done ++ word w.number (renamed (twin_in found) (record_in w)) ∷ rename_all s f (left (i + 1))) after
              ∙ ap (λ (x : ℕ). done ++ word w.number (renamed (twin_in found) (record_in w)) ∷ rename_all s (twin_after s (twin_in found) (word_in w)) (left x)) (sym one)
              ∙ sym (ap (λ (l : List Word). done ++ rename_all s (twin_in found) (map word_in l)) cut)
              ∙ k.words;
          last =
              ap (λ (f : ℕ → ℕ). twins s f (left (i + 1))) after
              ∙ ap (λ (x : ℕ). twins s (twin_after s (twin_in found) (word_in w)) (left x)) (sym one)
              ∙ sym (ap (λ (l : List Word). twins s (twin_in found) (map word_in l)) cut)
              ∙ k.last;
        }

    pub renaming-end : to ≤ i → Moved tape₀ from to down colours found₀ tape found
    unfolding rename_all twins
    renaming-end stop =
        let e : i ≡ to = omega (arith, k.most) in
        let none : slice i to tape₀ ≡ [] = ap (λ (x : ℕ). slice x to tape₀) e ∙ slice_empty to tape₀ in
        record {
          same = k.same;
          long = k.long;
          source = k.source;
          words =
              ap (λ (x : ℕ). map word_in (slice (from - down) (x - down) tape)) (sym e)
              ∙ sym (append-nil (map word_in (slice (from - down) (i - down) tape)))
              ∙ sym (ap (λ (l : List Word). map word_in (slice (from - down) (i - down) tape) ++ rename_all s (twin_in found) (map word_in l)) none)
              ∙ k.words;
          last = sym (ap (λ (l : List Word). twins s (twin_in found) (map word_in l)) none) ∙ k.last;
        }

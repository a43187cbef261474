-- A line of numbers as `put_line` builds it: a space before each number but the first, and a line feed at the end.
use mathlib.Core.Path.{◌≡◌, refl, sym, ap, ◌∙◌}
use mathlib.Core.List.{List, [], ◌∷◌, ◌++◌, append_assoc}
use Prim.Native.Nat.{ℕ, ◌+◌, ◌*◌, ◌-◌, ◌≤◌, ◌<◌}
use native.Mathlib.Numerals.{add-one}
use native.Mathlib.Omega.{arith}
use lib.IntN.{ℤ, pos}
use lib.ListN.{length, get_or, take, set, length-take}
use lib.Seq.{take-suc}
use mir.Syntax.{w64}
use mir.Val.{SFits, to_z, of_z}
use mir.Facts.{to_z-of_z}
use Rattle.std.proofs.lemmas.List.{take_all}
use Rattle.text.specs.Text.{signed_text, line_of, Puts}
use Rattle.text.proofs.Signs.{signed-length, signed-some}
use Rattle.text.proofs.Storing.{both-put, byte_put}

-- the numbers in decimal with single spaces between them
unfoldable pub spaced : List ℤ → List ℕ
spaced [] = []
spaced (n ∷ []) = signed_text n
spaced (n ∷ m ∷ ns) = signed_text n ++ 32 ∷ spaced (m ∷ ns)

line-is : (ns : List ℤ) → line_of ns ≡ spaced ns ++ (10 ∷ [])
unfolding line_of spaced
line-is [] = refl
line-is (n ∷ []) = refl
line-is (n ∷ m ∷ ns) = ap (λ (t : List ℕ). signed_text n ++ 32 ∷ t) (line-is (m ∷ ns)) ∙ sym (append_assoc (signed_text n) (32 ∷ spaced (m ∷ ns)) (10 ∷ []))

one-more : (ns : List ℤ) (n : ℤ) → 0 < length ns → spaced (ns ++ (n ∷ [])) ≡ spaced ns ++ 32 ∷ signed_text n
unfolding spaced
one-more [] n h = absurd (omega arith)
one-more (a ∷ []) n h = refl
one-more (a ∷ b ∷ ns) n h = ap (λ (t : List ℕ). signed_text a ++ 32 ∷ t) (one-more (b ∷ ns) n (omega arith)) ∙ sym (append_assoc (signed_text a) (32 ∷ spaced (b ∷ ns)) (32 ∷ signed_text n))

-- the invariant: the first i numbers are stored
pub record Written (ns : List ℤ) (i : ℕ) (before : List ℕ) (end : ℕ) (after : List ℕ) : Type 0 where
  pub text : Puts (spaced (take i ns)) 0 before end after
  pub room : end ≤ 21 * i - 1
  pub begun : i ≤ end

pub written_none : (ns : List ℤ) (out : List ℕ) → Written ns 0 out 0 out
unfolding spaced
written_none ns out = record { text = record { ends = refl; bytes = refl }; room = omega arith; begun = omega arith }

-- one more number: `put_number` stores it in `mid` from `at` on
module _ (ns : List ℤ) (i : ℕ) (n : ℤ) (before after mid : List ℕ) (end at : ℕ) (w : Written ns i before end after) (h : i < length ns) (e : n ≡ get_or ns i (pos 0)) (f : SFits w64 n) where
  abbrev Stored : ℕ → List ℕ → Type 0
  Stored r o = Puts (signed_text (to_z w64 (of_z w64 n))) at mid r o

  grown : take (i + 1) ns ≡ take i ns ++ (n ∷ [])
  grown = rw (e, add-one) (take-suc ns i (pos 0) h)

  pub written_first : (r : ℕ) (o : List ℕ) → end ≤ 0 → at ≡ end → mid ≡ after → Stored r o → Written ns (i + 1) before r o
  unfolding spaced
  written_first r o z ea em p =
      let q : Puts (signed_text n) end after r o = rw (to_z-of_z f, ea, em) at p in
      let k : i ≡ 0 = omega (arith, w.begun) in
      record {
        text = rw grown (rw k (both-put _ _ _ _ _ _ _ _ (rw k at w.text) q));
        room = omega (arith, q.ends, signed-length n f);
        begun = omega (arith, q.ends, signed-some n);
      }

  pub written_next : (r : ℕ) (o : List ℕ) → 0 < end → at ≡ end + 1 → mid ≡ set after end 32 → Stored r o → Written ns (i + 1) before r o
  written_next r o z ea em p =
      let q : Puts (signed_text n) (end + 1) (set after end 32) r o = rw (to_z-of_z f, ea, em) at p in
      record {
        text = rw (grown, one-more (take i ns) n (omega (arith, w.room, length-take i ns))) (both-put _ _ _ _ _ _ _ _ w.text (both-put _ _ _ _ _ _ _ _ (byte_put 32 end after) q));
        room = omega (arith, q.ends, signed-length n f, w.room);
        begun = omega (arith, q.ends, signed-some n, w.begun);
      }

pub written_all : (ns : List ℤ) (i : ℕ) (before after : List ℕ) (end : ℕ) → Written ns i before end after → length ns ≤ i → Puts (line_of ns) 0 before (end + 1) (set after end 10)
written_all ns i before after end w h = rw (line-is ns) (both-put _ _ _ _ _ _ _ _ (rw (take_all i ns h) at w.text) (byte_put 10 end after))

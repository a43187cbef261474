-- Leaves at their places, each of which contributes a list: as one fold, which goes over pieces one after another.
use mathlib.Core.Path.{◌≡◌, refl, sym, ap, ◌∙◌}
use mathlib.Core.List.{List, [], ◌∷◌, ◌++◌, append_assoc}
use Prim.Native.Nat.{ℕ, zero, suc, ◌+◌, ◌*◌, ◌<◌}
use native.Mathlib.Omega.{arith}
use lib.ListN.{length, get_or}
use Rattle.zonemap.specs.declared.Leaf.{Leaf}
use Rattle.zonemap.specs.Opening.{size_of}
use Rattle.zonemap.specs.Leaves.{place_at, nowhere}
use Rattle.zonemap.proofs.Runs.{Run}
use Rattle.tree.specs.Visit.{upto}
use Rattle.tree.proofs.Visits.{upto-same, upto-first}
use Rattle.roundtrip.proofs.Built.{run-upto}

module _ (g : ℕ → Leaf → List Leaf) (d : ℕ) where
  -- the first leaf is at place p
  unfoldable pub folded : ℕ → List Leaf → List Leaf
  folded p [] = []
  folded p (l ∷ ls) = g p l ++ folded (p + size_of d l) ls

  -- leaf by leaf
  pub at-folded : (p : ℕ) (ls : List Leaf) → upto (λ i. g (p + place_at d i ls) (get_or ls i nowhere)) (length ls) ≡ folded p ls
  unfolding folded upto place_at
  at-folded p [] = refl
  at-folded p (l ∷ ls) =
      let z : p + 0 ≡ p = omega arith in
      upto-first (λ i. g (p + place_at d i (l ∷ ls)) (get_or (l ∷ ls) i nowhere)) (length ls)
      ∙ ap (λ (x : List Leaf). g (p + 0) l ++ x)
      (upto-same _ _ (length ls) (λ i h. let y : p + (size_of d l + place_at d i ls) ≡ p + size_of d l + place_at d i ls = omega arith in ap (λ (n : ℕ). g n (get_or ls i nowhere)) y) ∙ at-folded (p + size_of d l) ls)
      ∙ ap (λ (n : ℕ). g n l ++ folded (p + size_of d l) ls) z

  module _ (Each : ℕ → Leaf → Type 0) where
    -- one piece after another
    pub folded-append : (p m : ℕ) (a b : List Leaf) → Run Each d p a m → folded p (a ++ b) ≡ folded p a ++ folded m b
    unfolding folded Run
    folded-append p m [] b r = rw r
    folded-append p m (l ∷ a) b r = rw (folded-append (p + size_of d l) m a b r.1) (sym (append_assoc (g p l) (folded (p + size_of d l) a) (folded m b)))

    -- n pieces of one size
    pub folded-upto : (p s n : ℕ) (f : ℕ → List Leaf) → ((k : ℕ) → k < n → Run Each d (p + k * s) (f k) (p + k * s + s)) → folded p (upto f n) ≡ upto (λ k. folded (p + k * s) (f k)) n
    unfolding folded upto
    folded-upto p s zero f h = refl
    folded-upto p s (suc n) f h =
        folded-append p (p + n * s) (upto f n) (f n) (run-upto Each d p s n f (λ k l. h k (omega arith)))
        ∙ ap (λ (x : List Leaf). x ++ folded (p + n * s) (f n)) (folded-upto p s n f (λ k l. h k (omega arith)))

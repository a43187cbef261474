-- An array that is filled from its start, compared with the list of what was stored. Each place not yet filled holds the default for a missing entry,
-- so the array reads as the list does at every index.
use mathlib.Core.Path.{◌≡◌, refl}
use mathlib.Core.List.{List, [], ◌∷◌, ◌++◌}
use Prim.Native.Nat.{ℕ, zero, suc, ◌<◌}
use native.Mathlib.Omega.{arith}
use lib.ListN.{length, get_or, set, replicate}

-- the array reads as a part of each entry does; d is the default for a missing entry
abbrev pub Reads : {A B : Type 0} → (A → B) → A → List B → List A → Type 0
Reads part d array vs = (a : ℕ) → get_or array a (part d) ≡ part (get_or vs a d)

-- one more entry, stored after the others
pub reads_more : {A B : Type 0} (part : A → B) (d v : A) (w : B) (l : List B) (vs : List A) (n : ℕ) → length vs ≡ n → n < length l → w ≡ part v
    → Reads part d l vs → Reads part d (set l n w) (vs ++ v ∷ [])
reads_more part d v w [] vs n e k p h a = let z : ⊥ = omega arith in absurd z
reads_more part d v w (x ∷ l) [] zero e k p h zero = p
reads_more part d v w (x ∷ l) [] zero e k p h (suc a) = h (suc a)
reads_more part d v w (x ∷ l) [] (suc n) e k p h a = let z : ⊥ = omega arith in absurd z
reads_more part d v w (x ∷ l) (y ∷ vs) zero e k p h a = let z : ⊥ = omega arith in absurd z
reads_more part d v w (x ∷ l) (y ∷ vs) (suc n) e k p h zero = h zero
reads_more part d v w (x ∷ l) (y ∷ vs) (suc n) e k p h (suc a) = reads_more part d v w l vs n (omega arith) (omega arith) p (λ b. h (suc b)) a

-- an array that is filled with one value reads as that value everywhere
pub filled-with : {A : Type 0} (x : A) (n a : ℕ) → get_or (replicate n x) a x ≡ x
filled-with x zero a = refl
filled-with x (suc n) zero = refl
filled-with x (suc n) (suc a) = filled-with x n a

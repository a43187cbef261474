-- The first record whose bounds pass the limit, among entries.
use mathlib.Core.Path.{◌≡◌, refl, sym, ap, ◌∙◌}
use mathlib.Core.List.{List, [], ◌∷◌}
use Prim.Native.Nat.{ℕ, zero, suc, ◌+◌, ◌<◌}
use native.Mathlib.Omega.{arith}
use lib.ListN.{get_or}
use Rattle.interval.specs.Limit.{SmallEnds, past_end}
use Rattle.interval.proofs.Facts.{by_end, ends-within}
use Rattle.replies.specs.declared.End.{End}
use Rattle.replies.specs.declared.Over.{Over}
use Rattle.replies.specs.Table.{over}
use Rattle.sheet.specs.declared.Record.{Record}
use Rattle.cube.specs.declared.Cube.{Cube}
use Rattle.colour.specs.Entries.{Entry, blank, entries, past_from, first_past}
use Rattle.colour.proofs.Arms.{zero-small}

-- all entries keep the limit
abbrev pub Keep : List Entry → Type 0
Keep es = (a : ℕ) → SmallEnds (get_or es a blank).bounds

-- entry m, past the limit, is the first if those before it keep the limit: record i is the first past it
first_past_lem : (n m i : ℕ) (es : List Entry) (end : End) → ((a : ℕ) → a < m → SmallEnds (get_or es a blank).bounds) → past_end (get_or es m blank).bounds ≡ end ∷ [] → i ≡ n + m
    → past_from n es ≡ over i end ∷ []
unfolding past_from
first_past_lem n m i [] end k p h = let z : [] ≡ end ∷ [] = sym (ends-within _ zero-small) ∙ p in let y : ◌≡◌ {A = ℕ} 0 1 = cc in absurd (omega arith)
first_past_lem n zero i (x ∷ es) end k p h = rw p (let z : n ≡ i = omega arith in ap (λ (j : ℕ). over j end ∷ []) z)
first_past_lem n (suc m) i (x ∷ es) end k p h = rw (ends-within x.bounds (k 0 (omega arith))) (first_past_lem (suc n) m i es end (λ a l. k (suc a) (omega arith)) p (omega arith))

pub past-at : (rs : List Record) (q : Cube) (n : ℕ) (end : End) → ((a : ℕ) → a < n → SmallEnds (get_or (entries q rs) a blank).bounds) → past_end (get_or (entries q rs) n blank).bounds ≡ end ∷ []
    → first_past rs q ≡ over n end ∷ []
unfolding first_past
past-at rs q n end k p = first_past_lem 0 n n (entries q rs) end k p (omega arith)

-- if all keep it, none is past it
pub none-past : (n : ℕ) (es : List Entry) → Keep es → past_from n es ≡ []
unfolding past_from
none-past n [] k = refl
none-past n (x ∷ es) k = rw (ends-within x.bounds (k 0)) (none-past (suc n) es (λ a. k (suc a)))

-- if none is past it, all keep it
pub all_keep : (n : ℕ) (es : List Entry) → past_from n es ≡ [] → Keep es
unfolding past_from
all_keep n [] h a = zero-small
all_keep n (x ∷ es) h a =
    by_end x.bounds (λ s t. keep-before x es s (all_keep (suc n) es (rw t at h)) a)
    (λ end t. let z : (over n end ∷ []) ≡ [] = rw t at h in let y : ◌≡◌ {A = ℕ} 0 1 = cc in absurd (omega arith))
  where
    keep-before : (e : Entry) (fs : List Entry) → SmallEnds e.bounds → Keep fs → Keep (e ∷ fs)
    keep-before e fs s k zero = s
    keep-before e fs s k (suc b) = k b

-- none is past it, or one is the first
pub past_cases : {A : Type 0} (n : ℕ) (es : List Entry) → (past_from n es ≡ [] → A) → ((o : Over) → past_from n es ≡ o ∷ [] → A) → A
unfolding past_from
past_cases n [] f g = f refl
past_cases n (e ∷ es) f g = by_end e.bounds (λ _ t. past_cases (suc n) es (λ h. f (rw t h)) (λ o h. g o (rw t h))) (λ end t. g (over n end) (rw t))

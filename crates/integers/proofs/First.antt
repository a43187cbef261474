-- What is known where the first of a list may have decided.
use mathlib.Core.Path.{◌≡◌, refl, sym, ap}
use mathlib.Core.List.{List, [], ◌∷◌}
use Rattle.integers.specs.First.{on_first}

module _ {A B : Type 0} (Is : B → Type 0) (f : A → B) (rest : B) where
  -- where no first decides so, there was none
  pub none_first : (firsts : List A) → ((a : A) → Is (f a) → ⊥) → Is (on_first firsts f rest) → (firsts ≡ []) × Is rest
  none_first [] h e = (refl, e)
  none_first (a ∷ firsts) h e = absurd (h a e)

  -- where each decides so, the outcome is so
  pub each_first : (firsts : List A) → ((a : A) → Is (f a)) → Is rest → Is (on_first firsts f rest)
  each_first [] h r = r
  each_first (a ∷ firsts) h r = h a

-- where the outcome is bad, with the first of a list, that list has a first, which decides alike elsewhere
pub bad-first : {A B : Type 0} (bad : A → B) (good : B) → ((a : A) → bad a ≡ good → ⊥) → ((a b : A) → bad a ≡ bad b → a ≡ b) → (firsts : List A) (first : A) → on_first firsts bad good ≡ bad first
    → {C : Type 0} (f : A → C) (rest : C) → on_first firsts f rest ≡ f first
bad-first bad good clash one [] first e f rest = absurd (clash first (sym e))
bad-first bad good clash one (a ∷ firsts) first e f rest = ap f (one a first e)

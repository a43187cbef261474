-- Replies in order of test: the first of a list decides.
use Rattle.std.specs.Prelude.{List, [], ◌∷◌}

-- the first of a list decides, where there is one
abbrev pub on_first : {A B : Type 0} → List A → (A → B) → B → B
on_first [] f rest = rest
on_first (a ∷ later) f rest = f a

-- Everything that is computed record by record: a list with one entry per record, each computed from the entries before it.
use Rattle.std.specs.Prelude.{List, [], ◌∷◌, ◌++◌}
use Rattle.sheet.specs.declared.Record.{Record}

module _ {A : Type 0} (step : List A → Record → A) where
  -- the entries vs, followed by one per record
  unfoldable pub onward : List A → List Record → List A
  onward vs [] = vs
  onward vs (r ∷ rs) = onward (vs ++ step vs r ∷ []) rs

  unfoldable pub along : List Record → List A
  along rs = onward [] rs

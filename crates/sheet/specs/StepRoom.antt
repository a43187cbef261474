-- The step room's sheet, S of document 01, in version 1 and with equal records in version 2.
use Rattle.std.specs.Prelude.{List, [], ◌∷◌, ℕ, pos}
use Rattle.sheet.specs.declared.Comparison.{Comparison}
use Rattle.sheet.specs.declared.Comparison.TheVariants.{AtMost, LessThan}
use Rattle.sheet.specs.declared.Record.{Record}
use Rattle.sheet.specs.declared.Record.TheVariants.{Constant, X, Y, Difference, Face, Both}

unfoldable pub step_sheet_of : ℕ → List ℕ
step_sheet_of version = 0 ∷ 29 ∷ version ∷ 1 ∷ 2 ∷ 1 ∷ 3 ∷ 5 ∷ 1 ∷ 0 ∷ 0 ∷ 0 ∷ 2 ∷ 3 ∷ 6 ∷ 0 ∷ 2 ∷ 3 ∷ 6 ∷ 1 ∷ 2 ∷ 2 ∷ 16 ∷ 3 ∷ 2 ∷ 16 ∷ 4 ∷ 3 ∷ 17 ∷ 5 ∷ 6 ∷ []

-- its records
abbrev pub step_records_by : Comparison → List Record
step_records_by by = X ∷ Y ∷ Constant (pos 2) ∷ Difference 0 2 ∷ Difference 1 2 ∷ Face by 3 ∷ Face by 4 ∷ Both 5 6 ∷ []

-- S: the solid is x at most 2 and y at most 2
abbrev pub step_sheet : List ℕ
step_sheet = step_sheet_of 1

abbrev pub step_records : List Record
step_records = step_records_by AtMost

-- in version 2 it is x less than 2 and y less than 2
abbrev pub strict_sheet : List ℕ
strict_sheet = step_sheet_of 2

abbrev pub strict_records : List Record
strict_records = step_records_by LessThan

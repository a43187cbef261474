-- The faces of a sheet.
use Rattle.std.specs.Prelude.{◌≡◌, ℕ, Bool, true, false, List, length, get_or}
use Rattle.sheet.specs.declared.Record.{Record}
use Rattle.sheet.specs.declared.Record.TheVariants.{Constant, X, Y, Z, Sum, Difference, Product, Square, Face, Both, Either, Complement}

-- kind 16
abbrev pub is_face : Record → Bool
is_face (Constant c) = false
is_face X = false
is_face Y = false
is_face Z = false
is_face (Sum a b) = false
is_face (Difference a b) = false
is_face (Product a b) = false
is_face (Square a) = false
is_face (Face by a) = true
is_face (Both a b) = false
is_face (Either a b) = false
is_face (Complement a) = false

-- A face is known by its record number. (X, which is not a face, is the default for a missing record.)
unfoldable pub has_face : List Record → ℕ → Bool
has_face rs f = is_face (get_or rs f X)

-- ---- only inner contracts cite what follows
-- a list that says of each record number whether it names a face
pub record Marks (marks : List Bool) (rs : List Record) : Type 0 where
  pub long : length marks ≡ 256
  pub each : (f : ℕ) → get_or marks f false ≡ has_face rs f

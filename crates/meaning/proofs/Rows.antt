-- Sheets at points of fractions, the step room first, computed from the definitions.
use mathlib.Core.Path.{◌≡◌, refl}
use mathlib.Core.Bool.{true, false}
use Prim.Native.Nat.{ℕ, suc}
use native.Mathlib.Nat.{zero-lt-suc}
use mathlib.Core.List.{List, [], ◌∷◌}
use lib.IntN.{pos}
use Rattle.sheet.specs.declared.Comparison.TheVariants.{AtMost}
use Rattle.sheet.specs.declared.Record.{Record}
use Rattle.sheet.specs.declared.Record.TheVariants.{Constant, X, Y, Z, Sum, Difference, Product, Square, Face, Either, Complement}
use Rattle.sheet.specs.Along.{along, onward}
use Rattle.sheet.specs.StepRoom.{step_records, strict_records}
use Rattle.meaning.specs.Fractions.{FractionalPoint}
use Rattle.meaning.specs.Truth.{value_of, holds_of, meaning_of, holds_at, in_solid}

-- the point x/n, y/n, z/n with n = m + 1
abbrev point : ℕ → ℕ → ℕ → ℕ → FractionalPoint
point x y z m = record { x = pos x; y = pos y; z = pos z; n = suc m; positive = zero-lt-suc m }

-- the point x/n, y/n, 0
abbrev at : ℕ → ℕ → ℕ → FractionalPoint
at x y m = point x y 0 m

record Rows : Type 0 where
  -- x at most 2 and y at most 2: (2, 2, 0) is on both faces
  corner : in_solid step_records (at 2 2 0) ≡ true
  -- (2, 0, 0) as 6/3
  same : in_solid step_records (at 6 0 2) ≡ true
  -- 7/3 is more than 2
  past : in_solid step_records (at 7 0 2) ≡ false
  -- the other face still holds there
  other : holds_at step_records 6 (at 7 0 2) ≡ true
  -- 5/3 is less
  before : in_solid step_records (at 5 5 2) ≡ true
  -- x less than 2 and y less than 2: (2, 0, 0), as 6/3, is on a face, which excludes it, and not (5/3, 5/3, 0)
  strict_on : in_solid strict_records (at 6 0 2) ≡ false
  strict-other : holds_at strict_records 6 (at 6 0 2) ≡ true
  strict-before : in_solid strict_records (at 5 5 2) ≡ true

rows : Rows
unfolding in_solid holds_at along onward meaning_of value_of holds_of
rows = record { corner = refl; same = refl; past = refl; other = refl; before = refl; strict_on = refl; strict-other = refl; strict-before = refl }

-- ---- the other kinds, at halves and thirds
-- the records that compute a value, the last of which has the number `value`, and a face after them: the value is at most c
abbrev at_most : List Record → ℕ → ℕ → List Record
at_most [] value c = Constant (pos c) ∷ Difference value (suc value) ∷ Face AtMost (suc (suc value)) ∷ []
at_most (r ∷ rs) value c = r ∷ at_most rs value c

record KindRows : Type 0 where
  -- z at most 1, at 3/2
  z-past : in_solid (at_most (Z ∷ []) 0 1) (point 0 0 3 1) ≡ false
  -- 1/3 + 2/3 is on the face x + y at most 1, and 2/3 + 2/3 past it
  sum-on : in_solid (at_most (X ∷ Y ∷ Sum 0 1 ∷ []) 2 1) (at 1 2 2) ≡ true
  sum_past : in_solid (at_most (X ∷ Y ∷ Sum 0 1 ∷ []) 2 1) (at 2 2 2) ≡ false
  -- 3/2 times 2/3, which are 9/6 and 4/6
  product-on : in_solid (at_most (X ∷ Y ∷ Product 0 1 ∷ []) 2 1) (at 9 4 5) ≡ true
  -- the square of 3/2 is more than 2
  square-past : in_solid (at_most (X ∷ Square 0 ∷ []) 1 2) (at 3 0 1) ≡ false
  -- x at most 0 or y at most 0, at (1/2, 0, 0)
  either-one : in_solid (X ∷ Y ∷ Face AtMost 0 ∷ Face AtMost 1 ∷ Either 2 3 ∷ []) (at 1 0 1) ≡ true
  -- not x at most 0, on the face
  complement-on : in_solid (X ∷ Face AtMost 0 ∷ Complement 1 ∷ []) (at 0 0 2) ≡ false

kind-rows : KindRows
unfolding in_solid holds_at along onward meaning_of value_of holds_of
kind-rows = record {
  z-past = refl;
  sum-on = refl;
  sum_past = refl;
  product-on = refl;
  square-past = refl;
  either-one = refl;
  complement-on = refl;
}

-- Bounds over a closed cube: those of one record, from those of its operands.
use Rattle.std.specs.Prelude.{ℕ, ℤ, pos, ◌+ℤ◌}
use Rattle.interval.specs.declared.Interval.{Interval}
use Rattle.interval.specs.Rules.{from, only, sum, difference, product, square}
use Rattle.sheet.specs.declared.Record.{Record}
use Rattle.sheet.specs.declared.Record.TheVariants.{Constant, X, Y, Z, Sum, Difference, Product, Square, Face, Both, Either, Complement}
use Rattle.cube.specs.declared.Cube.{Cube}

-- x: [low, low + side], likewise y and z
unfoldable pub across : ℤ → ℕ → Interval
across low side = from low (low +ℤ pos side)

-- the default bounds, for a record that has none: a logical one, or a missing one
abbrev pub none : Interval
none = only (pos 0)

-- the bounds of a record over a cube, where i and j are those of its operands
unfoldable pub bounds_of : Cube → Interval → Interval → Record → Interval
bounds_of q i j (Constant c) = only c
bounds_of q i j X = across q.x q.side
bounds_of q i j Y = across q.y q.side
bounds_of q i j Z = across q.z q.side
bounds_of q i j (Sum a b) = sum i j
bounds_of q i j (Difference a b) = difference i j
bounds_of q i j (Product a b) = product i j
bounds_of q i j (Square a) = square i
bounds_of q i j (Face by a) = none
bounds_of q i j (Both a b) = none
bounds_of q i j (Either a b) = none
bounds_of q i j (Complement a) = none

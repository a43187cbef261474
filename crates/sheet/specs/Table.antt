-- The zone sheet's table of kinds, and the record at an offset of a sheet.
use Rattle.std.specs.Prelude.{◌≡◌, ℕ, ◌+◌, ◌-◌, ◌<◌, Bool, true, false, cond, ◌&&◌, List, eqb, leb, ℤ, length, get_or, Err, None, Ok, Option, Result, Some}
use Rattle.bigendian.specs.Numbers.{signed_at}
use Rattle.sheet.specs.declared.Comparison.{Comparison}
use Rattle.sheet.specs.declared.Comparison.TheVariants.{AtMost, LessThan}
use Rattle.sheet.specs.declared.Record.{Record}
use Rattle.sheet.specs.declared.Record.TheVariants.{Constant, X, Y, Z, Sum, Difference, Product, Square, Face, Both, Either, Complement}
use Rattle.sheet.specs.declared.Cursor.{Cursor}

-- How a face compares, by the sheet's version. (Request 2026-07: in version 2 sheets kind 16 means less than 0. Version 1 sheets keep their rule.)
unfoldable pub comparison_of : ℕ → Comparison
comparison_of version = cond (eqb version 2) LessThan AtMost

-- The table, row by row: a count byte, a kind, and the record they make with the bytes after the kind. a and b are the first two of these, c the first four as a signed number.
-- `by` is how a face compares.
unfoldable pub row_of : Comparison → ℕ → ℕ → ℕ → ℕ → ℤ → Option Record
row_of by size kind a b c =
    cond (eqb size 5 && eqb kind 1) (Some (Constant c))
    (cond (eqb size 1 && eqb kind 2) (Some X)
    (cond (eqb size 1 && eqb kind 3) (Some Y)
    (cond (eqb size 1 && eqb kind 4) (Some Z)
    (cond (eqb size 3 && eqb kind 5) (Some (Sum a b))
    (cond (eqb size 3 && eqb kind 6) (Some (Difference a b))
    (cond (eqb size 3 && eqb kind 7) (Some (Product a b))
    (cond (eqb size 2 && eqb kind 8) (Some (Square a))
    (cond (eqb size 2 && eqb kind 16) (Some (Face by a))
    (cond (eqb size 3 && eqb kind 17) (Some (Both a b))
    (cond (eqb size 3 && eqb kind 18) (Some (Either a b))
    (cond (eqb size 2 && eqb kind 19) (Some (Complement a))
    None)))))))))))

-- the row that matches the bytes from `at` on; byte 2 is the version
unfoldable pub row_at : List ℕ → ℕ → Option Record
row_at s at = row_of (comparison_of (get_or s 2 0)) (get_or s at 0) (get_or s (at + 1) 0) (get_or s (at + 2) 0) (get_or s (at + 3) 0) (signed_at s (at + 2))

-- the record of a row and the cursor past it, or the refusal with its offset
abbrev pub on_row : Option Record → Cursor → ℕ → Result (Record × Cursor) ℕ
on_row (Some r) next at = Ok (r, next)
on_row None next at = Err at

-- The record at a cursor. It is refused, with its byte offset, if it would be the 257th (`left` is 0), runs over the end, or matches no row: an unknown kind or a wrong count.
unfoldable pub read_at : List ℕ → Cursor → Result (Record × Cursor) ℕ
read_at s c =
    cond (eqb c.left 0) (Err c.at)
    (cond (leb (length s) (c.at + get_or s c.at 0)) (Err c.at)
    (on_row (row_at s c.at) (record { at = c.at + 1 + get_or s c.at 0; left = c.left - 1 }) c.at))

-- (Only inner contracts cite this.) A record stands at an offset: it does not run over the end, and a row matches it
abbrev pub is_known : Option Record → Bool
is_known (Some r) = true
is_known None = false

pub record Stands (s : List ℕ) (at : ℕ) : Type 0 where
  pub inside : at + get_or s at 0 < length s
  pub known : is_known (row_at s at) ≡ true

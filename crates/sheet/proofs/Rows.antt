-- The rows that match a record by its count byte, and what `Cursor::read` returns at each of its tests.
use Rattle.std.specs.Prelude.{Err, None, Ok, Option, Some}
use mathlib.Core.Path.{◌≡◌, sym, ap, ◌∙◌}
use mathlib.Core.List.{List}
use Prim.Native.Nat.{ℕ, ◌+◌, ◌-◌, ◌<◌, ◌≤◌, ◌^◌}
use native.Mathlib.Omega.{arith}
use borrow.Author.Tests.{le-leb, lt-leb, ne_eqb}
use lib.IntN.{ℤ, pos}
use lib.ListN.{length, get_or}
use lib.Signed.{mag}
use mir.Syntax.{w8, w32, w64}
use mir.Val.{Fits, to_z, of_z}
use mir.Facts.{to_z-of_z}
use Rattle.bigendian.specs.Numbers.{signed_at}
use Rattle.sheet.specs.declared.Comparison.{Comparison}
use Rattle.sheet.specs.declared.Comparison.TheVariants.{AtMost}
use Rattle.sheet.specs.declared.Record.{Record}
use Rattle.sheet.specs.declared.Record.TheVariants.{Constant}
use Rattle.sheet.specs.declared.Cursor.{Cursor}
use Rattle.sheet.specs.Table.{comparison_of, row_of, row_at, read_at}

-- ---- no row
pub no-two : (kind a b : ℕ) → (kind ≡ 5 → ⊥) → (kind ≡ 6 → ⊥) → (kind ≡ 7 → ⊥) → (kind ≡ 17 → ⊥) → (kind ≡ 18 → ⊥) → None ≡ row_of AtMost 3 kind a b (pos 0)
unfolding row_of
no-two kind a b e f g h i = rw (ne_eqb _ _ e, ne_eqb _ _ f, ne_eqb _ _ g, ne_eqb _ _ h, ne_eqb _ _ i)

-- a byte as a number of 64 bits
pub byte_fits : (n : ℕ) → Fits w8 n → Fits w64 n
byte_fits n h = record { fits = omega (arith, h.fits) }

-- ---- the row, by the count byte
module _ (s : List ℕ) (at size : ℕ) (is : size ≡ get_or s at 0) where
  counted : (n : ℕ) → size ≡ n → get_or s at 0 ≡ n
  counted n e = sym is ∙ e

  pub row-none : (r : Option Record) → size ≡ 1 → r ≡ row_of AtMost 1 (get_or s (at + 1) 0) 0 0 (pos 0) → r ≡ row_at s at
  unfolding row_at row_of
  row-none r e h = rw (counted 1 e) h

  pub row_one : (by : Comparison) (r : Option Record) → by ≡ comparison_of (get_or s 2 0) → size ≡ 2 → r ≡ row_of by 2 (get_or s (at + 1) 0) (get_or s (at + 2) 0) 0 (pos 0) → r ≡ row_at s at
  unfolding row_at row_of
  row_one by r b e h = rw (counted 2 e, ← b) h

  pub row-two : (r : Option Record) → size ≡ 3 → r ≡ row_of AtMost 3 (get_or s (at + 1) 0) (get_or s (at + 2) 0) (get_or s (at + 3) 0) (pos 0) → r ≡ row_at s at
  unfolding row_at row_of
  row-two r e h = rw (counted 3 e) h

  pub row-constant : (c : ℤ) → size ≡ 5 → get_or s (at + 1) 0 ≡ 1 → c ≡ signed_at s (at + 2) → mag c < 2 ^ 31 → Some (Constant (to_z w32 (of_z w32 c))) ≡ row_at s at
  unfolding row_at row_of
  row-constant c e k h f = rw (counted 5 e, k) (ap (λ (z : ℤ). Some (Constant z)) (to_z-of_z {w = w32} (record { sfits = f }) ∙ h))

  pub row-no-constant : size ≡ 5 → (get_or s (at + 1) 0 ≡ 1 → ⊥) → None ≡ row_at s at
  unfolding row_at row_of
  row-no-constant e k = rw (counted 5 e, ne_eqb _ _ k)

  pub row-unknown : (size ≡ 1 → ⊥) → (size ≡ 2 → ⊥) → (size ≡ 3 → ⊥) → (size ≡ 5 → ⊥) → None ≡ row_at s at
  unfolding row_at row_of
  row-unknown a b c d = rw (← is, ne_eqb _ _ a, ne_eqb _ _ b, ne_eqb _ _ c, ne_eqb _ _ d)

-- ---- what is read at a cursor
module _ (s : List ℕ) (c : Cursor) where
  pub refused_full : c.left ≡ 0 → Err c.at ≡ read_at s c
  unfolding read_at
  refused_full h = rw h

  module _ (more : c.left ≡ 0 → ⊥) where
    pub refused_end : length s ≤ c.at → Err c.at ≡ read_at s c
    unfolding read_at
    refused_end h = rw (ne_eqb _ _ more, le-leb (length s) (c.at + get_or s c.at 0) (omega arith))

    module _ (at : c.at < length s) where
      pub refused_over : length s - c.at ≤ get_or s c.at 0 → Err c.at ≡ read_at s c
      unfolding read_at
      refused_over h = rw (ne_eqb _ _ more, le-leb (length s) (c.at + get_or s c.at 0) (omega arith))

      module _ (fits : get_or s c.at 0 < length s - c.at) (r : Option Record) (is : r ≡ row_at s c.at) where
        pub refused-row : r ≡ None → Err c.at ≡ read_at s c
        unfolding read_at
        refused-row h = rw (ne_eqb _ _ more, lt-leb (length s) (c.at + get_or s c.at 0) (omega arith), ← is, h)

        pub found-row : (what : Record) → r ≡ Some what → Ok (what, (record { at = c.at + 1 + get_or s c.at 0; left = c.left - 1 })) ≡ read_at s c
        unfolding read_at
        found-row what h = rw (ne_eqb _ _ more, lt-leb (length s) (c.at + get_or s c.at 0) (omega arith), ← is, h)

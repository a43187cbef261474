-- Document 01's table of kinds by its numbers: each row, that there are no others, and the sorts of a record and of its operands by its kind. And the versions.
use Rattle.std.specs.Prelude.{None, Some}
use mathlib.Core.Path.{◌≡◌, refl, sym, ap, ap₂, ◌∙◌}
use mathlib.Core.Bool.{true, false, cond, ◌&&◌, true≢false, and-eq-true_iff}
use Prim.Native.Nat.{ℕ}
use borrow.Author.Tests.{eqb-true}
use lib.Dec.{eqb, leb}
use lib.IntN.{ℤ}
use Rattle.integers.proofs.Order.{by-test}
use Rattle.sheet.specs.declared.Comparison.{Comparison}
use Rattle.sheet.specs.declared.Comparison.TheVariants.{AtMost, LessThan}
use Rattle.sheet.specs.declared.Record.{Record}
use Rattle.sheet.specs.declared.Record.TheVariants.{Constant, X, Y, Z, Sum, Difference, Product, Square, Face, Both, Either, Complement}
use Rattle.sheet.specs.declared.Sort.TheVariants.{Neither, Arithmetic, Logical}
use Rattle.sheet.specs.Table.{comparison_of, row_of, is_known}
use Rattle.sheet.specs.Operands.{sort_of, asked_of}
use Rattle.sheet.specs.Check.{is_version}

-- ---- the table: count byte, kind, record
record Table (by : Comparison) (a b : ℕ) (c : ℤ) : Type 0 where
  constant : row_of by 5 1 a b c ≡ Some (Constant c)
  x : row_of by 1 2 a b c ≡ Some X
  y : row_of by 1 3 a b c ≡ Some Y
  z : row_of by 1 4 a b c ≡ Some Z
  sum : row_of by 3 5 a b c ≡ Some (Sum a b)
  difference : row_of by 3 6 a b c ≡ Some (Difference a b)
  product : row_of by 3 7 a b c ≡ Some (Product a b)
  square : row_of by 2 8 a b c ≡ Some (Square a)
  face : row_of by 2 16 a b c ≡ Some (Face by a)
  both : row_of by 3 17 a b c ≡ Some (Both a b)
  either : row_of by 3 18 a b c ≡ Some (Either a b)
  complement : row_of by 2 19 a b c ≡ Some (Complement a)

table : (by : Comparison) (a b : ℕ) (c : ℤ) → Table by a b c
unfolding row_of
table by a b c = record {
  constant = refl;
  x = refl;
  y = refl;
  z = refl;
  sum = refl;
  difference = refl;
  product = refl;
  square = refl;
  face = refl;
  both = refl;
  either = refl;
  complement = refl;
}

-- ---- no other kind and no other count is known
abbrev pub kind_of : Record → ℕ
kind_of (Constant c) = 1
kind_of X = 2
kind_of Y = 3
kind_of Z = 4
kind_of (Sum a b) = 5
kind_of (Difference a b) = 6
kind_of (Product a b) = 7
kind_of (Square a) = 8
kind_of (Face by a) = 16
kind_of (Both p q) = 17
kind_of (Either p q) = 18
kind_of (Complement p) = 19

abbrev pub count_of : Record → ℕ
count_of (Constant c) = 5
count_of X = 1
count_of Y = 1
count_of Z = 1
count_of (Sum a b) = 3
count_of (Difference a b) = 3
count_of (Product a b) = 3
count_of (Square a) = 2
count_of (Face by a) = 2
count_of (Both p q) = 3
count_of (Either p q) = 3
count_of (Complement p) = 2

module _ (by : Comparison) (size kind a b : ℕ) (c : ℤ) (r : Record) (known : row_of by size kind a b c ≡ Some r) where
  abbrev Told : Type 0
  Told = (size ≡ count_of r) × (kind ≡ kind_of r)

  hit : (what : Record) → row_of by (count_of what) (kind_of what) a b c ≡ Some what → (eqb size (count_of what) && eqb kind (kind_of what)) ≡ true → Told
  hit what row t =
      let e = (and-eq-true_iff (eqb size (count_of what)) (eqb kind (kind_of what))).0 t in
      let s = eqb-true size (count_of what) e.0 in
      let k = eqb-true kind (kind_of what) e.1 in
      let same : Some what ≡ Some r = sym row ∙ ap₂ (λ (i j : ℕ). row_of by i j a b c) (sym s) (sym k) ∙ known in
      let q : what ≡ r = cc in
      (s ∙ ap count_of q, k ∙ ap kind_of q)

  pub known-kind : Told
  unfolding row_of
  known-kind =
      by-test (eqb size 5 && eqb kind 1) (hit (Constant c) refl) (λ t1.
      by-test (eqb size 1 && eqb kind 2) (hit X refl) (λ t2.
      by-test (eqb size 1 && eqb kind 3) (hit Y refl) (λ t3.
      by-test (eqb size 1 && eqb kind 4) (hit Z refl) (λ t4.
      by-test (eqb size 3 && eqb kind 5) (hit (Sum a b) refl) (λ t5.
      by-test (eqb size 3 && eqb kind 6) (hit (Difference a b) refl) (λ t6.
      by-test (eqb size 3 && eqb kind 7) (hit (Product a b) refl) (λ t7.
      by-test (eqb size 2 && eqb kind 8) (hit (Square a) refl) (λ t8.
      by-test (eqb size 2 && eqb kind 16) (hit (Face by a) refl) (λ t9.
      by-test (eqb size 3 && eqb kind 17) (hit (Both a b) refl) (λ t10.
      by-test (eqb size 3 && eqb kind 18) (hit (Either a b) refl) (λ t11.
      by-test (eqb size 2 && eqb kind 19) (hit (Complement a) refl) (λ t12.
      let none : None ≡ Some r = rw (t1, t2, t3, t4, t5, t6, t7, t8, t9, t10, t11, t12) at known in
      absurd (true≢false (sym (ap is_known none)))))))))))))))

-- ---- sorts by kind
-- Kinds 1 to 8 are arithmetic; 16 to 19 are logical.
pub sort-by-kind : (r : Record) → sort_of r ≡ cond (leb (kind_of r) 8) Arithmetic Logical
sort-by-kind (Constant c) = refl
sort-by-kind X = refl
sort-by-kind Y = refl
sort-by-kind Z = refl
sort-by-kind (Sum a b) = refl
sort-by-kind (Difference a b) = refl
sort-by-kind (Product a b) = refl
sort-by-kind (Square a) = refl
sort-by-kind (Face by a) = refl
sort-by-kind (Both p q) = refl
sort-by-kind (Either p q) = refl
sort-by-kind (Complement p) = refl

-- Operands of kinds 5 to 8 and 16 are arithmetic; of 17 to 19, logical. (Kinds 1 to 4 have none.)
pub asked-by-kind : (r : Record) → asked_of r ≡ cond (leb (kind_of r) 4) Neither (cond (leb (kind_of r) 16) Arithmetic Logical)
asked-by-kind (Constant c) = refl
asked-by-kind X = refl
asked-by-kind Y = refl
asked-by-kind Z = refl
asked-by-kind (Sum a b) = refl
asked-by-kind (Difference a b) = refl
asked-by-kind (Product a b) = refl
asked-by-kind (Square a) = refl
asked-by-kind (Face by a) = refl
asked-by-kind (Both p q) = refl
asked-by-kind (Either p q) = refl
asked-by-kind (Complement p) = refl

-- ---- versions
record Versions : Type 0 where
  -- of 0, 1, 2, 3 and 255 only 1 and 2 are versions
  none : is_version 0 ≡ false
  one : is_version 1 ≡ true
  two : is_version 2 ≡ true
  three : is_version 3 ≡ false
  last : is_version 255 ≡ false
  -- in version 1 a face means at most 0, in version 2 less than 0
  at_most : comparison_of 1 ≡ AtMost
  less-than : comparison_of 2 ≡ LessThan

versions : Versions
unfolding is_version comparison_of
versions = record { none = refl; one = refl; two = refl; three = refl; last = refl; at_most = refl; less-than = refl }

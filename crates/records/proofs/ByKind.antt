-- Where a record stands, its kind determines its count byte and which record it is.
use Rattle.std.specs.Prelude.{Some}
use mathlib.Core.Path.{◌≡◌, refl, ap, sym, ◌∙◌}
use mathlib.Core.Bool.{true, false, cond, ◌&&◌, and-eq-true_iff}
use mathlib.Core.List.{List}
use Prim.Native.Nat.{ℕ, ◌+◌, ◌<◌, ◌≤◌, ◌^◌}
use native.Mathlib.Omega.{arith}
use borrow.Author.Tests.{leb-true, eqb-true, ne_eqb}
use lib.Dec.{leb, eqb}
use lib.IntN.{ℤ}
use lib.ListN.{length, get_or}
use lib.Signed.{mag}
use mir.Syntax.{w32}
use mir.Val.{to_z, of_z}
use mir.Facts.{to_z-of_z}
use Rattle.integers.proofs.Order.{by-test}
use Rattle.bigendian.specs.Numbers.{signed_at}
use Rattle.sheet.specs.declared.Comparison.{Comparison}
use Rattle.sheet.specs.declared.Record.{Record}
use Rattle.sheet.specs.declared.Record.TheVariants.{Constant, X, Y, Z, Sum, Difference, Product, Square, Face, Both, Either, Complement}
use Rattle.sheet.specs.Table.{comparison_of, row_of, row_at, is_known, Stands}

-- the count byte of a kind, and the record that the kind makes with the bytes after it
abbrev count_of : ℕ → ℕ
count_of kind =
    cond (eqb kind 1) 5 (cond (eqb kind 2) 1 (cond (eqb kind 3) 1 (cond (eqb kind 4) 1 (cond (eqb kind 5) 3 (cond (eqb kind 6) 3 (cond (eqb kind 7) 3
    (cond (eqb kind 8) 2 (cond (eqb kind 16) 2 (cond (eqb kind 17) 3 (cond (eqb kind 18) 3 2))))))))))

abbrev kind_of : Comparison → ℕ → ℕ → ℕ → ℤ → Record
kind_of by kind a b c =
    cond (eqb kind 1) (Constant c) (cond (eqb kind 2) X (cond (eqb kind 3) Y (cond (eqb kind 4) Z (cond (eqb kind 5) (Sum a b) (cond (eqb kind 6) (Difference a b)
    (cond (eqb kind 7) (Product a b) (cond (eqb kind 8) (Square a) (cond (eqb kind 16) (Face by a) (cond (eqb kind 17) (Both a b) (cond (eqb kind 18) (Either a b) (Complement a)))))))))))

module _ (by : Comparison) (size kind a b : ℕ) (c : ℤ) where
  abbrev Told : Type 0
  Told = (0 < size) × (size ≤ 5) × (size ≡ count_of kind) × (row_of by size kind a b c ≡ Some (kind_of by kind a b c))

  -- a matching row determines all of it
  hit : (k m : ℕ) → (0 < k) × (k ≤ 5) × (k ≡ count_of m) × (row_of by k m a b c ≡ Some (kind_of by m a b c)) → (eqb size k && eqb kind m) ≡ true → Told
  hit k m h t =
      let e = (and-eq-true_iff (eqb size k) (eqb kind m)).0 t in
      rw (eqb-true size k e.0, eqb-true kind m e.1) h

  pub told : is_known (row_of by size kind a b c) ≡ true → Told
  unfolding row_of
  told h =
      by-test (eqb size 5 && eqb kind 1) (hit 5 1 (omega arith, omega arith, refl, refl)) (λ t1.
      by-test (eqb size 1 && eqb kind 2) (hit 1 2 (omega arith, omega arith, refl, refl)) (λ t2.
      by-test (eqb size 1 && eqb kind 3) (hit 1 3 (omega arith, omega arith, refl, refl)) (λ t3.
      by-test (eqb size 1 && eqb kind 4) (hit 1 4 (omega arith, omega arith, refl, refl)) (λ t4.
      by-test (eqb size 3 && eqb kind 5) (hit 3 5 (omega arith, omega arith, refl, refl)) (λ t5.
      by-test (eqb size 3 && eqb kind 6) (hit 3 6 (omega arith, omega arith, refl, refl)) (λ t6.
      by-test (eqb size 3 && eqb kind 7) (hit 3 7 (omega arith, omega arith, refl, refl)) (λ t7.
      by-test (eqb size 2 && eqb kind 8) (hit 2 8 (omega arith, omega arith, refl, refl)) (λ t8.
      by-test (eqb size 2 && eqb kind 16) (hit 2 16 (omega arith, omega arith, refl, refl)) (λ t9.
      by-test (eqb size 3 && eqb kind 17) (hit 3 17 (omega arith, omega arith, refl, refl)) (λ t10.
      by-test (eqb size 3 && eqb kind 18) (hit 3 18 (omega arith, omega arith, refl, refl)) (λ t11.
      by-test (eqb size 2 && eqb kind 19) (hit 2 19 (omega arith, omega arith, refl, refl)) (λ t12.
      let z : false ≡ true = rw (t1, t2, t3, t4, t5, t6, t7, t8, t9, t10, t11, t12) at h in
      let y : ◌≡◌ {A = ℕ} 0 1 = cc in absurd (omega arith)))))))))))))

module _ (s : List ℕ) (at : ℕ) (h : Stands s at) where
  abbrev kind : ℕ
  kind = get_or s (at + 1) 0

  -- the record of a kind, by the bytes after it and by the version
  abbrev made : ℕ → Record
  made k = kind_of (comparison_of (get_or s 2 0)) k (get_or s (at + 2) 0) (get_or s (at + 3) 0) (signed_at s (at + 2))

  tells : (0 < get_or s at 0) × (get_or s at 0 ≤ 5) × (get_or s at 0 ≡ count_of kind) × (row_at s at ≡ Some (made kind))
  unfolding row_at
  tells = told (comparison_of (get_or s 2 0)) (get_or s at 0) kind (get_or s (at + 2) 0) (get_or s (at + 3) 0) (signed_at s (at + 2)) h.known

  pub kind-room : at + 1 < length s
  kind-room = omega (arith, h.inside, tells.0)

  -- no count byte is greater than 5
  pub record-few : get_or s at 0 ≤ 5
  record-few = tells.1

  -- all its bytes are in the sheet, and the record is the one that its kind makes
  pub record-room : (k : ℕ) → kind ≡ k → at + count_of k < length s
  record-room k e = omega (arith, h.inside, tells.2 ∙ ap count_of e)

  pub record_is : (k : ℕ) → kind ≡ k → row_at s at ≡ Some (made k)
  record_is k e = tells.3 ∙ ap (λ (m : ℕ). Some (made m)) e

  -- the same as the arms of a match require them: k is the kind of the arm
  module _ (k : ℕ) (e : kind ≡ k) where
    pub first-room : leb 2 (count_of k) ≡ true → at + 2 < length s
    first-room t = omega (arith, record-room k e, leb-true 2 (count_of k) t)

    pub second-room : leb 3 (count_of k) ≡ true → at + 3 < length s
    second-room t = omega (arith, record-room k e, leb-true 3 (count_of k) t)

    pub record-as : (r : Record) → made k ≡ r → row_at s at ≡ Some r
    record-as r h = record_is k e ∙ ap Some h

  -- the version comes before a face's last byte; `by` is what was read of it
  pub version-room : kind ≡ 16 → 2 < length s
  version-room e = omega (arith, record-room 16 e)

  pub record-face : (by : Comparison) → kind ≡ 16 → by ≡ comparison_of (get_or s 2 0) → row_at s at ≡ Some (Face by (get_or s (at + 2) 0))
  record-face by e h = record_is 16 e ∙ ap (λ (b : Comparison). Some (Face b (get_or s (at + 2) 0))) (sym h)

  pub record-constant : (c : ℤ) → kind ≡ 1 → c ≡ signed_at s (at + 2) → mag c < 2 ^ 31 → row_at s at ≡ Some (Constant (to_z w32 (of_z w32 c)))
  record-constant c e h f = record_is 1 e ∙ ap (λ (z : ℤ). Some (Constant z)) (sym (to_z-of_z {w = w32} (record { sfits = f }) ∙ h))

  -- a record of none of the other kinds is a complement
  module _ (n1 : kind ≡ 1 → ⊥) (n2 : kind ≡ 2 → ⊥) (n3 : kind ≡ 3 → ⊥) (n4 : kind ≡ 4 → ⊥) (n5 : kind ≡ 5 → ⊥) (n6 : kind ≡ 6 → ⊥) (n7 : kind ≡ 7 → ⊥)
      (n8 : kind ≡ 8 → ⊥) (n16 : kind ≡ 16 → ⊥) (n17 : kind ≡ 17 → ⊥) (n18 : kind ≡ 18 → ⊥) where
    last : (0 < get_or s at 0) × (get_or s at 0 ≤ 5) × (get_or s at 0 ≡ 2) × (row_at s at ≡ Some (Complement (get_or s (at + 2) 0)))
    last = rw (ne_eqb kind 1 n1, ne_eqb kind 2 n2, ne_eqb kind 3 n3, ne_eqb kind 4 n4, ne_eqb kind 5 n5, ne_eqb kind 6 n6, ne_eqb kind 7 n7, ne_eqb kind 8 n8, ne_eqb kind 16 n16, ne_eqb kind 17 n17, ne_eqb kind 18 n18) at tells

    pub complement-room : at + 2 < length s
    complement-room = omega (arith, h.inside, last.2)

    pub complement-is : row_at s at ≡ Some (Complement (get_or s (at + 2) 0))
    complement-is = last.3

-- Two sheets whose bytes are equal but for byte 2, the version: the same records are read from both, but for how their faces compare, and if both versions are
-- known, both sheets are good or are refused alike.
use Rattle.std.specs.Prelude.{Err, None, Option, Result, Some}
use mathlib.Core.Path.{◌≡◌, refl, sym, ap, ap₂, ◌∙◌}
use mathlib.Core.Bool.{Bool, true, false, cond, ◌&&◌}
use mathlib.Core.List.{List, [], ◌∷◌, ◌++◌, map}
use Prim.Native.Nat.{ℕ, zero, suc, ◌+◌, ◌*◌, ◌-◌, ◌≤◌}
use native.Mathlib.Omega.{arith}
use lib.Dec.{eqb, leb}
use lib.IntN.{ℤ}
use lib.ListN.{length, get_or}
use Rattle.bigendian.specs.Numbers.{unsigned_at, signed_at}
use Rattle.integers.proofs.Order.{by-test}
use Rattle.interval.specs.declared.Interval.{Interval}
use Rattle.sheet.specs.declared.Comparison.{Comparison}
use Rattle.sheet.specs.declared.Record.{Record}
use Rattle.sheet.specs.declared.Record.TheVariants.{Constant, X, Y, Z, Sum, Difference, Product, Square, Face, Both, Either, Complement}
use Rattle.sheet.specs.declared.Cursor.{Cursor}
use Rattle.sheet.specs.declared.Sort.{Sort}
use Rattle.sheet.specs.Table.{comparison_of, row_of, row_at, on_row, read_at}
use Rattle.sheet.specs.Records.{Reading, first, on_read, read_from, reading, records_of}
use Rattle.sheet.specs.Along.{onward, along}
use Rattle.sheet.proofs.Along.{Pairs, related}
use Rattle.sheet.specs.Operands.{sort_of, asked_of, first_of, second_of, first_unmet, last_sort}
use Rattle.sheet.specs.Check.{length_fails, is_version, check_records, check_of}
use Rattle.sheet.proofs.KindNumbers.{kind_of}
use Rattle.records.specs.Faces.{is_face, has_face}
use Rattle.cube.specs.declared.Cube.{Cube}
use Rattle.colour.specs.Bounds.{bounds_of}
use Rattle.colour.specs.Entries.{Entry, blank, entry_with, entry_of, entries, past_from, first_past}

-- the same record, but that a face compares so
abbrev pub compared : Comparison → Record → Record
compared by r = cond (eqb (kind_of r) 16) (Face by (first_of r)) r

-- ---- whatever does not depend on how a face compares is the same of both
module _ {A : Type 0} (what : Record → A) (same : (by other : Comparison) (a : ℕ) → what (Face by a) ≡ what (Face other a)) (by : Comparison) where
  pub compared-keeps : (r : Record) → what (compared by r) ≡ what r
  compared-keeps (Constant c) = refl
  compared-keeps X = refl
  compared-keeps Y = refl
  compared-keeps Z = refl
  compared-keeps (Sum a b) = refl
  compared-keeps (Difference a b) = refl
  compared-keeps (Product a b) = refl
  compared-keeps (Square a) = refl
  compared-keeps (Face other a) = same by other a
  compared-keeps (Both a b) = refl
  compared-keeps (Either a b) = refl
  compared-keeps (Complement a) = refl

-- ---- a row of the table
abbrev row_with : Comparison → Option Record → Option Record
row_with by (Some r) = Some (compared by r)
row_with by None = None

row-compared : (by other : Comparison) (size kind a b : ℕ) (c : ℤ) → row_with by (row_of other size kind a b c) ≡ row_of by size kind a b c
unfolding row_of
row-compared by other size kind a b c =
    by-test (eqb size 5 && eqb kind 1) (λ t. rw t) (λ t1.
    by-test (eqb size 1 && eqb kind 2) (λ t. rw (t1, t)) (λ t2.
    by-test (eqb size 1 && eqb kind 3) (λ t. rw (t1, t2, t)) (λ t3.
    by-test (eqb size 1 && eqb kind 4) (λ t. rw (t1, t2, t3, t)) (λ t4.
    by-test (eqb size 3 && eqb kind 5) (λ t. rw (t1, t2, t3, t4, t)) (λ t5.
    by-test (eqb size 3 && eqb kind 6) (λ t. rw (t1, t2, t3, t4, t5, t)) (λ t6.
    by-test (eqb size 3 && eqb kind 7) (λ t. rw (t1, t2, t3, t4, t5, t6, t)) (λ t7.
    by-test (eqb size 2 && eqb kind 8) (λ t. rw (t1, t2, t3, t4, t5, t6, t7, t)) (λ t8.
    by-test (eqb size 2 && eqb kind 16) (λ t. rw (t1, t2, t3, t4, t5, t6, t7, t8, t)) (λ t9.
    by-test (eqb size 3 && eqb kind 17) (λ t. rw (t1, t2, t3, t4, t5, t6, t7, t8, t9, t)) (λ t10.
    by-test (eqb size 3 && eqb kind 18) (λ t. rw (t1, t2, t3, t4, t5, t6, t7, t8, t9, t10, t)) (λ t11.
    by-test (eqb size 2 && eqb kind 19) (λ t. rw (t1, t2, t3, t4, t5, t6, t7, t8, t9, t10, t11, t)) (λ t12.
    rw (t1, t2, t3, t4, t5, t6, t7, t8, t9, t10, t11, t12)))))))))))))

-- ---- all records
module _ (by : Comparison) where
  abbrev all : List Record → List Record
  all = map (compared by)

  pub compared-length : (rs : List Record) → length (all rs) ≡ length rs
  compared-length [] = refl
  compared-length (r ∷ rs) = ap suc (compared-length rs)

  compared-unmet : (sorts : List Sort) (rs : List Record) → first_unmet sorts (all rs) ≡ first_unmet sorts rs
  unfolding first_unmet
  compared-unmet sorts [] = refl
  compared-unmet sorts (r ∷ rs) =
      rw (
        compared-keeps asked_of (λ b o a. refl) by r,
        compared-keeps first_of (λ b o a. refl) by r,
        compared-keeps second_of (λ b o a. refl) by r,
        compared-keeps sort_of (λ b o a. refl) by r,
        compared-unmet (sorts ++ sort_of r ∷ []) rs,
      )

  compared-last : (rs : List Record) → last_sort (all rs) ≡ last_sort rs
  unfolding last_sort
  compared-last [] = refl
  compared-last (r ∷ []) = compared-keeps sort_of (λ b o a. refl) by r
  compared-last (r ∷ next ∷ rs) = compared-last (next ∷ rs)

  compared-check : (rs : List Record) → check_records (all rs) ≡ check_records rs
  unfolding check_records
  compared-check rs = rw (compared-unmet [] rs, compared-length rs, compared-last rs)

  -- ---- what is computed from them
  compared_at : (rs : List Record) (i : ℕ) → get_or (all rs) i X ≡ compared by (get_or rs i X)
  compared_at [] i = refl
  compared_at (r ∷ rs) zero = refl
  compared_at (r ∷ rs) (suc i) = compared_at rs i

  pub compared-faces : (rs : List Record) → has_face (all rs) ≡ has_face rs
  unfolding has_face
  compared-faces rs i f = (ap is_face (compared_at rs f) ∙ compared-keeps is_face (λ b o a. refl) by (get_or rs f X)) i

  module _ {A : Type 0} (step : List A → Record → A) where
    onward-compared : (vs : List A) (rs : List Record) → onward step vs (all rs) ≡ onward (λ ws r. step ws (compared by r)) vs rs
    unfolding onward
    onward-compared vs [] = refl
    onward-compared vs (r ∷ rs) = onward-compared (vs ++ step vs (compared by r) ∷ []) rs

    pub along-compared : (rs : List Record) → along step (all rs) ≡ along (λ ws r. step ws (compared by r)) rs
    unfolding along
    along-compared rs = onward-compared [] rs

  module _ (q : Cube) where
    abbrev SameBounds : Entry → Entry → Type 0
    SameBounds e f = e.bounds ≡ f.bounds

    step-bounds : (es fs : List Entry) (r : Record) → Pairs SameBounds blank blank es fs → SameBounds (entry_of q es (compared by r)) (entry_of q fs r)
    unfolding entry_with bounds_of
    step-bounds es fs r p =
        compared-keeps (λ (s : Record). (entry_of q es s).bounds) (λ b o a. refl) by r
        ∙ ap₂ (λ (i j : Interval). bounds_of q i j r) (p.each (first_of r)) (p.each (second_of r))

    bounds-pairs : (rs : List Record) → Pairs SameBounds blank blank (entries q (all rs)) (entries q rs)
    bounds-pairs rs =
        rw (along-compared (entry_of q) rs)
        (related SameBounds blank blank refl (λ es r. entry_of q es (compared by r)) (entry_of q) step-bounds rs)

    past_pairs : (n : ℕ) (es fs : List Entry) → length es ≡ length fs → ((i : ℕ) → SameBounds (get_or es i blank) (get_or fs i blank)) → past_from n es ≡ past_from n fs
    unfolding past_from
    past_pairs n [] [] l h = refl
    past_pairs n [] (f ∷ fs) l h = let z : ⊥ = omega arith in absurd z
    past_pairs n (e ∷ es) [] l h = let z : ⊥ = omega arith in absurd z
    past_pairs n (e ∷ es) (f ∷ fs) l h = rw (h 0, past_pairs (suc n) es fs (omega arith) (λ i. h (suc i)))

    pub compared-past : (rs : List Record) → first_past (all rs) q ≡ first_past rs q
    unfolding first_past
    compared-past rs = let p = bounds-pairs rs in past_pairs 0 (entries q (all rs)) (entries q rs) p.same p.each

-- ---- the records of two sheets whose bytes are equal but for byte 2
module _ (s t : List ℕ) (long : length s ≡ length t) (same : (i : ℕ) → (i ≡ 2 → ⊥) → get_or s i 0 ≡ get_or t i 0) where
  abbrev by : Comparison
  by = comparison_of (get_or s 2 0)

  same_number : (n at : ℕ) → 3 ≤ at → unsigned_at n s at ≡ unsigned_at n t at
  unfolding unsigned_at
  same_number zero at h = refl
  same_number (suc n) at h = ap₂ (λ (u b : ℕ). 256 * u + b) (same_number n at h) (same (at + n) (λ e. omega arith))

  same_row : (at : ℕ) → 3 ≤ at → row_at s at ≡ row_with by (row_at t at)
  unfolding row_at
  same_row at h =
      rw (same at (λ e. omega arith), same (at + 1) (λ e. omega arith), same (at + 2) (λ e. omega arith), same (at + 3) (λ e. omega arith), same_number 4 (at + 2) (omega arith))
      (sym (row-compared by (comparison_of (get_or t 2 0)) (get_or t at 0) (get_or t (at + 1) 0) (get_or t (at + 2) 0) (get_or t (at + 3) 0) (signed_at t (at + 2))))

  abbrev read_with : Reading → Reading
  read_with r = record { records = map (compared by) r.records; stop = r.stop }

  -- one read: no record may follow, it runs over the end, or it has this row
  abbrev read_by : Bool → Bool → Option Record → ℕ → Cursor → Result (Record × Cursor) ℕ
  read_by full over row at next = cond full (Err at) (cond over (Err at) (on_row row next at))

  on_read_lem : (full over : Bool) (row : Option Record) (left at : ℕ) (next : Cursor) → read_from left s next.at ≡ read_with (read_from left t next.at)
      → on_read (read_by full over (row_with by row) at next) (λ n. read_from left s n.at) ≡ read_with (on_read (read_by full over row at next) (λ n. read_from left t n.at))
  on_read_lem true over row left at next h = refl
  on_read_lem false true row left at next h = refl
  on_read_lem false false (Some r) left at next h = ap (first (compared by r)) h
  on_read_lem false false None left at next h = refl

  same_from : (left at : ℕ) → 3 ≤ at → read_from left s at ≡ read_with (read_from left t at)
  unfolding read_from read_at
  same_from zero at h = refl
  same_from (suc left) at h =
      let size = get_or t at 0 in
      rw (same at (λ e. omega arith), long, same_row at h)
      (on_read_lem (eqb (suc left) 0) (leb (length t) (at + size)) (row_at t at) left at (record { at = at + 1 + size; left = suc left - 1 }) (same_from left (at + 1 + size) (omega arith)))

  same-reading : reading s ≡ read_with (reading t)
  unfolding reading
  same-reading = same_from 256 3 (omega arith)

  pub same-records : records_of s ≡ map (compared by) (records_of t)
  same-records = ap (λ (r : Reading). r.records) same-reading

  -- ---- the test of the whole sheet
  pub same_check : is_version (get_or s 2 0) ≡ true → is_version (get_or t 2 0) ≡ true → check_of s ≡ check_of t
  unfolding check_of unsigned_at
  same_check first second =
      let fails : length_fails s ≡ length_fails t = rw (long, same 0 (λ e. omega arith), same 1 (λ e. omega arith)) in
      rw (fails, long, first, second, ap (λ (r : Reading). r.stop) same-reading, same-records, compared-check by (records_of t))

-- ---- how the faces of a sheet compare
pub face-comparison : (s : List ℕ) (f : ℕ) (by : Comparison) (a : ℕ) → get_or (records_of s) f X ≡ Face by a → by ≡ comparison_of (get_or s 2 0)
face-comparison s f by a e =
    let c = comparison_of (get_or s 2 0) in
    let same : get_or (records_of s) f X ≡ compared c (get_or (records_of s) f X) = ap (λ (rs : List Record). get_or rs f X) (same-records s s refl (λ i n. refl)) ∙ compared_at c (records_of s) f in
    let faces : Face by a ≡ Face c a = sym e ∙ same ∙ ap (compared c) e in cc

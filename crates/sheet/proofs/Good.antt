-- What a sheet that was found good tells: no row refused it, it has so many records, and there is a last one.
use Rattle.std.specs.Prelude.{Err, Ok, Result}
use mathlib.Core.Path.{◌≡◌, refl, sym, ◌∙◌}
use mathlib.Core.Bool.{true, false}
use mathlib.Core.List.{List, [], ◌∷◌}
use Prim.Native.Nat.{ℕ, zero, suc, ◌<◌, ◌≤◌}
use native.Mathlib.Omega.{arith}
use borrow.Author.Tests.{ltb-false}
use lib.Dec.{ltb}
use lib.ListN.{length, get_or}
use Rattle.integers.proofs.Order.{by-test}
use Rattle.sheet.specs.declared.Record.{Record}
use Rattle.sheet.specs.declared.Sort.{Sort}
use Rattle.sheet.specs.declared.Sort.TheVariants.{Neither, Arithmetic, Logical}
use Rattle.replies.specs.declared.Refusal.{Refusal}
use Rattle.replies.specs.declared.Refusal.TheVariants.{Length, Version, Operand, Solid, Record as BadRecord}
use Rattle.replies.specs.Table.{Reply}
use Rattle.sheet.specs.Table.{read_at}
use Rattle.sheet.specs.Records.{on_read, read_from, reading, records_of, stop_of}
use Rattle.sheet.specs.Operands.{first_unmet, last_sort}
use Rattle.sheet.specs.Check.{length_fails, is_version, solid_of, check_records, check_of}
use Rattle.sheet.proofs.Unmet.{unmet-most}
use Rattle.sheet.specs.declared.Cursor.{Cursor}

-- a refusal is not good
pub not_good : {A : Type 0} (why : Refusal) (n : ℕ) → Err why ≡ Ok n → A
not_good why n e = let z : ◌≡◌ {A = ℕ} 0 1 = cc in absurd (omega arith)

-- ---- what is so where no row refuses
solid-good : (sort : Sort) (m n : ℕ) → solid_of sort m ≡ Ok n → (n ≡ m) × (sort ≡ Logical)
solid-good Neither m n e = not_good (Solid m) n e
solid-good Arithmetic m n e = not_good (Solid m) n e
solid-good Logical m n e = (cc, refl)

pub sorted-good : (rs : List Record) (n : ℕ) → check_records rs ≡ Ok n → (n ≡ length rs) × (first_unmet [] rs ≡ length rs) × (last_sort rs ≡ Logical)
unfolding check_records
sorted-good rs n e =
    by-test (ltb (first_unmet [] rs) (length rs))
    (λ t. not_good (Operand (first_unmet [] rs)) n (rw t at e))
    (λ t.
    let last = solid-good (last_sort rs) (length rs) n (rw t at e) in
    (last.0, omega (arith, ltb-false (first_unmet [] rs) (length rs) t, unmet-most [] rs), last.1))

pub check-parts : (s : List ℕ) (n : ℕ) → check_of s ≡ Ok n → (length_fails s ≡ false) × (is_version (get_or s 2 0) ≡ true) × (length s ≤ stop_of s) × (check_records (records_of s) ≡ Ok n)
unfolding check_of
check-parts s n e =
    by-test (length_fails s)
    (λ t. not_good Length n (rw t at e))
    (λ t. by-test (is_version (get_or s 2 0))
    (λ u. by-test (ltb (stop_of s) (length s))
    (λ v. not_good (BadRecord (stop_of s)) n (rw (t, u, v) at e))
    (λ v. (t, u, ltb-false (stop_of s) (length s) v, rw (t, u, v) at e)))
    (λ u. not_good Version n (rw (t, u) at e)))

some : (rs : List Record) → last_sort rs ≡ Logical → 0 < length rs
unfolding last_sort
some [] e = let z : ◌≡◌ {A = ℕ} 0 1 = cc in absurd (omega arith)
some (r ∷ rs) e = omega arith

-- ---- at most 256 records
on_read_lem : (k : Result (Record × Cursor) ℕ) (left : ℕ) (s : List ℕ) → ((at : ℕ) → length (read_from left s at).records ≤ left) → length (on_read k (λ next. read_from left s next.at)).records ≤ suc left
on_read_lem (Ok (r, next)) left s h = omega (arith, h next.at)
on_read_lem (Err at) left s h = omega arith

few-from : (left : ℕ) (s : List ℕ) (at : ℕ) → length (read_from left s at).records ≤ left
unfolding read_from
few-from zero s at = omega arith
few-from (suc left) s at = on_read_lem (read_at s (record { at = at; left = suc left })) left s (few-from left s)

pub records-few : (s : List ℕ) → length (records_of s) ≤ 256
unfolding reading
records-few s = few-from 256 s 3

-- so that each has a number below 256
pub number-few : (s : List ℕ) (count n : ℕ) → count ≡ length (records_of s) → n < count → n < 256
number-few s count n e h = omega (arith, records-few s)

-- r is what `check` returned
module _ (s : List ℕ) (r : Reply) (e : r ≡ check_of s) (n : ℕ) (d : r ≡ Ok n) where
  sorted : (n ≡ length (records_of s)) × (first_unmet [] (records_of s) ≡ length (records_of s)) × (last_sort (records_of s) ≡ Logical)
  sorted = sorted-good (records_of s) n (check-parts s n (sym e ∙ d)).3

  pub good-count : n ≡ length (records_of s)
  good-count = sorted.0

  pub good-some : 0 < n
  good-some = omega (arith, good-count, some (records_of s) sorted.2)

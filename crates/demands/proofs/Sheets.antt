-- What zone_check returns for a sheet: code 0 exactly if rows 1 to 5 accept it, and otherwise the reply of the first of them that does not.
use Rattle.std.specs.Prelude.{Err, Ok}
use mathlib.Core.Path.{◌≡◌, refl, ◌∙◌}
use mathlib.Core.Bool.{true, false}
use mathlib.Core.Logic.{◌⊎◌, inl, inr, ⊎_elim}
use mathlib.Core.List.{List, []}
use Prim.Native.Nat.{ℕ, ◌+◌, ◌≤◌}
use native.Mathlib.Omega.{arith}
use borrow.Author.Tests.{eqb-true, eq-eqb, ltb-false, lt-ltb, le-ltb}
use lib.Dec.{eqb, ltb}
use lib.ListN.{length}
use Rattle.bigendian.specs.Numbers.{unsigned_at}
use Rattle.integers.proofs.Order.{by-test}
use Rattle.replies.specs.declared.Refusal.TheVariants.{Solid}
use Rattle.sheet.specs.declared.Record.{Record}
use Rattle.sheet.specs.declared.Sort.{Sort}
use Rattle.sheet.specs.declared.Sort.TheVariants.{Neither, Arithmetic, Logical}
use Rattle.sheet.specs.Records.{records_of, stop_of}
use Rattle.sheet.specs.Operands.{first_unmet, last_sort}
use Rattle.sheet.specs.Check.{length_fails, is_version, solid_of, check_records, check_of}
use Rattle.sheet.proofs.Unmet.{none-unmet, all-operands}
use Rattle.sheet.proofs.Good.{sorted-good, check-parts}
use Rattle.zone.specs.Replies.{zone_check_of}
use Rattle.zone.proofs.ByNumber.{done-code}
use Rattle.demands.specs.Terms.{DoneWhere, KnownVersion, GoodSheet}
use Rattle.demands.specs.Table.{SheetRows}

-- ---- the length
module _ (s : List ℕ) where
  length-told : length_fails s ≡ false → (3 ≤ length s) × (unsigned_at 2 s 0 + 2 ≡ length s)
  length-told e =
      by-test (ltb (length s) 3)
      (λ t. let z : true ≡ false = rw t at e in let y : ◌≡◌ {A = ℕ} 0 1 = cc in absurd (omega arith))
      (λ t. (
        ltb-false (length s) 3 t,
        by-test (eqb (unsigned_at 2 s 0 + 2) (length s)) (λ u. eqb-true _ _ u)
            (λ u. let z : true ≡ false = rw (t, u) at e in let y : ◌≡◌ {A = ℕ} 0 1 = cc in absurd (omega arith)),
      ))

  length-good : 3 ≤ length s → unsigned_at 2 s 0 + 2 ≡ length s → length_fails s ≡ false
  length-good h e = rw (le-ltb (length s) 3 h, eq-eqb _ _ e)

-- ---- the version
version-told : (version : ℕ) → is_version version ≡ true → (version ≡ 1) ⊎ (version ≡ 2)
unfolding is_version
version-told version e = by-test (eqb version 1) (λ t. inl (eqb-true _ _ t)) (λ t. inr (eqb-true _ _ (rw t at e)))

pub version-known : (version : ℕ) → (version ≡ 1) ⊎ (version ≡ 2) → is_version version ≡ true
unfolding is_version
version-known version k = ⊎_elim (λ (e : version ≡ 1). rw e) (λ (e : version ≡ 2). rw e) k

version-other : (version : ℕ) → ((version ≡ 1) ⊎ (version ≡ 2) → ⊥) → is_version version ≡ false
version-other version n = by-test (is_version version) (λ t. absurd (n (version-told version t))) (λ t. t)

-- ---- the records
solid-refused : (sort : Sort) (m : ℕ) → (sort ≡ Logical → ⊥) → solid_of sort m ≡ Err (Solid m)
solid-refused Neither m h = refl
solid-refused Arithmetic m h = refl
solid-refused Logical m h = absurd (h refl)

-- ---- the whole sheet
module _ (s : List ℕ) where
  abbrev rs : List Record
  rs = records_of s

  pub check-good : (n : ℕ) → check_of s ≡ Ok n → GoodSheet s
  check-good n e =
      let t = check-parts s n e in
      let l = length-told s t.0 in
      let o = sorted-good rs n t.3 in
      record { long = l.0; agrees = l.1; version = version-told _ t.1; framed = t.2; operands = none-unmet rs o.1; solid = o.2 }

  module _ (agrees : length_fails s ≡ false) (version : KnownVersion s) (framed : length s ≤ stop_of s) where
    on-records : check_of s ≡ check_records rs
    unfolding check_of
    on-records = rw (agrees, version-known _ version, le-ltb (stop_of s) (length s) framed)

    met-records : first_unmet [] rs ≡ length rs → check_of s ≡ solid_of (last_sort rs) (length rs)
    unfolding check_records
    met-records e = on-records ∙ rw (e, le-ltb (length rs) (length rs) (omega arith))

  pub good-check : GoodSheet s → check_of s ≡ Ok (length rs)
  good-check g = met-records (length-good s g.long g.agrees) g.version g.framed (all-operands rs g.operands) ∙ rw g.solid

  pub checks : DoneWhere (GoodSheet s) (zone_check_of s) (length rs)
  unfolding zone_check_of
  checks = record {
    done = λ g. rw (good-check g);
    only = λ e. check-good _ (done-code (check_of s) e);
  }

  pub sheet-rows : SheetRows s
  unfolding zone_check_of check_of check_records
  sheet-rows = record {
    row-1 = λ fails. rw fails;
    row-2 = λ agrees other. rw (agrees, version-other _ other);
    row-3 = λ agrees version bad. rw (agrees, version-known _ version, lt-ltb _ _ bad);
    row-4 = λ agrees version framed unmet. rw (on-records agrees version framed, lt-ltb _ _ unmet);
    row-5 = λ agrees version framed met last. rw (met-records agrees version framed met, solid-refused (last_sort rs) (length rs) last);
  }

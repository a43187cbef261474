-- What zone_build returns: code 0 exactly if no row of the table refuses, and if one does the lent buffer is unchanged.
use Rattle.std.specs.Prelude.{Err, Ok}
use mathlib.Core.Path.{◌≡◌, refl, sym, ap}
use mathlib.Core.List.{List, [], ◌∷◌}
use Prim.Native.Nat.{ℕ}
use native.Mathlib.Omega.{arith}
use borrow.Author.Tests.{le-ltb, lt-ltb}
use lib.Dec.{ltb}
use lib.ListN.{length}
use Rattle.integers.proofs.First.{each_first}
use Rattle.integers.proofs.Order.{by-test}
use Rattle.interval.proofs.Limit.{small-test, large-test}
use Rattle.interval.proofs.Facts.{low-past, high-past}
use Rattle.replies.specs.declared.End.TheVariants.{Low, High}
use Rattle.replies.specs.declared.Over.{Over}
use Rattle.replies.specs.declared.Refusal.{Refusal}
use Rattle.replies.specs.declared.Refusal.TheVariants.{OverRoot}
use Rattle.replies.specs.Table.{Reply}
use Rattle.replies.specs.Table.{over, over_number, refusal_of}
use Rattle.replies.proofs.Told.{not-refused}
use Rattle.sheet.specs.declared.Record.{Record}
use Rattle.sheet.specs.Records.{records_of}
use Rattle.sheet.specs.Check.{check_of}
use Rattle.cube.specs.declared.Root.{Root}
use Rattle.cube.specs.declared.Cube.{Cube}
use Rattle.cube.specs.Limits.{in_limits}
use Rattle.cube.specs.Cubes.{root_cube}
use Rattle.cube.proofs.Numbers.{within-limits, limits-within, out-of-limits}
use Rattle.colour.specs.Entries.{first_past}
use Rattle.colour.proofs.FirstPast.{past-at}
use Rattle.colour.proofs.Smaller.{none-keep, keep-none}
use Rattle.building.specs.Build.{Outcome, outcome, built_map, stored_of, over_root_with, build_with}
use Rattle.building.proofs.Answers.{Made, done-made}
use Rattle.zone.specs.declared.ZoneReply.{ZoneReply}
use Rattle.zone.specs.Replies.{reply, by_number, zone_check_of, ZoneOutcome, zone_outcome, zone_build_of}
use Rattle.zone.proofs.ByNumber.{done-code}
use Rattle.demands.specs.Terms.{ExactlyOne, DoneWhere, GoodSheet, bounds_over, CanBuild}
use Rattle.demands.specs.Table.{Row7, BuildRows}
use Rattle.demands.proofs.Sheets.{check-good, good-check}

-- ---- an equation accepts exactly one outcome
pub one-reply : (told : ZoneReply) → ExactlyOne (λ (r : ZoneReply). r ≡ told)
one-reply told = record { one = told; fits = refl; no_second = λ r e. e }

pub one-outcome : (told : ZoneOutcome) → ExactlyOne (λ (o : ZoneReply × List ℕ). zone_outcome o.0 o.1 ≡ told)
one-outcome told = record {
  one = (told.reply, told.buffer);
  fits = refl;
  no_second = λ o e i. ((e i).reply, (e i).buffer);
}

-- ---- row 7, of a reply that has the number of the first record past the limit over the root
pub row-7 : (rs : List Record) (q : Cube) (r : ZoneReply) → ((o : Over) → first_past rs q ≡ o ∷ [] → r ≡ reply 7 (over_number o)) → Row7 rs q r
row-7 rs q r told = record {
  low = λ n keep past. told (over n Low) (past-at rs q n Low keep (low-past (bounds_over rs q n) (large-test _ past)));
  high = λ n keep small past. told (over n High) (past-at rs q n High keep (high-past (bounds_over rs q n) (small-test _ small) (large-test _ past)));
}

-- ---- if the code is not 0, the buffer is unchanged
module _ (before : List ℕ) where
  abbrev pub Kept : Outcome → Type 0
  Kept o = ((by_number o.reply).code ≡ 0 → ⊥) → o.buffer ≡ before

  stored-kept : (map : List ℕ) → Kept (stored_of map before)
  unfolding stored_of
  stored-kept map refused =
      by-test (ltb (length before) (length map))
      (λ t. rw t)
      (λ t. absurd (rw t at refused refl))

  pub solid-kept : (map_over : List Record → Root → List ℕ) (rs : List Record) (root : Root) → Kept (over_root_with map_over rs root before)
  unfolding over_root_with
  solid-kept map_over rs root =
      by-test (in_limits root)
      (λ t. rw t
      (each_first Kept (λ o. outcome (Err (OverRoot o)) before) _ (first_past rs (root_cube root)) (λ o _. refl)
      (stored-kept (map_over rs root))))
      (λ t. rw t (λ _. refl))

  pub unchanged : (sheet : List ℕ) (root : Root) → ((zone_build_of sheet root before).reply.code ≡ 0 → ⊥) → (zone_build_of sheet root before).buffer ≡ before
  unfolding zone_build_of build_with
  unchanged sheet root = each_first Kept (λ why. outcome (Err why) before) _ (refusal_of (check_of sheet)) (λ why _. refl) (solid-kept built_map (records_of sheet) root)

-- ---- a sheet that is refused
pub refused_why : (r : Reply) → ((by_number r).code ≡ 0 → ⊥) → (why : Refusal) × (r ≡ Err why)
refused_why (Ok n) h = absurd (h refl)
refused_why (Err why) h = (why, refl)

pub build-refused : (sheet : List ℕ) → ((zone_check_of sheet).code ≡ 0 → ⊥) → (root : Root) (before : List ℕ) → zone_build_of sheet root before ≡ zone_outcome (zone_check_of sheet) before
unfolding zone_build_of build_with zone_check_of
build-refused sheet h root before = rw (refused_why (check_of sheet) h).1

-- ---- code 0 exactly if no row refuses
-- code 0: the sheet is good, and its map is at the start of the buffer, whatever rule gives the map
module _ (map_over : List Record → Root → List ℕ) (sheet : List ℕ) (root : Root) (before : List ℕ) where
  abbrev done : Outcome
  done = build_with map_over sheet root before

  pub made : (by_number done.reply).code ≡ 0
      → ((n : ℕ) × (check_of sheet ≡ Ok n)) × Made (by_number done.reply).number before done.buffer (records_of sheet) root (map_over (records_of sheet) root)
  made e =
      let t = done-made map_over sheet root before done.buffer (by_number done.reply).number (ap (λ (r : Reply). outcome r done.buffer) (sym (done-code done.reply e))) in
      (not-refused (check_of sheet) t.0, t.1)

module _ (sheet : List ℕ) (root : Root) (before : List ℕ) where
  abbrev rs : List Record
  rs = records_of sheet

  pub builds : DoneWhere (CanBuild sheet root before) (zone_build_of sheet root before).reply (length (built_map rs root))
  unfolding zone_build_of build_with over_root_with stored_of
  builds = record {
    done = λ f. rw (good-check sheet f.good, limits-within root f.limits, keep-none rs (root_cube root) f.bounded, le-ltb (length before) (length (built_map rs root)) f.room);
    only = λ e.
        let t = made built_map sheet root before e in
        let m = t.1 in
        record {
          good = check-good sheet t.0.0 t.0.1;
          limits = within-limits root m.within;
          bounded = none-keep rs (root_cube root) m.none;
          room = omega (arith, m.size, m.room);
        };
  }

  pub build-rows : (good : GoodSheet sheet) → BuildRows sheet good root before
  unfolding zone_build_of build_with over_root_with stored_of
  build-rows good = record {
    row-6 = λ out. rw (good-check sheet good, out-of-limits root out);
    row-7 = λ within. row-7 rs (root_cube root) _ (λ o past. rw (good-check sheet good, limits-within root within, past));
    row-8 = λ within bounded short. rw (good-check sheet good, limits-within root within, keep-none rs (root_cube root) bounded, lt-ltb _ _ short);
  }

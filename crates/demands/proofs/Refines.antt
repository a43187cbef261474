-- What zone_refine returns: code 0 exactly if no row of the table refuses, and if one does the lent buffer is unchanged.
use Rattle.std.specs.Prelude.{Err}
use mathlib.Core.Path.{◌≡◌, refl, sym, ap}
use mathlib.Core.List.{List, []}
use Prim.Native.Nat.{ℕ, ◌≤◌}
use native.Mathlib.Omega.{arith}
use borrow.Author.Tests.{lt-ltb, le-ltb}
use lib.Dec.{ltb}
use lib.ListN.{length}
use Rattle.integers.proofs.First.{each_first}
use Rattle.integers.proofs.Order.{by-test}
use Rattle.replies.specs.Table.{Reply}
use Rattle.replies.proofs.Told.{not-refused}
use Rattle.sheet.specs.declared.Record.{Record}
use Rattle.sheet.specs.Records.{records_of}
use Rattle.sheet.specs.Check.{check_of}
use Rattle.records.specs.Faces.{has_face}
use Rattle.cube.specs.declared.Root.{Root}
use Rattle.cube.specs.Limits.{at_depth}
use Rattle.cube.specs.Cubes.{root_cube}
use Rattle.cube.proofs.Numbers.{within-limits, limits-within, out-of-limits}
use Rattle.colour.proofs.Smaller.{none-keep, keep-none}
use Rattle.zonemap.specs.Opening.{root_of}
use Rattle.tree.specs.Solid.{solid_state}
use Rattle.replacing.specs.Replace.{refined_map}
use Rattle.building.specs.Build.{Outcome, outcome, stored_of, over_root_with}
use Rattle.building.proofs.Answers.{Made}
use Rattle.pair.specs.Pairs.{pair_refusal}
use Rattle.pair.proofs.Openings.{pair-good, pair-opens}
use Rattle.refine.specs.Refine.{refine_of}
use Rattle.refine.proofs.Answers.{done-refined}
use Rattle.zone.specs.Replies.{by_number, zone_check_of, zone_outcome, zone_refine_of}
use Rattle.zone.proofs.ByNumber.{done-code}
use Rattle.demands.specs.Terms.{DoneWhere, GoodSheet, refined_of, CanRefine}
use Rattle.demands.specs.Table.{RefineRows}
use Rattle.demands.proofs.Sheets.{check-good, good-check}
use Rattle.demands.proofs.Opening.{opens-told, opens-fault}
use Rattle.demands.proofs.Outcomes.{Kept, solid-kept, refused_why, row-7}

-- ---- if the code is not 0, the buffer is unchanged
pub refine-unchanged : (sheet map : List ℕ) (d : ℕ) (before : List ℕ) → ((zone_refine_of sheet map d before).reply.code ≡ 0 → ⊥) → (zone_refine_of sheet map d before).buffer ≡ before
unfolding zone_refine_of refine_of
refine-unchanged sheet map d before =
    each_first (Kept before) (λ why. outcome (Err why) before) _ (pair_refusal sheet map) (λ why _. refl)
    (by-test (ltb d (root_of map).d) (λ t. rw t (λ _. refl)) (λ t. rw t (solid-kept before (λ rs. refined_map (solid_state rs) map) (records_of sheet) (at_depth d (root_of map)))))

-- ---- a sheet that is refused
pub refine-refused : (sheet : List ℕ) → ((zone_check_of sheet).code ≡ 0 → ⊥) → (map : List ℕ) (d : ℕ) (before : List ℕ) → zone_refine_of sheet map d before ≡ zone_outcome (zone_check_of sheet) before
unfolding zone_refine_of refine_of pair_refusal zone_check_of
refine-refused sheet h map d before = rw (refused_why (check_of sheet) h).1

-- ---- code 0 exactly if no row refuses
module _ (sheet map : List ℕ) (d : ℕ) (before : List ℕ) where
  abbrev rs : List Record
  rs = records_of sheet

  abbrev root : Root
  root = at_depth d (root_of map)

  abbrev done : Outcome
  done = refine_of sheet map d before

  -- code 0: the pair opens, and the new map is at the start of the buffer
  pub made : (by_number done.reply).code ≡ 0 → (pair_refusal sheet map ≡ []) × ((root_of map).d ≤ d) × Made (by_number done.reply).number before done.buffer rs root (refined_of sheet map d)
  made e = done-refined sheet map d before (by_number done.reply).number done.buffer (ap (λ (r : Reply). outcome r done.buffer) (sym (done-code done.reply e)))

  -- the root as a cube is that of the old depth
  same-cube : root_cube root ≡ root_cube (root_of map)
  unfolding root_cube
  same-cube = refl

  pub refines : DoneWhere (CanRefine sheet map d before) (zone_refine_of sheet map d before).reply (length (refined_of sheet map d))
  unfolding zone_refine_of refine_of pair_refusal over_root_with stored_of
  refines = record {
    done = λ f.
        rw (
          good-check sheet f.good,
          opens-fault (has_face rs) map f.opens,
          le-ltb d (root_of map).d f.depth,
          limits-within root f.limits,
          same-cube,
          keep-none rs (root_cube (root_of map)) f.bounded,
          le-ltb (length before) (length (refined_of sheet map d)) f.room,
        );
    only = λ e.
        let t = made e in
        let m = t.2 in
        let good = not-refused (check_of sheet) (pair-good sheet map t.0) in
        record {
          good = check-good sheet good.0 good.1;
          opens = opens-told (has_face rs) map (pair-opens sheet map t.0);
          depth = t.1;
          limits = within-limits root m.within;
          bounded = none-keep rs (root_cube (root_of map)) (rw same-cube at m.none);
          room = omega (arith, m.size, m.room);
        };
  }

  pub refine-rows : (good : GoodSheet sheet) → RefineRows sheet good map d before
  unfolding zone_refine_of refine_of pair_refusal over_root_with stored_of
  refine-rows good = record {
    row-9 = λ at fault. rw (good-check sheet good, fault);
    smaller = λ opens less. rw (good-check sheet good, opens-fault (has_face rs) map opens, lt-ltb d (root_of map).d less);
    illegal = λ opens out.
        rw (good-check sheet good, opens-fault (has_face rs) map opens)
        (by-test (ltb d (root_of map).d) (λ t. rw t) (λ t. rw (t, out-of-limits root out)));
    row-7 = λ opens more within. row-7 rs (root_cube (root_of map)) _
        (λ o past. rw (good-check sheet good, opens-fault (has_face rs) map opens, le-ltb d (root_of map).d more, limits-within root within, same-cube, past));
    row-8 = λ opens more within bounded short.
        rw (good-check sheet good, opens-fault (has_face rs) map opens, le-ltb d (root_of map).d more, limits-within root within, same-cube, keep-none rs (root_cube (root_of map)) bounded, lt-ltb _ _ short);
  }

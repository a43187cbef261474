-- Request 2026-11: where row 7 does not refuse, row 11 would not either, so dropping it changed no outcome; and no call returns 11.
use Rattle.std.specs.Prelude.{Err, Ok}
use mathlib.Core.Path.{◌≡◌, refl}
use mathlib.Core.List.{List, [], ◌∷◌, ◌++◌}
use Prim.Native.Nat.{ℕ, zero, suc, ◌+◌, ◌^◌}
use native.Mathlib.Omega.{arith}
use borrow.Author.Tests.{eqb-true, eqb-false}
use lib.Dec.{eqb}
use lib.IntN.{pos}
use Rattle.integers.specs.Least.{lesser_of, greater_of}
use Rattle.integers.proofs.Order.{by-test}
use Rattle.interval.specs.Rules.{sum, difference, span, product, square}
use Rattle.interval.specs.Limit.{is_small, past_end}
use Rattle.replies.specs.declared.End.TheVariants.{Low, High}
use Rattle.replies.specs.Table.{Reply}
use Rattle.replies.specs.Table.{over}
use Rattle.replies.proofs.Told.{no_code}
use Rattle.sheet.specs.declared.Record.{Record}
use Rattle.sheet.specs.declared.Record.TheVariants.{Constant, Square, Product, Complement}
use Rattle.sheet.specs.Records.{records_of}
use Rattle.sheet.specs.Along.{along, onward}
use Rattle.sheet.specs.StepRoom.{step_records}
use Rattle.sheet.specs.Check.{check_of}
use Rattle.cube.specs.declared.Root.{Root}
use Rattle.cube.specs.declared.Cube.{Cube}
use Rattle.cube.specs.Limits.{in_limits}
use Rattle.cube.specs.Cubes.{root_cube, child_of}
use Rattle.colour.specs.Bounds.{across, bounds_of}
use Rattle.colour.specs.States.{is_same, meets, face_state, otherwise_of, joined_by, state_with}
use Rattle.colour.specs.Entries.{face_bounds, entry_with, entries, past_from, first_past}
use Rattle.colour.proofs.FirstPast.{past_cases}
use Rattle.colour.proofs.Smaller.{bounds-inside, keep-smaller}
use Rattle.zonemap.specs.Opening.{open_of}
use Rattle.zonemap.specs.StepRoom.{step_root}
use Rattle.tree.specs.Visit.{upto}
use Rattle.tree.specs.Solid.{solid_state, is_gray}
use Rattle.tree.proofs.Visits.{upto_nothing}
use Rattle.tree.proofs.Cubes.{child-none}
use Rattle.building.specs.Build.{over_root_with, build_with, build_of}
use Rattle.refine.specs.Refine.{refine_of}
use Rattle.lookup.specs.Lookup.{lookup_of, numbered}
use Rattle.zone.specs.Replies.{by_number, zone_check_of, zone_build_of, zone_refine_of, zone_open_of, zone_lookup_of}
use Rattle.zone.proofs.ByNumber.{done-code}
use Rattle.demands.specs.Terms.{Never}
use Rattle.demands.specs.Row11.{past_in_tree, build_with_row11}
use Rattle.demands.specs.Reply11.{Reply11}
use Rattle.demands.proofs.Outcomes.{build-refused}

-- ---- no cube below one that keeps the limit passes it
none-in-tree : (rs : List Record) (left : ℕ) (q : Cube) → first_past rs q ≡ [] → past_in_tree rs left q ≡ []
unfolding past_in_tree
none-in-tree rs zero q none = none
none-in-tree rs (suc left) q none =
    by-test (is_gray (solid_state rs) q)
    (λ t. rw (none, t, upto_nothing (λ k. past_in_tree rs left (child_of q k)) (λ k. none-in-tree rs left (child_of q k) (child-none rs q none k)) 8))
    (λ t. rw (none, t))

-- The old row is not always empty: for a root that passes the limit it lists each cube. c² x, where c is 2^29 + 1, passes it over the root of the step room and
-- over the children in the high half of x, with the high end, and c^4 passes it everywhere, with the low end too. The solid is the complement of the step room, so the root is gray.
past-rows : past_in_tree (step_records ++ Constant (pos (2 ^ 29 + 1)) ∷ Square 8 ∷ Product 9 0 ∷ Square 9 ∷ Complement 7 ∷ []) 1 (root_cube (step_root 1))
    ≡ over 10 High ∷ over 11 Low ∷ over 10 High ∷ over 11 Low ∷ over 10 High ∷ over 11 Low ∷ over 10 High ∷ over 11 Low ∷ over 10 High ∷ []
unfolding past_in_tree upto is_gray solid_state first_past past_from past_end is_small along onward entry_with face_bounds bounds_of state_with across sum difference span product square lesser_of greater_of meets face_state joined_by otherwise_of is_same root_cube child_of
past-rows = refl

-- ---- the same outcome
module _ (sheet : List ℕ) (root : Root) (before : List ℕ) where
  abbrev rs : List Record
  rs = records_of sheet

  pub same : zone_build_of sheet root before ≡ build_with_row11 sheet root before
  unfolding zone_build_of build_with over_root_with zone_check_of build_with_row11 first_past
  same =
      by-test (eqb (zone_check_of sheet).code 0)
      (λ good.
      rw (good, done-code (check_of sheet) (eqb-true _ 0 good))
      (by-test (in_limits root)
      (λ within.
      past_cases 0 (entries (root_cube root) rs)
      (λ none. rw (within, none, none-in-tree rs root.d (root_cube root) none))
      (λ o past. rw (within, past)))
      (λ out. rw out)))
      (λ bad. rw bad (build-refused sheet (eqb-false _ 0 bad) root before))

-- ---- the code
never-11 : (r : Reply) → Never 11 (by_number r)
never-11 (Ok n) e = omega arith
never-11 (Err why) e = no_code 11 refl why e

pub reply-11 : Reply11
unfolding zone_check_of zone_build_of zone_refine_of zone_open_of zone_lookup_of
reply-11 = record {
  inside = λ rs inner outer h. bounds-inside inner outer h rs;
  keeps = λ rs inner outer h. keep-smaller inner outer h rs;
  same = same;
  never = λ sheet map before root p. (never-11 (check_of sheet), never-11 (build_of sheet root before).reply, never-11 (open_of map), never-11 (numbered (lookup_of sheet map p)));
  refine-never = λ sheet map d before. never-11 (refine_of sheet map d before).reply;
}

-- Document 01's worked rows of looking up in the step room's map at depth 1, and the same with the version 2 sheet.
use Rattle.std.specs.Prelude.{Err, Ok}
use mathlib.Core.Path.{◌≡◌, refl}
use mathlib.Core.Bool.{true, cond, not}
use mathlib.Core.List.{List, []}
use Prim.Native.Nat.{ℕ}
use lib.IntN.{pos}
use Rattle.bigendian.specs.Numbers.{unsigned_at, signed32}
use Rattle.interval.specs.Rules.{difference}
use Rattle.interval.specs.Limit.{is_small, past_end}
use Rattle.replies.specs.declared.Refusal.TheVariants.{NotInRoot}
use Rattle.sheet.specs.declared.Comparison.{Comparison}
use Rattle.sheet.specs.declared.Comparison.TheVariants.{AtMost, LessThan}
use Rattle.sheet.specs.Table.{comparison_of}
use Rattle.sheet.specs.Check.{is_version}
use Rattle.sheet.specs.Along.{along, onward}
use Rattle.sheet.specs.StepRoom.{step_sheet_of, step_records_by, step_sheet, step_records, strict_sheet, strict_records}
use Rattle.sheet.proofs.StepRoom.{step-records, step-check}
use Rattle.records.specs.Faces.{has_face}
use Rattle.cube.specs.declared.Point.{Point}
use Rattle.cube.specs.Limits.{axis_fits, sizes_fit, in_limits}
use Rattle.cube.specs.Cubes.{root_cube}
use Rattle.cube.specs.Points.{axis_holds, holds_point, point_cube, place_by, place_of}
use Rattle.zonemap.specs.Opening.{length_good, root_of, leaf_in, leaves_in, level_good, face_good, place_good, leaf_good, leaves_fault, header_fault, fault_of, leaf_at}
use Rattle.zonemap.specs.StepRoom.{step_map, strict_map}
use Rattle.colour.specs.Bounds.{across, bounds_of}
use Rattle.colour.specs.States.{meets, face_state, otherwise_of, joined_by, state_with}
use Rattle.colour.specs.Entries.{face_bounds, entry_with, past_from, first_past}
use Rattle.pair.specs.Pairs.{pair_refusal}
use Rattle.lookup.specs.declared.Answer.TheVariants.{Outside, Inside, Undecided}
use Rattle.lookup.specs.Lookup.{face_holds, answer_of, leaf_holding, point_reply, lookup_of}

-- a point with z 0
abbrev at : ℕ → ℕ → Point
at x y = record { x = pos x; y = pos y; z = pos 0 }

-- no record passes the limit over the root, in either version
none : (by : Comparison) → first_past (step_records_by by) (root_cube (root_of step_map)) ≡ []
unfolding first_past past_from along onward entry_with face_bounds bounds_of across difference past_end is_small state_with root_cube root_of unsigned_at signed32
none by = refl

-- a sheet of either version with a map of that root that opens: a point is outside the root, or its leaf decides
module _ (version : ℕ) (known : is_version version ≡ true) (map : List ℕ) (root : root_of map ≡ root_of step_map) (opens : fault_of (has_face (step_records_by (comparison_of version))) map ≡ []) where
  step-lookup : (p : Point)
      → lookup_of (step_sheet_of version) map p ≡ cond (not (holds_point (root_cube (root_of map)) p)) (Err NotInRoot) (Ok (answer_of (step_records_by (comparison_of version)) (leaf_holding map p) p))
  unfolding lookup_of pair_refusal point_reply
  step-lookup p = rw (step-check version known, step-records version, opens, root, none (comparison_of version))

-- each map opens with the faces of each
step-opens : (by : Comparison) → fault_of (has_face (step_records_by by)) step_map ≡ []
unfolding fault_of header_fault length_good root_of leaves_fault leaf_good level_good face_good place_good leaves_in leaf_in unsigned_at signed32 in_limits sizes_fit axis_fits has_face
step-opens by = refl

strict-opens : (by : Comparison) → fault_of (has_face (step_records_by by)) strict_map ≡ []
unfolding fault_of header_fault length_good root_of leaves_fault leaf_good level_good face_good place_good leaves_in leaf_in unsigned_at signed32 in_limits sizes_fit axis_fits has_face
strict-opens by = refl

-- the leaf that holds (2,0,0) is terminal, and names face 5
pub by-face-5 : leaf_holding step_map (at 2 0) ≡ record { level = 1; class = 2; face = 5 }
unfolding leaf_holding root_of leaf_in leaves_in leaf_at place_of place_by unsigned_at signed32
by-face-5 = refl

-- S in its own map
in_step : (p : Point) → lookup_of step_sheet step_map p ≡ cond (not (holds_point (root_cube (root_of step_map)) p)) (Err NotInRoot) (Ok (answer_of step_records (leaf_holding step_map p) p))
unfolding is_version comparison_of
in_step = step-lookup 1 refl step_map refl (step-opens AtMost)

pub inside-2-0-0 : lookup_of step_sheet step_map (at 2 0) ≡ Ok Inside
unfolding root_of leaf_in leaves_in leaf_at place_of place_by unsigned_at signed32 leaf_holding root_cube holds_point axis_holds answer_of face_holds point_cube along onward entry_with face_bounds bounds_of across difference state_with meets face_state joined_by otherwise_of
inside-2-0-0 = in_step (at 2 0)

pub outside-3-0-0 : lookup_of step_sheet step_map (at 3 0) ≡ Ok Outside
unfolding root_of leaf_in leaves_in leaf_at place_of place_by unsigned_at signed32 leaf_holding root_cube holds_point axis_holds answer_of face_holds point_cube along onward entry_with face_bounds bounds_of across difference state_with meets face_state joined_by otherwise_of
outside-3-0-0 = in_step (at 3 0)

pub undecided-2-2-0 : lookup_of step_sheet step_map (at 2 2) ≡ Ok Undecided
unfolding root_of leaf_in leaves_in leaf_at place_of place_by unsigned_at signed32 leaf_holding root_cube holds_point axis_holds answer_of
undecided-2-2-0 = in_step (at 2 2)

-- on a high plane
pub not-in-root-4-0-0 : lookup_of step_sheet step_map (at 4 0) ≡ Err NotInRoot
unfolding root_of unsigned_at signed32 root_cube holds_point axis_holds
not-in-root-4-0-0 = in_step (at 4 0)

-- ---- the version 2 sheet with equal records
in-strict : (map : List ℕ) → root_of map ≡ root_of step_map → fault_of (has_face strict_records) map ≡ [] → (p : Point)
    → lookup_of strict_sheet map p ≡ cond (not (holds_point (root_cube (root_of map)) p)) (Err NotInRoot) (Ok (answer_of strict_records (leaf_holding map p) p))
unfolding is_version comparison_of
in-strict = step-lookup 2 refl

-- in its own map, on one face and on both
pub strict-2-0-0 : lookup_of strict_sheet strict_map (at 2 0) ≡ Ok Outside
unfolding root_of leaf_in leaves_in leaf_at place_of place_by unsigned_at signed32 leaf_holding root_cube holds_point axis_holds answer_of
strict-2-0-0 = in-strict strict_map refl (strict-opens LessThan) (at 2 0)

pub strict-2-2-0 : lookup_of strict_sheet strict_map (at 2 2) ≡ Ok Outside
unfolding root_of leaf_in leaves_in leaf_at place_of place_by unsigned_at signed32 leaf_holding root_cube holds_point axis_holds answer_of
strict-2-2-0 = in-strict strict_map refl (strict-opens LessThan) (at 2 2)

-- in S's map, where the leaf names face 5: the answer is that of the sheet which was lent
pub strict-by-face-5 : lookup_of strict_sheet step_map (at 2 0) ≡ Ok Outside
unfolding root_of leaf_in leaves_in leaf_at place_of place_by unsigned_at signed32 leaf_holding root_cube holds_point axis_holds answer_of face_holds point_cube along onward entry_with face_bounds bounds_of across difference state_with meets face_state joined_by otherwise_of
strict-by-face-5 = in-strict step_map refl (step-opens LessThan) (at 2 0)

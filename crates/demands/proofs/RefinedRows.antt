-- The rows of request 2026-01 hold; and a map built before request 2026-03 that refining does not make equal to the one built afresh.
use Rattle.std.specs.Prelude.{Ok}
use mathlib.Core.Path.{◌≡◌, refl, sym, ap, ap₂, ◌∙◌}
use mathlib.Core.Bool.{true, false}
use mathlib.Core.List.{List, [], ◌∷◌, ◌++◌}
use Prim.Native.Nat.{ℕ, ◌+◌, ◌*◌, ◌^◌, ◌≤◌, ◌<◌}
use native.Mathlib.Omega.{arith}
use borrow.Author.Tests.{lt-ltb}
use lib.IntN.{pos}
use lib.ListN.{length, drop, take}
use lib.Seq.{take-append_seam}
use Rattle.bigendian.specs.Numbers.{unsigned_at, signed32}
use Rattle.interval.specs.Rules.{difference}
use Rattle.interval.specs.Limit.{is_small, past_end}
use Rattle.replies.specs.Table.{refusal_of}
use Rattle.sheet.specs.declared.Comparison.TheVariants.{AtMost}
use Rattle.sheet.specs.declared.Record.{Record}
use Rattle.sheet.specs.declared.Record.TheVariants.{Constant, X, Difference, Face, Both}
use Rattle.sheet.specs.Table.{comparison_of, row_of, row_at, read_at}
use Rattle.sheet.specs.Records.{read_from, reading, records_of}
use Rattle.sheet.specs.Along.{along, onward}
use Rattle.sheet.specs.Operands.{first_unmet, last_sort}
use Rattle.sheet.specs.Check.{is_version, check_records, check_of}
use Rattle.sheet.specs.StepRoom.{step_sheet, step_records}
use Rattle.sheet.proofs.StepRoom.{step-records, step-check}
use Rattle.records.specs.Faces.{has_face}
use Rattle.cube.specs.declared.Root.{Root}
use Rattle.cube.specs.Limits.{axis_fits, sizes_fit, in_limits, at_depth}
use Rattle.cube.specs.Cubes.{root_cube, child_of, corner_of, low_at, cube_at}
use Rattle.colour.specs.Bounds.{across, bounds_of}
use Rattle.colour.specs.States.{is_same, meets, face_state, otherwise_of, joined_by, state_with}
use Rattle.colour.specs.Entries.{face_bounds, entry_with, past_from, first_past}
use Rattle.zonemap.specs.declared.Leaf.{Leaf}
use Rattle.zonemap.specs.Map.{map_of}
use Rattle.zonemap.specs.Opening.{root_of, level_good, face_good, place_good, leaf_good, leaves_fault}
use Rattle.zonemap.specs.Leaves.{place_at}
use Rattle.zonemap.specs.StepRoom.{step_root}
use Rattle.zonemap.proofs.Bytes.{map-length}
use Rattle.zonemap.proofs.Runs.{opens-run}
use Rattle.zonemap.proofs.Trip.{leaves-back, root-back, map-opens}
use Rattle.tree.specs.Visit.{upto, visit}
use Rattle.tree.specs.Solid.{solid_state, is_gray, leaf_of, leaves_below}
use Rattle.replacing.specs.Replace.{replaced, refined_map}
use Rattle.replacing.proofs.Grays.{grown, refined-grown}
use Rattle.building.specs.Build.{stored_of, over_root_with}
use Rattle.pair.specs.Pairs.{pair_refusal}
use Rattle.refine.specs.Refine.{refine_of}
use Rattle.refine.proofs.Answers.{opened-refines}
use Rattle.zone.specs.declared.ZoneReply.{ZoneReply}
use Rattle.zone.specs.Replies.{reply, ZoneOutcome, zone_outcome, outcome_by_number, zone_build_of, zone_refine_of}
use Rattle.demands.specs.Terms.{GoodSheet}
use Rattle.demands.specs.Rows.{AllHold, refined_rows}
use Rattle.demands.specs.Refining.{BuiltOtherwise}
use Rattle.demands.proofs.Sheets.{check-good}
use Rattle.demands.proofs.Rows.{stores}
use Rattle.demands.proofs.SameFace.{mentioned-twice}

-- ---- a map by its leaves, refined with a good sheet: what each leaf is replaced by, computed
module _ (sheet : List ℕ) (rs : List Record) (good : refusal_of (check_of sheet) ≡ []) (records : records_of sheet ≡ rs)
    (root : Root) (ls : List Leaf) (within : in_limits root ≡ true) (few : length ls ≤ 2 ^ 30) (fine : leaves_fault (has_face rs) root.d 0 19 ls ≡ []) where
  abbrev old : List ℕ
  old = map_of root ls

  root_is : root_of old ≡ root
  root_is = root-back root ls within

  opens : pair_refusal sheet old ≡ []
  unfolding pair_refusal
  opens = rw (good, records, map-opens (has_face rs) root ls within few (opens-run (has_face rs) root.d 0 19 ls fine))

  module _ (deep : ℕ) (new : List Leaf) (more : root.d ≤ deep) (inside : in_limits (at_depth deep root) ≡ true) (none : first_past rs (root_cube (at_depth deep root)) ≡ [])
      (are : grown (solid_state rs) deep root ls ≡ new) where
    refined : refined_map (solid_state rs) old (at_depth deep root) ≡ map_of (at_depth deep root) new
    unfolding refined_map
    refined = ap (map_of (at_depth deep root)) (refined-grown (solid_state rs) deep old ∙ ap₂ (grown (solid_state rs) deep) root_is (leaves-back root ls) ∙ are)

    stored : (out : List ℕ) → refine_of sheet old deep out ≡ stored_of (map_of (at_depth deep root) new) out
    unfolding over_root_with
    stored out = opened-refines sheet old deep out opens (rw root_is more) ∙ rw (root_is, records, inside, none, refined)

    pub gives : (out : List ℕ) → 19 + 3 * length new ≤ length out
        → zone_refine_of sheet old deep out ≡ zone_outcome (reply 0 (19 + 3 * length new)) (map_of (at_depth deep root) new ++ drop (19 + 3 * length new) out)
    unfolding zone_refine_of
    gives out room = stores (refine_of sheet old deep out) (map_of (at_depth deep root) new) out _ (stored out) (map-length (at_depth deep root) new) room

  -- a smaller depth, or one out of limits
  pub smaller : (deep : ℕ) → deep < root.d → (out : List ℕ) → zone_refine_of sheet old deep out ≡ zone_outcome (reply 6 0) out
  unfolding zone_refine_of refine_of
  smaller deep less out = rw (opens, root_is, lt-ltb deep root.d less)

  pub illegal : (deep : ℕ) → root.d ≤ deep → in_limits (at_depth deep root) ≡ false → (out : List ℕ) → zone_refine_of sheet old deep out ≡ zone_outcome (reply 6 0) out
  unfolding zone_refine_of over_root_with
  illegal deep more outside out = ap outcome_by_number (opened-refines sheet old deep out opens (rw root_is more)) ∙ rw (root_is, outside)

-- ---- the rows
abbrev leaf : ℕ → ℕ → ℕ → Leaf
leaf level class face = record { level = level; class = class; face = face }

good-step : refusal_of (check_of step_sheet) ≡ []
unfolding is_version
good-step = rw (step-check 1 refl)

records-step : records_of step_sheet ≡ step_records
unfolding comparison_of
records-step = step-records 1

-- the step room's sheet with a map over its root
abbrev step : (d : ℕ) (ls : List Leaf) → Type 0
step d ls = (leaves_fault (has_face step_records) d 0 19 ls ≡ []) × (in_limits (step_root d) ≡ true) × (length ls ≤ 2 ^ 30)

step_gives : (d : ℕ) (ls : List Leaf) → step d ls → (deep : ℕ) (new : List Leaf) → d ≤ deep → in_limits (step_root deep) ≡ true → first_past step_records (root_cube (step_root deep)) ≡ []
    → grown (solid_state step_records) deep (step_root d) ls ≡ new → (out : List ℕ) → 19 + 3 * length new ≤ length out
    → zone_refine_of step_sheet (map_of (step_root d) ls) deep out ≡ zone_outcome (reply 0 (19 + 3 * length new)) (map_of (step_root deep) new ++ drop (19 + 3 * length new) out)
step_gives d ls good deep new = gives step_sheet step_records good-step records-step (step_root d) ls good.1 good.2 good.0 deep new

pub refined-rows : AllHold refined_rows
unfolding AllHold leaves_fault leaf_good level_good face_good place_good has_face in_limits sizes_fit axis_fits first_past along onward entry_with bounds_of across difference root_cube past_from past_end is_small upto replaced place_at cube_at low_at corner_of leaves_below visit is_gray leaf_of solid_state face_bounds state_with meets face_state joined_by otherwise_of is_same child_of
refined-rows = (
  step_gives 1 _ (refl, refl, omega arith) 2 _ (omega arith) refl refl refl,
  (
    step_gives 1 _ (refl, refl, omega arith) 1 _ (omega arith) refl refl refl,
    (
      (smaller step_sheet step_records good-step records-step (step_root 1) _ refl (omega arith) refl 0 (omega arith), illegal step_sheet step_records good-step records-step (step_root 1) _ refl (omega arith) refl 3 (omega arith) refl),
      (
        step_gives 1 _ (refl, refl, omega arith) 1 _ (omega arith) refl refl refl,
        (
          (step_gives 0 _ (refl, refl, omega arith) 2 _ (omega arith) refl refl refl, step_gives 0 _ (refl, refl, omega arith) 2 _ (omega arith) refl refl refl, step_gives 0 _ (refl, refl, omega arith) 2 _ (omega arith) refl refl refl),
          tt,
        ),
      ),
    ),
  ),
)

-- ---- a map of the rule before request 2026-03
-- both of a face with itself
unfoldable twice_sheet : List ℕ
twice_sheet = 0 ∷ 20 ∷ 1 ∷ 1 ∷ 2 ∷ 5 ∷ 1 ∷ 0 ∷ 0 ∷ 0 ∷ 2 ∷ 3 ∷ 6 ∷ 0 ∷ 1 ∷ 2 ∷ 16 ∷ 2 ∷ 3 ∷ 17 ∷ 3 ∷ 3 ∷ []

abbrev twice_records : List Record
twice_records = X ∷ Constant (pos 2) ∷ Difference 0 1 ∷ Face AtMost 2 ∷ Both 3 3 ∷ []

twice-records : records_of twice_sheet ≡ twice_records
unfolding twice_sheet comparison_of reading read_from read_at row_at row_of signed32 unsigned_at
twice-records = refl

twice-check : check_of twice_sheet ≡ Ok 5
unfolding twice_sheet is_version check_of check_records first_unmet last_sort reading read_from read_at row_at row_of unsigned_at
twice-check = refl

twice-good : GoodSheet twice_sheet
twice-good = check-good twice_sheet 5 twice-check

-- what was built then, and what refining makes of it: each gray leaf is coloured again, and names the face
abbrev half : Leaf → List Leaf
half l = leaf 1 1 0 ∷ l ∷ leaf 1 1 0 ∷ l ∷ []

abbrev old_map : List ℕ
old_map = map_of (step_root 1) (half (leaf 1 4 0) ++ half (leaf 1 4 0))

old-size : length old_map ≡ 43
old-size = map-length (step_root 1) (half (leaf 1 4 0) ++ half (leaf 1 4 0))

old-root : root_of old_map ≡ step_root 1
unfolding in_limits sizes_fit axis_fits
old-root = root-back (step_root 1) (half (leaf 1 4 0) ++ half (leaf 1 4 0)) refl

refined-old : (out : List ℕ) → 43 ≤ length out → (zone_refine_of twice_sheet old_map 1 out).reply ≡ reply 0 43
unfolding leaves_fault leaf_good level_good face_good place_good has_face in_limits sizes_fit axis_fits first_past along onward entry_with bounds_of across difference root_cube past_from past_end is_small upto replaced place_at cube_at low_at corner_of leaves_below visit is_gray leaf_of solid_state face_bounds state_with meets face_state joined_by otherwise_of is_same child_of
refined-old out room =
    ap (λ (o : ZoneOutcome). o.reply)
    (gives twice_sheet twice_records (rw twice-check) twice-records (step_root 1) (half (leaf 1 4 0) ++ half (leaf 1 4 0)) refl (omega arith) refl 1 (half (leaf 1 2 3) ++ half (leaf 1 2 3)) (omega arith) refl refl refl out room)

pub only-today : BuiltOtherwise
unfolding AllHold
only-today = record {
  sheet = twice_sheet;
  map = old_map;
  built = record {
    root = step_root 1;
    before = old_map;
    after = old_map ++ drop 43 old_map;
    size = 43;
    returned = sym (mentioned-twice.1.0 twice_sheet old_map twice-good twice-records (omega (arith, old-size)));
    bytes = sym (ap (λ (n : ℕ). take n (old_map ++ drop 43 old_map)) (sym old-size) ∙ take-append_seam old_map (drop 43 old_map));
  };
  differs = λ before room e.
      let fresh = mentioned-twice.0 twice_sheet before twice-good twice-records (omega (arith, room, old-size)) in
      let refined = refined-old before (omega (arith, room, old-size)) in
      let same : zone_refine_of twice_sheet old_map 1 before ≡ zone_build_of twice_sheet (step_root 1) before = rw old-root at e in
      let z : ◌≡◌ {A = ℕ} 43 22 = ap (λ (r : ZoneReply). r.number) (sym refined) ∙ ap (λ (o : ZoneOutcome). o.reply.number) (same ∙ fresh) in
      omega arith;
}

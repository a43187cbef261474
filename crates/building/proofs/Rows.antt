-- Document 01's worked rows of building the step room's map, computed from the definitions.
use mathlib.Core.Path.{◌≡◌, refl, ap, ◌∙◌}
use mathlib.Core.Bool.{true}
use mathlib.Core.List.{List, [], ◌∷◌}
use Prim.Native.Nat.{ℕ}
use Rattle.bigendian.specs.Numbers.{bytes_of, unsigned32}
use Rattle.interval.specs.Rules.{sum, difference}
use Rattle.interval.specs.Limit.{is_small, past_end}
use Rattle.sheet.specs.declared.Comparison.{Comparison}
use Rattle.sheet.specs.declared.Record.{Record}
use Rattle.sheet.specs.Table.{comparison_of}
use Rattle.sheet.specs.Check.{is_version}
use Rattle.sheet.specs.Along.{along, onward}
use Rattle.sheet.specs.StepRoom.{step_sheet_of, step_records_by, step_records, strict_records}
use Rattle.sheet.proofs.StepRoom.{step-records, step-check}
use Rattle.cube.specs.Limits.{axis_fits, sizes_fit, in_limits}
use Rattle.cube.specs.Cubes.{root_cube}
use Rattle.colour.specs.Bounds.{across, bounds_of}
use Rattle.colour.specs.Entries.{entry_with, past_from, first_past}
use Rattle.zonemap.specs.declared.Leaf.{Leaf}
use Rattle.zonemap.specs.Map.{leaf_bytes, leaves_bytes, corner_bytes, header_of, map_of}
use Rattle.zonemap.specs.StepRoom.{step_root, step_map, strict_map}
use Rattle.tree.proofs.Rows.{leaf, depth-0, depth-1, strict-1}
use Rattle.building.specs.Build.{map_by, built_map, stored_of, over_root_with, build_with, build_of}

-- the map of S at d 1, byte by byte, and that of version 2
pub map-1 : built_map step_records (step_root 1) ≡ step_map
unfolding map_by map_of header_of corner_bytes bytes_of unsigned32 leaves_bytes leaf_bytes
map-1 = ap (map_of (step_root 1)) depth-1

pub strict-map-1 : built_map strict_records (step_root 1) ≡ strict_map
unfolding map_by map_of header_of corner_bytes bytes_of unsigned32 leaves_bytes leaf_bytes
strict-map-1 = ap (map_of (step_root 1)) strict-1

-- ---- what building returns
-- no record passes 2^60 over the root
step-none : (by : Comparison) (d : ℕ) → first_past (step_records_by by) (root_cube (step_root d)) ≡ []
unfolding first_past along onward entry_with bounds_of across sum difference root_cube past_from past_end is_small
step-none by d = refl

-- the depths in document 01
record Within : Type 0 where
  at-0 : in_limits (step_root 0) ≡ true
  at_1 : in_limits (step_root 1) ≡ true
  at-2 : in_limits (step_root 2) ≡ true

within : Within
unfolding in_limits sizes_fit axis_fits
within = record { at-0 = refl; at_1 = refl; at-2 = refl }

step-build : (version : ℕ) → is_version version ≡ true → (d : ℕ) → in_limits (step_root d) ≡ true → (out : List ℕ)
    → build_of (step_sheet_of version) (step_root d) out ≡ stored_of (built_map (step_records_by (comparison_of version)) (step_root d)) out
unfolding build_with over_root_with
step-build version known d within out = rw (step-check version known, step-records version, within, step-none (comparison_of version) d)

-- the depths in document 01, in either version
module _ (version : ℕ) (known : is_version version ≡ true) (out : List ℕ) where
  abbrev rs : List Record
  rs = step_records_by (comparison_of version)

  -- at d 0: 22 bytes
  pub build-0 : build_of (step_sheet_of version) (step_root 0) out ≡ stored_of (map_of (step_root 0) (leaf 0 4 0 ∷ [])) out
  unfolding map_by
  build-0 = step-build version known 0 within.at-0 out ∙ ap (λ (ls : List Leaf). stored_of (map_of (step_root 0) ls) out) (depth-0 (comparison_of version))

  -- at d 1 and 2
  pub build-1 : build_of (step_sheet_of version) (step_root 1) out ≡ stored_of (built_map rs (step_root 1)) out
  build-1 = step-build version known 1 within.at_1 out

  pub build-2 : build_of (step_sheet_of version) (step_root 2) out ≡ stored_of (built_map rs (step_root 2)) out
  build-2 = step-build version known 2 within.at-2 out

-- To build is to refine the map of one gray leaf, the root.
use Rattle.std.specs.Prelude.{Err}
use mathlib.Core.Path.{◌≡◌, ap}
use mathlib.Core.Bool.{true, cond, not}
use mathlib.Core.List.{List}
use Prim.Native.Nat.{ℕ}
use Rattle.replies.specs.declared.Refusal.TheVariants.{Limits, OverRoot}
use Rattle.sheet.specs.declared.Record.{Record}
use Rattle.cube.specs.declared.Root.{Root}
use Rattle.cube.specs.Limits.{in_limits, at_depth}
use Rattle.cube.specs.Cubes.{root_cube}
use Rattle.colour.specs.Entries.{first_past}
use Rattle.zonemap.specs.Map.{map_of}
use Rattle.tree.specs.Solid.{solid_state}
use Rattle.replacing.specs.Replace.{refined_map, gray_map}
use Rattle.replacing.proofs.Grays.{gray-refined}
use Rattle.building.specs.Build.{outcome, map_by, built_map, stored_of, over_root_with}
use Rattle.integers.specs.First.{on_first}

-- only the map itself matters
pub over-same : (f g : List Record → Root → List ℕ) (rs : List Record) (root : Root) (out : List ℕ) → f rs root ≡ g rs root → over_root_with f rs root out ≡ over_root_with g rs root out
unfolding over_root_with
over-same f g rs root out e =
    ap (λ (map : List ℕ). cond (not (in_limits root)) (outcome (Err Limits) out) (on_first (first_past rs (root_cube root)) (λ o. outcome (Err (OverRoot o)) out) (stored_of map out))) e

-- to build is to refine the map of one gray leaf
pub gray-builds : (root : Root) → in_limits (at_depth 0 root) ≡ true → (rs : List Record) → refined_map (solid_state rs) (gray_map root) root ≡ built_map rs root
unfolding refined_map map_by
gray-builds root within-top rs = ap (map_of root) (gray-refined root within-top (solid_state rs))

-- Refining (request 2026-01): "each gray leaf is replaced by what the building rules give for its cube at the new depth, all others stand as they were, levels
-- included".
use Rattle.std.specs.Prelude.{ℕ, ◌-◌, cond, List, [], ◌∷◌, eqb, length}
use Rattle.cube.specs.declared.Root.{Root}
use Rattle.cube.specs.declared.Cube.{Cube}
use Rattle.cube.specs.Limits.{at_depth}
use Rattle.colour.specs.declared.State.{State}
use Rattle.zonemap.specs.declared.Leaf.{Leaf}
use Rattle.zonemap.specs.Map.{map_of}
use Rattle.zonemap.specs.Opening.{leaves_of}
use Rattle.zonemap.specs.Leaves.{nth_leaf, nth_cube}
use Rattle.tree.specs.Visit.{upto}
use Rattle.tree.specs.Solid.{leaves_below}

-- given the state of each cube
module _ (over : Cube → State) where
  -- a leaf, its cube, and the levels left to the new depth: gray is class 4
  unfoldable pub replaced : ℕ → Cube → Leaf → List Leaf
  replaced left q l = cond (eqb l.class 4) (leaves_below over left q) (l ∷ [])

  -- leaf i of a map, at depth d
  abbrev pub replaced_at : ℕ → List ℕ → ℕ → List Leaf
  replaced_at d map i = replaced (d - (nth_leaf map i).level) (nth_cube map i) (nth_leaf map i)

  -- all leaves of a map, in their order
  unfoldable pub refined_leaves : ℕ → List ℕ → List Leaf
  refined_leaves d map = upto (replaced_at d map) (length (leaves_of map))

  -- the new map, over the same root at the new depth
  unfoldable pub refined_map : List ℕ → Root → List ℕ
  refined_map map root = map_of root (refined_leaves root.d map)

-- the map of one gray leaf, the root itself: to build is to refine this one
unfoldable pub gray_map : Root → List ℕ
gray_map root = map_of (at_depth 0 root) (record { level = 0; class = 4; face = 0 } ∷ [])

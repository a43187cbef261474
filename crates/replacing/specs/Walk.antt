-- A walk along the tree of a map. Only inner contracts cite this.
use Rattle.std.specs.Prelude.{ℕ, ◌+◌, ◌-◌, ◌*◌, ◌^◌, ◌≤◌, ◌≡◌, Bool, true, List, [], length}
use Rattle.cube.specs.declared.Root.{Root}
use Rattle.cube.specs.declared.Cube.{Cube}
use Rattle.cube.specs.Limits.{in_limits, at_depth}
use Rattle.cube.specs.Cubes.{cube_at}
use Rattle.colour.specs.declared.State.{State}
use Rattle.zonemap.specs.declared.Leaf.{Leaf}
use Rattle.zonemap.specs.Opening.{root_of, leaves_of, fault_of}
use Rattle.zonemap.specs.Leaves.{nth_leaf, nth_place}
use Rattle.tree.specs.Visit.{upto}
use Rattle.replacing.specs.Replace.{replaced_at}

-- a map that opens, and its own root at the same or a greater depth
pub record Deeper (map : List ℕ) (root : Root) : Type 0 where
  pub opens : (named : ℕ → Bool) × (fault_of named map ≡ [])
  pub same : root ≡ at_depth root.d (root_of map)
  pub depth : (root_of map).d ≤ root.d
  pub within : in_limits root ≡ true

-- leaf i begins a cube of the map's tree: it is at the cube's place, and is the cube itself or lies in it. The map has `below` levels below the cube.
pub record Begins (map : List ℕ) (q : Cube) (i : ℕ) : Type 0 where
  pub below : ℕ
  pub number : ℕ
  pub depth : q.level + below ≡ (root_of map).d
  pub place : nth_place map i ≡ number * 8 ^ below
  pub cube : q ≡ cube_at (root_of map) (number * 8 ^ below) q.level
  pub end : number * 8 ^ below + 8 ^ below ≤ 8 ^ (root_of map).d
  pub deep : q.level ≤ (nth_leaf map i).level

-- what leaves i to j - 1 are replaced by at depth d, given the state of each cube
abbrev pub between : (Cube → State) → ℕ → List ℕ → ℕ → ℕ → List Leaf
between over d map i j = upto (λ n. replaced_at over d map (i + n)) (j - i)

-- what the walk of a cube asks, for a new depth d: leaf i begins the cube
pub record Along (d : ℕ) (map : List ℕ) (q : Cube) (i : ℕ) : Type 0 where
  pub opens : (named : ℕ → Bool) × (fault_of named map ≡ [])
  pub depth : (root_of map).d ≤ d
  pub begins : Begins map q i

-- what it leaves: leaf j is the one after the cube
pub record Passed (map : List ℕ) (q : Cube) (i j : ℕ) : Type 0 where
  pub later : i ≤ j
  pub among : j ≤ length (leaves_of map)
  pub place : nth_place map j ≡ nth_place map i + 8 ^ ((root_of map).d - q.level)

-- The solid's state over a cube, and the leaves of a tree of cubes, given the state of each.
use Rattle.std.specs.Prelude.{ℕ, ◌-◌, Bool, List, [], ◌∷◌, eqb, length, get_or}
use Rattle.sheet.specs.declared.Record.{Record}
use Rattle.cube.specs.declared.Cube.{Cube}
use Rattle.colour.specs.declared.State.{State}
use Rattle.colour.specs.States.{class_of, face_of}
use Rattle.colour.specs.Entries.{blank, entries}
use Rattle.zonemap.specs.declared.Leaf.{Leaf}
use Rattle.tree.specs.Visit.{visit}

-- The last record is the solid. Its state over a cube:
unfoldable pub solid_state : List Record → Cube → State
solid_state rs q = (get_or (entries q rs) (length rs - 1) blank).state

-- level, class and face number
abbrev pub leaf_by : ℕ → State → Leaf
leaf_by level state = record { level = level; class = class_of state; face = face_of state }

-- ---- a tree of cubes, each of which has a state
module _ (over : Cube → State) where
  -- gray is class 4
  unfoldable pub is_gray : Cube → Bool
  is_gray q = eqb (class_of (over q)) 4

  unfoldable pub leaf_of : Cube → Leaf
  leaf_of q = leaf_by q.level (over q)

  -- the leaves below a cube with n levels left
  unfoldable pub leaves_below : ℕ → Cube → List Leaf
  leaves_below = visit is_gray (λ q. leaf_of q ∷ [])

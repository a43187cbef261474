-- Leaf i of a map, its place and its cube, and what it means that a leaf holds a place.
use Rattle.std.specs.Prelude.{ℕ, zero, suc, ◌+◌, ◌≤◌, ◌<◌, List, [], ◌∷◌, length, get_or}
use Rattle.cube.specs.declared.Cube.{Cube}
use Rattle.cube.specs.Cubes.{cube_at}
use Rattle.zonemap.specs.declared.Leaf.{Leaf}
use Rattle.zonemap.specs.Opening.{size_of, root_of, leaves_of}

-- the place of leaf i: the sum of 8^(d-level) over earlier leaves
unfoldable pub place_at : ℕ → ℕ → List Leaf → ℕ
place_at d zero ls = 0
place_at d (suc i) [] = 0
place_at d (suc i) (l ∷ ls) = size_of d l + place_at d i ls

-- the default for a missing leaf
abbrev pub nowhere : Leaf
nowhere = record { level = 0; class = 0; face = 0 }

-- ---- leaf i of a map, its place and its cube, as the map's own bytes give them
abbrev pub nth_leaf : List ℕ → ℕ → Leaf
nth_leaf map i = get_or (leaves_of map) i nowhere

abbrev pub nth_place : List ℕ → ℕ → ℕ
nth_place map i = place_at (root_of map).d i (leaves_of map)

abbrev pub nth_cube : List ℕ → ℕ → Cube
nth_cube map i = cube_at (root_of map) (nth_place map i) (nth_leaf map i).level

-- (Only laws cite this.) Leaf i holds place m, where the first leaf is at place p
pub record Holds (d m p i : ℕ) (ls : List Leaf) : Type 0 where
  pub among : i < length ls
  pub from : p + place_at d i ls ≤ m
  pub till : m < p + place_at d i ls + size_of d (get_or ls i nowhere)

-- Document 01's map of the step room, written and read.
use mathlib.Core.Path.{◌≡◌, refl}
use mathlib.Core.Bool.{Bool, ◌||◌}
use mathlib.Core.List.{List, [], ◌∷◌, ◌++◌}
use Prim.Native.Nat.{ℕ}
use lib.Dec.{eqb}
use Rattle.bigendian.specs.Numbers.{bytes_of, unsigned32, unsigned_at, signed32}
use Rattle.cube.specs.Limits.{axis_fits, sizes_fit, in_limits}
use Rattle.zonemap.specs.declared.Leaf.{Leaf}
use Rattle.zonemap.specs.StepRoom.{step_root, step_map}
use Rattle.zonemap.specs.Map.{leaf_bytes, leaves_bytes, corner_bytes, header_of, map_of}
use Rattle.zonemap.specs.Opening.{length_good, root_of, leaf_in, leaves_in, level_good, face_good, place_good, leaf_good, leaves_fault, header_fault, fault_of, leaf_at, offset_at}

-- a leaf of level 1
abbrev leaf : ℕ → ℕ → Leaf
leaf class face = record { level = 1; class = class; face = face }

-- four of the eight leaves
abbrev four : List Leaf
four = leaf 1 0 ∷ leaf 2 5 ∷ leaf 2 6 ∷ leaf 4 0 ∷ []

step_room : map_of (step_root 1) (four ++ four) ≡ step_map
unfolding map_of header_of corner_bytes leaves_bytes leaf_bytes bytes_of unsigned32
step_room = refl

-- ---- read
-- faces 5 and 6 may be named, or 6 alone
abbrev both : ℕ → Bool
both f = eqb f 5 || eqb f 6

abbrev six : ℕ → Bool
six f = eqb f 6

opens : fault_of both step_map ≡ []
unfolding fault_of header_fault length_good root_of leaves_fault leaf_good level_good face_good place_good leaves_in leaf_in unsigned_at signed32 in_limits sizes_fit axis_fits
opens = refl

-- the second leaf names face 5
not_named : fault_of six step_map ≡ 22 ∷ []
unfolding fault_of header_fault length_good root_of leaves_fault leaf_good level_good face_good place_good leaves_in leaf_in unsigned_at signed32 in_limits sizes_fit axis_fits
not_named = refl

-- four leaves stop short, at the map's length
short : fault_of both (map_of (step_root 1) four) ≡ 31 ∷ []
unfolding fault_of header_fault length_good root_of leaves_fault leaf_good level_good face_good place_good leaves_in leaf_in unsigned_at signed32 in_limits sizes_fit axis_fits map_of header_of corner_bytes leaves_bytes leaf_bytes bytes_of unsigned32
short = refl

-- the ninth of twelve leaves ends past the root
past : fault_of both (map_of (step_root 1) (four ++ four ++ four)) ≡ 43 ∷ []
unfolding fault_of header_fault length_good root_of leaves_fault leaf_good level_good face_good place_good leaves_in leaf_in unsigned_at signed32 in_limits sizes_fit axis_fits map_of header_of corner_bytes leaves_bytes leaf_bytes bytes_of unsigned32
past = refl

-- the second leaf holds place 1, which is that of the point (2,0,0)
second : offset_at step_map 1 ≡ 22
unfolding root_of leaf_at leaves_in leaf_in
second = refl

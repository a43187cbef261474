-- Places of points, worked out from the definitions.
use mathlib.Core.Path.{◌≡◌, refl}
use mathlib.Core.Bool.{true, false}
use Prim.Native.Nat.{ℕ}
use lib.IntN.{pos}
use Rattle.cube.specs.declared.Root.{Root}
use Rattle.cube.specs.declared.Point.{Point}
use Rattle.cube.specs.Cubes.{root_cube}
use Rattle.cube.specs.Points.{axis_holds, holds_point, place_by, place_of}

-- side 4, split once
abbrev root : Root
root = record { x = pos 0; y = pos 0; z = pos 0; k = 2; d = 1 }

abbrev at : ℕ → ℕ → ℕ → Point
at x y z = record { x = pos x; y = pos y; z = pos z }

-- x has weight 1, y 2 and z 4
row-x : place_of root (at 2 0 0) ≡ 1
unfolding place_by place_of
row-x = refl

row-xy : place_of root (at 2 2 0) ≡ 3
unfolding place_by place_of
row-xy = refl

row-xz : place_of root (at 3 1 2) ≡ 5
unfolding place_by place_of
row-xz = refl

-- the low planes belong to the root, the high planes do not
row_low : holds_point (root_cube root) (at 0 0 0) ≡ true
unfolding axis_holds holds_point root_cube
row_low = refl

row-high : holds_point (root_cube root) (at 0 4 0) ≡ false
unfolding axis_holds holds_point root_cube
row-high = refl

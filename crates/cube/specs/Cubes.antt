-- The cubes of a root: children, and the cube at a place.
use Rattle.std.specs.Prelude.{ℕ, zero, suc, ◌+◌, ◌-◌, ◌*◌, ◌/◌, ◌%◌, ◌^◌, ℤ, pos, ◌+ℤ◌}
use Rattle.cube.specs.declared.Root.{Root}
use Rattle.cube.specs.declared.Cube.{Cube}
use Rattle.cube.specs.declared.Axis.{Axis}
use Rattle.cube.specs.declared.Axis.TheVariants.{X, Y, Z}

-- the root as a cube: level 0, side 2^k
unfoldable pub root_cube : Root → Cube
root_cube r = record { x = r.x; y = r.y; z = r.z; side = 2 ^ r.k; level = 0 }

-- the number of an axis in the code
abbrev pub axis_number : Axis → ℕ
axis_number X = 0
axis_number Y = 1
axis_number Z = 2

-- Child number = x half + 2 (y half) + 4 (z half): the half of child k on axis 0 (x), 1 (y) or 2 (z), the low half being 0.
abbrev pub half : ℕ → ℕ → ℕ
half axis k = k / 2 ^ axis % 2

-- child k of a cube: half the side, one level down
unfoldable pub child_of : Cube → ℕ → Cube
child_of q k =
    let side = q.side / 2 in
    record {
      x = q.x +ℤ pos (half 0 k * side);
      y = q.y +ℤ pos (half 1 k * side);
      z = q.z +ℤ pos (half 2 k * side);
      side = side;
      level = q.level + 1;
    }

-- The place of a cube is the child numbers on the path from the root to it, as d digits of base 8. This is the low corner
-- of the cube at a place, along one axis, counted in smallest cubes.
unfoldable pub corner_of : ℕ → ℕ → ℕ → ℕ
corner_of axis zero place = 0
corner_of axis (suc d) place = 2 * corner_of axis d (place / 8) + half axis (place % 8)

-- the coordinate of that corner: a smallest cube has side 2^(k - d)
unfoldable pub low_at : Root → ℤ → ℕ → ℕ → ℤ
low_at r low axis place = low +ℤ pos (corner_of axis r.d place * 2 ^ (r.k - r.d))

-- the cube of a level at a place. A cube of level l has side 2^(k-l).
unfoldable pub cube_at : Root → ℕ → ℕ → Cube
cube_at r place level =
    record {
      x = low_at r r.x 0 place;
      y = low_at r r.y 1 place;
      z = low_at r r.z 2 place;
      side = 2 ^ (r.k - level);
      level = level;
    }

-- the cube of a level that a place lies in: the place is rounded down to a multiple of 8^(d-level)
unfoldable pub cube_around : Root → ℕ → ℕ → Cube
cube_around r place level = let size = 8 ^ (r.d - level) in cube_at r (place / size * size) level

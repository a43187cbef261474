-- The whole points of a root, and the place of each.
use Rattle.std.specs.Prelude.{ℕ, zero, suc, ◌+◌, ◌-◌, ◌*◌, ◌/◌, ◌%◌, ◌^◌, Bool, ◌&&◌, ℤ, pos, nat_abs, ◌+ℤ◌, ◌-ℤ◌, ◌≤ℤ◌, ◌<ℤ◌}
use Rattle.std.specs.Int.Signed.{le_z, lt_z}
use Rattle.cube.specs.declared.Point.{Point}
use Rattle.cube.specs.declared.Root.{Root}
use Rattle.cube.specs.declared.Cube.{Cube}

-- A closed cube includes the high planes; for lookup and tiling they are left out, so that each whole point of the root is in one leaf.
unfoldable pub axis_holds : ℤ → ℕ → ℤ → Bool
axis_holds low side v = le_z low v && lt_z v (low +ℤ pos side)

unfoldable pub holds_point : Cube → Point → Bool
holds_point q p = axis_holds q.x q.side p.x && axis_holds q.y q.side p.y && axis_holds q.z q.side p.z

-- The root has a low corner X, Y, Z and side 2^k: a point is in it, high planes left out. (Written out, not defined by the root as a cube: this is what that is checked against.)
pub record InRoot (r : Root) (p : Point) : Type 0 where
  pub x-low : r.x ≤ℤ p.x
  pub x-high : p.x <ℤ (r.x +ℤ pos (2 ^ r.k))
  pub y-low : r.y ≤ℤ p.y
  pub y-high : p.y <ℤ (r.y +ℤ pos (2 ^ r.k))
  pub z-low : r.z ≤ℤ p.z
  pub z-high : p.z <ℤ (r.z +ℤ pos (2 ^ r.k))

-- a point as a cube of side 0
unfoldable pub point_cube : Point → Cube
point_cube p = record { x = p.x; y = p.y; z = p.z; side = 0; level = 0 }

-- the place of a smallest cube, from its low corner counted in smallest cubes: one child number per level, as in `corner_of`
unfoldable pub place_by : ℕ → ℕ → ℕ → ℕ → ℕ
place_by zero x y z = 0
place_by (suc d) x y z = 8 * place_by d (x / 2) (y / 2) (z / 2) + (x % 2 + 2 * (y % 2) + 4 * (z % 2))

-- the number of smallest cubes between the root's low plane and a coordinate
abbrev pub steps_to : Root → ℤ → ℤ → ℕ
steps_to r low v = nat_abs (v -ℤ low) / 2 ^ (r.k - r.d)

-- the place of a point: the place of the smallest cube that holds it
unfoldable pub place_of : Root → Point → ℕ
place_of r p = place_by r.d (steps_to r r.x p.x) (steps_to r r.y p.y) (steps_to r r.z p.z)

-- (Only laws cite this.) One closed cube lies in another: on each axis, both of its planes do
pub record CubeInside (q outer : Cube) : Type 0 where
  pub x-low : outer.x ≤ℤ q.x
  pub x-high : (q.x +ℤ pos q.side) ≤ℤ (outer.x +ℤ pos outer.side)
  pub y-low : outer.y ≤ℤ q.y
  pub y-high : (q.y +ℤ pos q.side) ≤ℤ (outer.y +ℤ pos outer.side)
  pub z-low : outer.z ≤ℤ q.z
  pub z-high : (q.z +ℤ pos q.side) ≤ℤ (outer.z +ℤ pos outer.side)

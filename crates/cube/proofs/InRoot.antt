-- The root as a cube holds exactly the points of the root, axis by axis.
use mathlib.Core.Path.{◌≡◌}
use mathlib.Core.Bool.{true}
use Rattle.cube.specs.declared.Root.{Root}
use Rattle.cube.specs.declared.Point.{Point}
use Rattle.cube.specs.Cubes.{root_cube}
use Rattle.cube.specs.Points.{holds_point, InRoot}
use Rattle.cube.proofs.Places.{axis-between, axis-holds, point-x, point-y, point-z}

module _ (r : Root) (p : Point) where
  pub in-root : holds_point (root_cube r) p ≡ true → InRoot r p
  in-root h =
      let x = axis-between _ _ _ (point-x r p h) in
      let y = axis-between _ _ _ (point-y r p h) in
      let z = axis-between _ _ _ (point-z r p h) in
      record { x-low = x.0; x-high = x.1; y-low = y.0; y-high = y.1; z-low = z.0; z-high = z.1 }

  pub root-holds : InRoot r p → holds_point (root_cube r) p ≡ true
  unfolding holds_point root_cube
  root-holds h = rw (axis-holds _ _ _ h.x-low h.x-high, axis-holds _ _ _ h.y-low h.y-high, axis-holds _ _ _ h.z-low h.z-high)

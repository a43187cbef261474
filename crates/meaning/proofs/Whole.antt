-- Whole points among the points of fractions.
use mathlib.Core.Path.{◌≡◌}
use mathlib.Core.Bool.{true}
use Prim.Native.Nat.{ℕ}
use native.Mathlib.Omega.{arith}
use lib.IntN.{ℤ, pos, ◌+ℤ◌}
use lib.Signed.{◌≤ℤ◌, ≤ℤ_refl}
use Rattle.integers.proofs.Naturals.{ints, +-is}
use Rattle.integers.proofs.Ring.{times-one}
use Rattle.cube.specs.declared.Point.{Point}
use Rattle.cube.specs.declared.Cube.{Cube}
use Rattle.cube.specs.Points.{axis_holds, holds_point, point_cube}
use Rattle.cube.proofs.Places.{axis-between, axes}
use Rattle.meaning.specs.Fractions.{BetweenPlanes, whole, InClosed}

pub whole-between : (plane : ℤ) (side : ℕ) (v : ℤ) → plane ≤ℤ v → v ≤ℤ (plane +ℤ pos side) → BetweenPlanes plane side v 1
whole-between plane side v l u = record { low = rw (times-one plane) l; high = rw (times-one (plane +ℤ pos side)) u }

held-between : (low : ℤ) (side : ℕ) (v : ℤ) → axis_holds low side v ≡ true → BetweenPlanes low side v 1
held-between low side v e = let b = axis-between low side v e in whole-between low side v b.0 (omega (arith, ints, b.1))

-- a cube that holds a whole point, high planes left out, also holds it as a closed cube
pub held-closed : (q : Cube) (p : Point) → holds_point q p ≡ true → InClosed q (whole p)
held-closed q p e =
    let t = axes q p e in
    record { x = held-between _ _ _ t.0; y = held-between _ _ _ t.1; z = held-between _ _ _ t.2 }

-- a point is in its own cube, of side 0
pub in_itself : (p : Point) → InClosed (point_cube p) (whole p)
unfolding point_cube
in_itself p = record { x = alone p.x; y = alone p.y; z = alone p.z }
  where
    alone : (v : ℤ) → BetweenPlanes v 0 v 1
    alone v = whole-between v 0 v (≤ℤ_refl v) (omega (arith, ints, +-is v (pos 0)))

-- Fractions: the points between whole points, and the closed cubes that hold them.
use Rattle.std.specs.Prelude.{ℕ, ◌<◌, ◌^◌, ℤ, pos, ◌+ℤ◌, ◌*ℤ◌, ◌≤ℤ◌}
use Rattle.std.proofs.Common.{zero-lt-suc}
use Rattle.cube.specs.declared.Point.{Point}
use Rattle.cube.specs.declared.Root.{Root}
use Rattle.cube.specs.declared.Cube.{Cube}

-- A point is three whole numerators over one positive whole denominator n: x/n, y/n, z/n.
pub record FractionalPoint : Type 0 where
  pub x : ℤ
  pub y : ℤ
  pub z : ℤ
  pub n : ℕ
  pub positive : 0 < n

-- a whole point, over 1
abbrev pub whole : Point → FractionalPoint
whole p = record { x = p.x; y = p.y; z = p.z; n = 1; positive = zero-lt-suc 0 }

-- a/n lies between two planes, `side` apart, both included. (The planes are written out here, since the bounds over a cube are judged by this.)
pub record BetweenPlanes (plane : ℤ) (side : ℕ) (a : ℤ) (n : ℕ) : Type 0 where
  pub low : (plane *ℤ pos n) ≤ℤ a
  pub high : a ≤ℤ ((plane +ℤ pos side) *ℤ pos n)

-- A closed cube includes the high planes.
pub record InClosed (q : Cube) (p : FractionalPoint) : Type 0 where
  pub x : BetweenPlanes q.x q.side p.x p.n
  pub y : BetweenPlanes q.y q.side p.y p.n
  pub z : BetweenPlanes q.z q.side p.z p.n

-- The root has a low corner X, Y, Z and side 2^k: a point is in it, high planes included. (Written out here, since the root as a cube is judged by this.)
pub record InClosedRoot (r : Root) (p : FractionalPoint) : Type 0 where
  pub x : BetweenPlanes r.x (2 ^ r.k) p.x p.n
  pub y : BetweenPlanes r.y (2 ^ r.k) p.y p.n
  pub z : BetweenPlanes r.z (2 ^ r.k) p.z p.n

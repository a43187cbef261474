-- `cube::points::place_by` meets its contract: one child number at a time, from the root down.
use mathlib.Core.Path.{◌≡◌}
use Prim.Native.Nat.{◌-◌, ◌/◌, ◌^◌}
use Rattle.cube.specs.Points.{place_by}
use Rattle.cube.proofs.points.place_by.Given as goal

abbrev pub invariant-loop-i : goal.invariant-loop-i
invariant-loop-i l = l.place ≡ place_by (l.d - l.i) (l.x / 2 ^ l.i) (l.y / 2 ^ l.i) (l.z / 2 ^ l.i)

-- `cube::corner` meets its contract: one child number at a time, from the root down.
use mathlib.Core.Path.{◌≡◌}
use Prim.Native.Nat.{◌-◌, ◌/◌, ◌^◌}
use Rattle.cube.specs.Cubes.{axis_number, corner_of}
use Rattle.cube.proofs.corner.Given as goal

abbrev pub invariant-loop-i : goal.invariant-loop-i
invariant-loop-i l = l.c ≡ corner_of (axis_number l.axis) (l.d - l.i) (l.place / 8 ^ l.i)

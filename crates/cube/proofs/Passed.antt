-- Coordinates are passed to a call as their bits. Read back, they are the same point and the same root.
use mathlib.Core.Path.{◌≡◌}
use Prim.Native.Nat.{ℕ}
use lib.IntN.{ℤ}
use mir.Syntax.{w32}
use mir.Val.{SFits, to_z, of_z}
use mir.Facts.{to_z-of_z}
use Rattle.cube.specs.declared.Point.{Point}
use Rattle.cube.specs.declared.Root.{Root}

abbrev passed : ℤ → ℤ
passed v = to_z w32 (of_z w32 v)

abbrev pub passed_point : ℤ → ℤ → ℤ → Point
passed_point x y z = record { x = passed x; y = passed y; z = passed z }

abbrev pub passed_root : ℤ → ℤ → ℤ → ℕ → ℕ → Root
passed_root x y z k d = record { x = passed x; y = passed y; z = passed z; k = k; d = d }

module _ (x y z : ℤ) (fx : SFits w32 x) (fy : SFits w32 y) (fz : SFits w32 z) where
  pub same_point : passed_point x y z ≡ record { x = x; y = y; z = z }
  same_point = rw (to_z-of_z fx, to_z-of_z fy, to_z-of_z fz)

  pub same-root : (k d : ℕ) → passed_root x y z k d ≡ record { x = x; y = y; z = z; k = k; d = d }
  same-root k d = rw (to_z-of_z fx, to_z-of_z fy, to_z-of_z fz)

-- a number read back from its bits, for `grind`
pub ruleset read_back = (to_z-of_z)

-- The smallest cube at the place of three coordinates has its corner, on every axis, at that coordinate. The other way round is `place-corner` of AtPlace.
use mathlib.Core.Path.{◌≡◌, refl}
use Prim.Native.Nat.{ℕ, zero, suc, ◌^◌, ◌<◌}
use native.Mathlib.Omega.{arith}
use Rattle.cube.specs.Cubes.{corner_of}
use Rattle.cube.specs.Points.{place_by}
use Rattle.cube.proofs.AtPlace.{corner-place}

-- the coordinate on axis 0 (x), 1 (y) or 2 (z)
abbrev pub on_axis : ℕ → ℕ → ℕ → ℕ → ℕ
on_axis zero x y z = x
on_axis (suc zero) x y z = y
on_axis (suc (suc axis)) x y z = z

pub corner-of-place : (axis d x y z : ℕ) → axis < 3 → on_axis axis x y z < 2 ^ d → corner_of axis d (place_by d x y z) ≡ on_axis axis x y z
corner-of-place zero d x y z a h = corner-place 0 (λ x y z. x) (λ x y z. refl) (λ x y z. omega arith) d x y z h
corner-of-place (suc zero) d x y z a h = corner-place 1 (λ x y z. y) (λ x y z. refl) (λ x y z. omega arith) d x y z h
corner-of-place (suc (suc zero)) d x y z a h = corner-place 2 (λ x y z. z) (λ x y z. refl) (λ x y z. omega arith) d x y z h
corner-of-place (suc (suc (suc axis))) d x y z a h = absurd (omega arith)

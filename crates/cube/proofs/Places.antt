-- The place of a point: what the proofs of `place_by` and `place` need, and what holds of a point of the root.
use mathlib.Core.Path.{◌≡◌, refl, ap, ◌∙◌}
use mathlib.Core.Bool.{Bool, true, ◌&&◌}
use Prim.Native.Nat.{ℕ, zero, suc, ◌+◌, ◌-◌, ◌*◌, ◌/◌, ◌%◌, ◌^◌, ◌≤◌, ◌<◌}
use native.Mathlib.Nat.{div-div-eq-div-mul, pow-le-pow_right}
use native.Mathlib.Omega.{arith}
use lib.IntN.{ℤ, pos, negsuc, nat_abs, ◌+ℤ◌, ◌-ℤ◌}
use lib.Signed.{le_z, lt_z, ◌≤ℤ◌, ◌<ℤ◌}
use mir.Syntax.{w32}
use mir.Val.{SFits, to_z, of_z}
use mir.Facts.{to_z-of_z}
use Rattle.integers.proofs.Naturals.{dn, ints, +-is, minus_is, abs_is, abs-+}
use Rattle.integers.proofs.Order.{T_true, le_z-true, lt_z-true, le_test}
use Rattle.cube.specs.declared.Root.{Root}
use Rattle.cube.specs.declared.Cube.{Cube}
use Rattle.cube.specs.declared.Point.{Point}
use Rattle.cube.specs.Limits.{in_limits, Near}
use Rattle.cube.specs.Cubes.{root_cube}
use Rattle.cube.specs.Points.{axis_holds, holds_point, point_cube, place_by, place_of, CubeInside}
use Rattle.cube.proofs.Limits.{both, near-x, near-y, near-z}

-- ---- place_by
pub place-by-below : (d x y z : ℕ) → place_by d x y z < 8 ^ d
unfolding place_by
place-by-below zero x y z = omega arith
place-by-below (suc d) x y z = omega (arith, place-by-below d (x / 2) (y / 2) (z / 2))

halves : (x i : ℕ) → x / 2 ^ i / 2 ≡ x / 2 ^ suc i
halves x i = let e : 2 ^ i * 2 ≡ 2 ^ suc i = omega arith in div-div-eq-div-mul x (2 ^ i) 2 ∙ ap (λ (n : ℕ). x / n) e

-- the place by the child numbers that have i levels or more below them: with i = d none yet, with i = 0 all of them
pub place_start : (d x y z : ℕ) → place_by (d - d) x y z ≡ 0
unfolding place_by
place_start d x y z = let e : d - d ≡ 0 = omega arith in rw e

-- a level is still to come, so 8 times the place fits
pub place_small : (d i x y z : ℕ) → d ≤ 10 → 0 < i → place_by (d - i) x y z < 8 ^ 9
place_small d i x y z h l = omega (arith, place-by-below (d - i) x y z, pow-le-pow_right {n = 8} (omega arith) {i = d - i} {j = 9} (omega arith))

pub place_next : (d i x y z : ℕ) → 0 < i → i ≤ d → place_by (d - (i - 1)) (x / 2 ^ (i - 1)) (y / 2 ^ (i - 1)) (z / 2 ^ (i - 1)) ≡
    8 * place_by (d - i) (x / 2 ^ i) (y / 2 ^ i) (z / 2 ^ i) + (x / 2 ^ (i - 1) % 2 + 2 * (y / 2 ^ (i - 1) % 2) + 4 * (z / 2 ^ (i - 1) % 2))
unfolding place_by
place_next d zero x y z l h = absurd (omega arith)
place_next d (suc i) x y z l h =
    let j : suc i - 1 ≡ i = omega arith in
    let m : d - i ≡ suc (d - suc i) = omega arith in
    rw (j, m, halves x i, halves y i, halves z i)

pub ruleset place_steps = (place_start, place_small, place_next)

pub place-below : (r : Root) (p : Point) → place_of r p < 8 ^ r.d
unfolding place_of
place-below r p = place-by-below r.d _ _ _

-- ---- a point of a cube
-- a coordinate between two planes, the high one left out
abbrev Between : ℤ → ℕ → ℤ → Type 0
Between low side v = (low ≤ℤ v) × (v <ℤ (low +ℤ pos side))

pub axis-between : (low : ℤ) (side : ℕ) (v : ℤ) → axis_holds low side v ≡ true → Between low side v
unfolding axis_holds
axis-between low side v e = let t = both (le_z low v) (lt_z v (low +ℤ pos side)) e in (le_z-true _ _ t.0, lt_z-true _ _ t.1)

pub axis-holds : (low : ℤ) (side : ℕ) (v : ℤ) → low ≤ℤ v → v <ℤ (low +ℤ pos side) → axis_holds low side v ≡ true
unfolding axis_holds
axis-holds low side v l u = rw (le_test low v l, T_true (lt_z v (low +ℤ pos side)) u.lt)

none_below : (a : ℤ) → pos 0 ≤ℤ a → dn a ≡ 0
none_below (pos n) h = refl
none_below (negsuc n) h = absurd h.le

-- low + |v - low| is v
pub gap-added : (low v : ℤ) → low ≤ℤ v → low +ℤ pos (nat_abs (v -ℤ low)) ≡ v
gap-added low v h =
    let z : dn (v -ℤ low) ≡ 0 = none_below (v -ℤ low) (omega (arith, ints, minus_is v low)) in
    omega (arith, ints, +-is low (pos (nat_abs (v -ℤ low))), minus_is v low, abs_is (v -ℤ low), z)

module _ (low v : ℤ) (side : ℕ) (e : axis_holds low side v ≡ true) where
  pub gap_below : nat_abs (v -ℤ low) < side
  gap_below =
      let b = axis-between low side v e in
      omega (arith, ints, b.1, gap-added low v b.0, +-is low (pos side), +-is low (pos (nat_abs (v -ℤ low))))

  axis-near : nat_abs low + side ≤ 2 ^ 21 → nat_abs v + 0 ≤ 2 ^ 21
  axis-near h =
      let m : nat_abs v ≤ nat_abs low + nat_abs (v -ℤ low) = rw (gap-added low v (axis-between low side v e).0) at (abs-+ low (pos (nat_abs (v -ℤ low)))) in
      omega (arith, gap_below)

  axis-high : (v +ℤ pos 0) ≤ℤ (low +ℤ pos side)
  axis-high = let b = axis-between low side v e in omega (arith, ints, b.1, +-is v (pos 0))

  module _ (f : SFits w32 low) (g : SFits w32 v) where
    pub gap-low : to_z w32 (of_z w32 low) ≤ℤ to_z w32 (of_z w32 v)
    gap-low = rw (to_z-of_z f, to_z-of_z g) (axis-between low side v e).0

    pub gap-near : nat_abs low + side ≤ 2 ^ 21 → nat_abs (to_z w32 (of_z w32 v) -ℤ to_z w32 (of_z w32 low)) ≤ 2 ^ 21
    gap-near h = rw (to_z-of_z f, to_z-of_z g) (omega (arith, gap_below))

module _ (q : Cube) (p : Point) (e : holds_point q p ≡ true) where
  abbrev InX : Bool
  InX = axis_holds q.x q.side p.x

  abbrev InY : Bool
  InY = axis_holds q.y q.side p.y

  abbrev InZ : Bool
  InZ = axis_holds q.z q.side p.z

  pub axes : (InX ≡ true) × (InY ≡ true) × (InZ ≡ true)
  unfolding holds_point
  axes = let z = both (InX && InY) InZ e in let y = both InX InY z.0 in (y.0, y.1, z.1)

-- ---- a point of the root
module _ (r : Root) (p : Point) (e : holds_point (root_cube r) p ≡ true) where
  pub point-x : axis_holds r.x (2 ^ r.k) p.x ≡ true
  unfolding root_cube
  point-x = (axes (root_cube r) p e).0

  pub point-y : axis_holds r.y (2 ^ r.k) p.y ≡ true
  unfolding root_cube
  point-y = (axes (root_cube r) p e).1

  pub point-z : axis_holds r.z (2 ^ r.k) p.z ≡ true
  unfolding root_cube
  point-z = (axes (root_cube r) p e).2

  pub point-inside : CubeInside (point_cube p) (root_cube r)
  unfolding point_cube root_cube
  point-inside = record {
    x-low = (axis-between _ _ _ point-x).0;
    x-high = axis-high _ _ _ point-x;
    y-low = (axis-between _ _ _ point-y).0;
    y-high = axis-high _ _ _ point-y;
    z-low = (axis-between _ _ _ point-z).0;
    z-high = axis-high _ _ _ point-z;
  }

pub point-near : (r : Root) (p : Point) → in_limits r ≡ true → holds_point (root_cube r) p ≡ true → Near 0 (point_cube p)
unfolding point_cube
point-near r p i e = record {
  x = axis-near _ _ _ (point-x r p e) (near-x r i);
  y = axis-near _ _ _ (point-y r p e) (near-y r i);
  z = axis-near _ _ _ (point-z r p e) (near-z r i);
  deep = omega arith;
}

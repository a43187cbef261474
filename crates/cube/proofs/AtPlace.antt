-- A point of the root is in the cube at a place exactly when the point's place is one of the cube's places.
use mathlib.Core.Path.{◌≡◌, refl}
use mathlib.Core.Bool.{true}
use Prim.Native.Nat.{ℕ, zero, suc, ◌+◌, ◌-◌, ◌*◌, ◌/◌, ◌%◌, ◌^◌, ◌≤◌, ◌<◌}
use native.Mathlib.Nat.{one-le-pow, le-div_iff_mul-le, div-lt_iff_lt-mul}
use native.Mathlib.Omega.{arith}
use lib.Pow.{pow_pos, pow-add}
use lib.IntN.{ℤ, pos, nat_abs, ◌+ℤ◌, ◌-ℤ◌}
use lib.Signed.{◌≤ℤ◌}
use Rattle.integers.proofs.Naturals.{ints, +-is}
use Rattle.cube.specs.declared.Root.{Root}
use Rattle.cube.specs.declared.Point.{Point}
use Rattle.cube.specs.Limits.{in_limits}
use Rattle.cube.specs.Cubes.{root_cube, half, corner_of, low_at, cube_at}
use Rattle.cube.specs.Points.{axis_holds, holds_point, place_by, steps_to, place_of}
use Rattle.cube.proofs.Corners.{half-below, half-zero, times_eight}
use Rattle.cube.proofs.Limits.{limits-sizes}
use Rattle.cube.proofs.Cubes.{side-is}
use Rattle.cube.proofs.Places.{axis-between, axis-holds, gap-added, gap_below, axes, point-x, point-y, point-z}

-- ---- counted in smallest cubes
-- x is among the 2^n smallest cubes from a on
abbrev Within : ℕ → ℕ → ℕ → Type 0
Within n a x = (a ≤ x) × (x < a + 2 ^ n)

-- one level up
corner-half : (axis d p : ℕ) → corner_of axis (suc d) p / 2 ≡ corner_of axis d (p / 8)
unfolding corner_of
corner-half axis d p = omega (arith, half-below axis (p % 8))

corner-double : (axis n d c : ℕ) → corner_of axis (suc d) (c * 8 ^ suc n) ≡ 2 * corner_of axis d (c * 8 ^ n)
unfolding corner_of
corner-double axis n d c =
    let t = times_eight c n in
    let e : c * 8 ^ suc n / 8 ≡ c * 8 ^ n = omega arith in
    let m : c * 8 ^ suc n % 8 ≡ 0 = omega arith in
    rw (e, m, half-zero axis) (omega arith)

within-half : (axis n d c x : ℕ) → Within (suc n) (corner_of axis (suc d) (c * 8 ^ suc n)) x → Within n (corner_of axis d (c * 8 ^ n)) (x / 2)
within-half axis n d c x w = let e = corner-double axis n d c in (omega (arith, w.0), omega (arith, w.1))

-- the corners of a cube's places are its smallest cubes
corner-within : (axis n d c p : ℕ) → n ≤ d → c * 8 ^ n ≤ p → p < c * 8 ^ n + 8 ^ n → Within n (corner_of axis d (c * 8 ^ n)) (corner_of axis d p)
corner-within axis zero d c p h l u = let e : c * 8 ^ 0 ≡ p = omega arith in rw e (omega arith, omega arith)
corner-within axis (suc n) zero c p h l u = absurd (omega arith)
corner-within axis (suc n) (suc d) c p h l u =
    let t = times_eight c n in
    let i = corner-within axis n d c (p / 8) (omega arith) (omega arith) (omega arith) in
    let e = corner-double axis n d c in
    let f = corner-half axis d p in
    (omega (arith, i.0), omega (arith, i.1))

-- `pick` takes one axis of a point: it commutes with halving, and its last bit is the bit of that axis in the child number
module _ (axis : ℕ) (pick : ℕ → ℕ → ℕ → ℕ) (halved : (x y z : ℕ) → pick (x / 2) (y / 2) (z / 2) ≡ pick x y z / 2) (bit : (x y z : ℕ) → half axis (x % 2 + 2 * (y % 2) + 4 * (z % 2)) ≡ pick x y z % 2) where
  -- the corner of a point's place is the point
  pub corner-place : (d x y z : ℕ) → pick x y z < 2 ^ d → corner_of axis d (place_by d x y z) ≡ pick x y z
  unfolding corner_of place_by
  corner-place zero x y z h = omega arith
  corner-place (suc d) x y z h =
      let q : (8 * place_by d (x / 2) (y / 2) (z / 2) + (x % 2 + 2 * (y % 2) + 4 * (z % 2))) / 8 ≡ place_by d (x / 2) (y / 2) (z / 2) = omega arith in
      let m : (8 * place_by d (x / 2) (y / 2) (z / 2) + (x % 2 + 2 * (y % 2) + 4 * (z % 2))) % 8 ≡ x % 2 + 2 * (y % 2) + 4 * (z % 2) = omega arith in
      let i = halved x y z in
      rw (q, m, bit x y z) (omega (arith, corner-place d (x / 2) (y / 2) (z / 2) (omega arith)))

  -- if the place is one of a cube's places, the axis is in the cube
  pick-within : (n d c x y z : ℕ) → n ≤ d → pick x y z < 2 ^ d → c * 8 ^ n ≤ place_by d x y z → place_by d x y z < c * 8 ^ n + 8 ^ n → Within n (corner_of axis d (c * 8 ^ n)) (pick x y z)
  pick-within n d c x y z h b l u = rw (corner-place d x y z b) at (corner-within axis n d c _ h l u)

-- the place of a corner is the place
pub place-corner : (d p : ℕ) → p < 8 ^ d → place_by d (corner_of 0 d p) (corner_of 1 d p) (corner_of 2 d p) ≡ p
unfolding corner_of place_by
place-corner zero p h = omega arith
place-corner (suc d) p h = rw (corner-half 0 d p, corner-half 1 d p, corner-half 2 d p) (omega (arith, place-corner d (p / 8) (omega arith)))

-- if all axes of a point are in a cube, the point's place is one of the cube's places
place-within : (n d c x y z : ℕ) → n ≤ d → c * 8 ^ n < 8 ^ d → Within n (corner_of 0 d (c * 8 ^ n)) x → Within n (corner_of 1 d (c * 8 ^ n)) y → Within n (corner_of 2 d (c * 8 ^ n)) z →
    (c * 8 ^ n ≤ place_by d x y z) × (place_by d x y z < c * 8 ^ n + 8 ^ n)
unfolding place_by
place-within zero d c x y z h l wx wy wz =
    let ex : x ≡ corner_of 0 d (c * 8 ^ 0) = omega arith in
    let ey : y ≡ corner_of 1 d (c * 8 ^ 0) = omega arith in
    let ez : z ≡ corner_of 2 d (c * 8 ^ 0) = omega arith in
    let e = place-corner d (c * 8 ^ 0) l in
    rw (ex, ey, ez) (omega (arith, e), omega (arith, e))
place-within (suc n) zero c x y z h l wx wy wz = absurd (omega arith)
place-within (suc n) (suc d) c x y z h l wx wy wz =
    let t = times_eight c n in
    let i = place-within n d c (x / 2) (y / 2) (z / 2) (omega arith) (omega arith) (within-half 0 n d c x wx) (within-half 1 n d c y wy) (within-half 2 n d c z wz) in
    (omega (arith, i), omega (arith, i))

-- ---- counted in units
-- a coordinate against planes that lie a and a + side above `low`
module _ (low v : ℤ) (h : low ≤ℤ v) (a side : ℕ) where
  axis-moved : a ≤ nat_abs (v -ℤ low) → nat_abs (v -ℤ low) < a + side → axis_holds (low +ℤ pos a) side v ≡ true
  axis-moved l u =
      let b = gap-added low v h in
      let o = +-is low (pos (nat_abs (v -ℤ low))) in
      let s = +-is low (pos a) in
      let t = +-is (low +ℤ pos a) (pos side) in
      axis-holds (low +ℤ pos a) side v (omega (arith, ints)) (omega (arith, ints))

  axis-from : axis_holds (low +ℤ pos a) side v ≡ true → (a ≤ nat_abs (v -ℤ low)) × (nat_abs (v -ℤ low) < a + side)
  axis-from e =
      let b = gap-added low v h in
      let o = +-is low (pos (nat_abs (v -ℤ low))) in
      let s = +-is low (pos a) in
      let t = +-is (low +ℤ pos a) (pos side) in
      let k = axis-between (low +ℤ pos a) side v e in
      (omega (arith, ints, k.0), omega (arith, ints, k.1))

module _ (r : Root) (i : in_limits r ≡ true) (low v : ℤ) (h : axis_holds low (2 ^ r.k) v ≡ true) where
  abbrev Unit : ℕ
  Unit = 2 ^ (r.k - r.d)

  abbrev Gap : ℕ
  Gap = nat_abs (v -ℤ low)

  steps-below : steps_to r low v < 2 ^ r.d
  steps-below =
      let e : r.k ≡ r.d + (r.k - r.d) = omega (arith, (limits-sizes r i).2) in
      (div-lt_iff_lt-mul {k = Unit} {x = Gap} {y = 2 ^ r.d} (pow_pos (r.k - r.d))).1 (rw (← pow-add 2 r.d (r.k - r.d), ← e) (gap_below low v _ h))

  module _ (axis n level place : ℕ) (e : level + n ≡ r.d) where
    abbrev Corner : ℕ
    Corner = corner_of axis r.d place

    axis-held : Within n Corner (steps_to r low v) → axis_holds (low_at r low axis place) (2 ^ (r.k - level)) v ≡ true
    unfolding low_at
    axis-held w =
        let l = (le-div_iff_mul-le {k = Unit} {x = Corner} {y = Gap} (pow_pos (r.k - r.d))).0 w.0 in
        let u = (div-lt_iff_lt-mul {k = Unit} {x = Gap} {y = Corner + 2 ^ n} (pow_pos (r.k - r.d))).0 w.1 in
        rw (side-is r (limits-sizes r i).2 level n e) (axis-moved low v (axis-between _ _ _ h).0 (Corner * Unit) (2 ^ n * Unit) l (omega (arith, u)))

    axis-counted : axis_holds (low_at r low axis place) (2 ^ (r.k - level)) v ≡ true → Within n Corner (steps_to r low v)
    unfolding low_at
    axis-counted t =
        let b = axis-from low v (axis-between _ _ _ h).0 (Corner * Unit) (2 ^ n * Unit) (rw (side-is r (limits-sizes r i).2 level n e) at t) in
        ((le-div_iff_mul-le {k = Unit} {x = Corner} {y = Gap} (pow_pos (r.k - r.d))).1 b.0, (div-lt_iff_lt-mul {k = Unit} {x = Gap} {y = Corner + 2 ^ n} (pow_pos (r.k - r.d))).1 (omega (arith, b.1)))

-- the law, both ways
module _ (r : Root) (p : Point) (i : in_limits r ≡ true) (h : holds_point (root_cube r) p ≡ true) (n level c : ℕ) (e : level + n ≡ r.d) where
  abbrev X : ℕ
  X = steps_to r r.x p.x

  abbrev Y : ℕ
  Y = steps_to r r.y p.y

  abbrev Z : ℕ
  Z = steps_to r r.z p.z

  pub placed-holds : c * 8 ^ n ≤ place_of r p → place_of r p < c * 8 ^ n + 8 ^ n → holds_point (cube_at r (c * 8 ^ n) level) p ≡ true
  unfolding place_of holds_point cube_at
  placed-holds l u =
      let x = pick-within 0 (λ a b c. a) (λ a b c. refl) (λ a b c. omega arith) n r.d c X Y Z (omega arith) (steps-below r i _ _ (point-x r p h)) l u in
      let y = pick-within 1 (λ a b c. b) (λ a b c. refl) (λ a b c. omega arith) n r.d c X Y Z (omega arith) (steps-below r i _ _ (point-y r p h)) l u in
      let z = pick-within 2 (λ a b c. c) (λ a b c. refl) (λ a b c. omega arith) n r.d c X Y Z (omega arith) (steps-below r i _ _ (point-z r p h)) l u in
      rw (axis-held r i _ _ (point-x r p h) 0 n level (c * 8 ^ n) e x, axis-held r i _ _ (point-y r p h) 1 n level (c * 8 ^ n) e y, axis-held r i _ _ (point-z r p h) 2 n level (c * 8 ^ n) e z)

  pub holds-placed : c * 8 ^ n + 8 ^ n ≤ 8 ^ r.d → holds_point (cube_at r (c * 8 ^ n) level) p ≡ true → (c * 8 ^ n ≤ place_of r p) × (place_of r p < c * 8 ^ n + 8 ^ n)
  unfolding place_of cube_at
  holds-placed b q =
      let t = axes (cube_at r (c * 8 ^ n) level) p q in
      place-within n r.d c X Y Z (omega arith) (omega (arith, one-le-pow n 8 (omega arith)))
      (axis-counted r i _ _ (point-x r p h) 0 n level (c * 8 ^ n) e t.0)
      (axis-counted r i _ _ (point-y r p h) 1 n level (c * 8 ^ n) e t.1)
      (axis-counted r i _ _ (point-z r p h) 2 n level (c * 8 ^ n) e t.2)

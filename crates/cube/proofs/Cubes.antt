-- The cubes of a root: what the proof of `cube_at` needs, that cubes stay near the origin and children lie in their cube, cubes inside one another, the children of the cube at a place, and that cube at a greater depth.
use mathlib.Core.Path.{◌≡◌, refl, sym, ap, ◌∙◌}
use mathlib.Core.Bool.{true}
use Prim.Native.Nat.{ℕ, zero, suc, ◌+◌, ◌-◌, ◌*◌, ◌/◌, ◌%◌, ◌^◌, ◌≤◌, ◌<◌}
use native.Mathlib.Nat.{zero-mul, mul-le-mul_right}
use native.Mathlib.Omega.{arith}
use lib.Pow.{pow-add, shl_lt}
use lib.IntN.{ℤ, pos, nat_abs, ◌+ℤ◌, +ℤ_assoc, +ℤ_idr, pos-+ℤ-pos}
use lib.Signed.{◌≤ℤ◌, ≤ℤ_refl}
use mir.Syntax.{w32}
use mir.Val.{Fits}
use mir.Facts.{to_z-of_z}
use Rattle.integers.proofs.Naturals.{abs-+, ints, +-is}
use Rattle.integers.proofs.Order.{≤_trans}
use Rattle.cube.specs.declared.Root.{Root}
use Rattle.cube.specs.declared.Cube.{Cube}
use Rattle.cube.specs.Limits.{in_limits, at_depth, Near}
use Rattle.cube.specs.Points.{CubeInside}
use Rattle.cube.specs.Cubes.{root_cube, half, child_of, corner_of, low_at, cube_at}
use Rattle.cube.proofs.Limits.{limits-sizes, near-x, near-y, near-z, root_facts}
use Rattle.cube.proofs.Corners.{half-below, half-zero, corner-below, corner-zero, corner-child, times_eight, times-two}

-- ---- near the origin
half-most : (b h : ℕ) → b < 2 → b * h ≤ h
half-most b h l = omega (arith, mul-le-mul_right {m = b} {n = 1} h (omega arith))

-- child k on one axis
low_near : (axis k side : ℕ) (low : ℤ) → nat_abs low + side ≤ 2 ^ 21 → nat_abs (low +ℤ pos (half axis k * (side / 2))) + side / 2 ≤ 2 ^ 21
low_near axis k side low h =
    omega (arith, half-most (half axis k) (side / 2) (half-below axis k), abs-+ low (pos (half axis k * (side / 2))))

pub near-fewer : (left fewer : ℕ) (q : Cube) → Near left q → fewer ≤ left → Near fewer q
near-fewer left fewer q n h = record { x = n.x; y = n.y; z = n.z; deep = omega (arith, n.deep) }

pub child-near : (left : ℕ) (q : Cube) (k : ℕ) → Near left q → 0 < left → k < 8 → Near (left - 1) (child_of q k)
unfolding child_of
child-near left q k n h l = record {
  x = low_near 0 k q.side q.x n.x;
  y = low_near 1 k q.side q.y n.y;
  z = low_near 2 k q.side q.z n.z;
  deep = omega (arith, n.deep);
}

-- ---- a cube inside another
pub inside-itself : (q : Cube) → CubeInside q q
inside-itself q = record { x-low = ≤ℤ_refl _; x-high = ≤ℤ_refl _; y-low = ≤ℤ_refl _; y-high = ≤ℤ_refl _; z-low = ≤ℤ_refl _; z-high = ≤ℤ_refl _ }

pub inside-trans : (q inner outer : Cube) → CubeInside q inner → CubeInside inner outer → CubeInside q outer
inside-trans q inner outer h k =
    record {
      x-low = ≤_trans _ _ _ k.x-low h.x-low;
      x-high = ≤_trans _ _ _ h.x-high k.x-high;
      y-low = ≤_trans _ _ _ k.y-low h.y-low;
      y-high = ≤_trans _ _ _ h.y-high k.y-high;
      z-low = ≤_trans _ _ _ k.z-low h.z-low;
      z-high = ≤_trans _ _ _ h.z-high k.z-high;
    }

-- ---- a child lies in its cube
axis-inside : (low : ℤ) (h side : ℕ) → h < 2 → (low ≤ℤ (low +ℤ pos (h * (side / 2)))) × (((low +ℤ pos (h * (side / 2))) +ℤ pos (side / 2)) ≤ℤ (low +ℤ pos side))
axis-inside low h side l =
    let m = half-most h (side / 2) l in
    let one = +-is low (pos (h * (side / 2))) in
    let two = +-is (low +ℤ pos (h * (side / 2))) (pos (side / 2)) in
    let all = +-is low (pos side) in
    (omega (arith, ints, one), omega (arith, ints, m, one, two, all))

module _ (q : Cube) (k : ℕ) where
  on-axis : (axis : ℕ) (low : ℤ) → (low ≤ℤ (low +ℤ pos (half axis k * (q.side / 2)))) × (((low +ℤ pos (half axis k * (q.side / 2))) +ℤ pos (q.side / 2)) ≤ℤ (low +ℤ pos q.side))
  on-axis axis low = axis-inside low (half axis k) q.side (half-below axis k)

  pub child-inside : CubeInside (child_of q k) q
  unfolding child_of
  child-inside = record {
    x-low = (on-axis 0 q.x).0;
    x-high = (on-axis 0 q.x).1;
    y-low = (on-axis 1 q.y).0;
    y-high = (on-axis 1 q.y).1;
    z-low = (on-axis 2 q.z).0;
    z-high = (on-axis 2 q.z).1;
  }

pub root-near : (r : Root) → in_limits r ≡ true → Near r.d (root_cube r)
unfolding root_cube
root-near r e = record { x = near-x r e; y = near-y r e; z = near-z r e; deep = omega (arith, (limits-sizes r e).1) }

-- what a function that has a root in its limits requires: q is what `cube` returned
module _ (r : Root) (e : in_limits r ≡ true) where
  pub root-small : r.k ≤ 16
  root-small = (limits-sizes r e).0

  module _ (q : Cube) (is : q ≡ root_cube r) where
    pub near-all : Near r.d q
    near-all = rw is (root-near r e)

    pub near-once : Near 0 q
    near-once = near-fewer r.d 0 q near-all (omega arith)

-- ---- cube_at: the corner c of the cube at a place, in smallest cubes of side u, lies in the root
pub corner_inside : (r : Root) (axis place c u : ℕ) → in_limits r ≡ true → c ≡ corner_of axis r.d place → u ≡ 2 ^ (r.k - r.d) → c * u < 2 ^ r.k
corner_inside r axis place c u e ec eu =
    let k : r.d + (r.k - r.d) ≡ r.k = omega (arith, limits-sizes r e) in
    rw (ec, eu) (rw k at (shl_lt r.d (r.k - r.d) (corner-below axis r.d place)))

pub corner_fits : (r : Root) (axis place c u : ℕ) → in_limits r ≡ true → c ≡ corner_of axis r.d place → u ≡ 2 ^ (r.k - r.d) → Fits w32 (c * u)
corner_fits r axis place c u e ec eu = record { fits = omega (arith, corner_inside r axis place c u e ec eu, near-x r e) }

pub ruleset at_facts = (root_facts, corner_inside, corner_fits, to_z-of_z)

-- ---- the child of the cube at a place
cube-same : (a b : Cube) → a.x ≡ b.x → a.y ≡ b.y → a.z ≡ b.z → a.side ≡ b.side → a.level ≡ b.level → a ≡ b
cube-same a b x y z s l = λ i. record { x = x i; y = y i; z = z i; side = s i; level = l i }

at_low : (low : ℤ) (axis d unit : ℕ) → low +ℤ pos (corner_of axis d 0 * unit) ≡ low
at_low low axis d unit = rw (corner-zero axis d, zero-mul) (+ℤ_idr low)

further : (o : ℤ) (a b c : ℕ) → a + b ≡ c → (o +ℤ pos a) +ℤ pos b ≡ o +ℤ pos c
further o a b c e = +ℤ_assoc o (pos a) (pos b) ∙ ap (λ (k : ℤ). o +ℤ k) (pos-+ℤ-pos a b ∙ ap pos e)

module _ (r : Root) (deep : r.d ≤ r.k) where
  abbrev unit : ℕ
  unit = 2 ^ (r.k - r.d)

  -- a cube with n levels below it is 2^n smallest cubes wide
  pub side-is : (level n : ℕ) → level + n ≡ r.d → 2 ^ (r.k - level) ≡ 2 ^ n * unit
  side-is level n e = let s : r.k - level ≡ n + (r.k - r.d) = omega arith in rw s (pow-add 2 n (r.k - r.d))

  module _ (n level c k : ℕ) (e : level + suc n ≡ r.d) (l : k < 8) where
    halved : 2 ^ (r.k - level) / 2 ≡ 2 ^ n * unit
    halved = rw (side-is level (suc n) e) (omega (arith, times-two unit n))

    along : (axis : ℕ) → corner_of axis r.d (c * 8 ^ suc n) * unit + half axis k * (2 ^ (r.k - level) / 2) ≡ corner_of axis r.d (c * 8 ^ suc n + k * 8 ^ n) * unit
    along axis =
        let v = ap (λ (b : ℕ). b * unit) (corner-child axis n r.d c k (omega arith) l) in
        rw halved (omega (arith, v))

    pub child-cube : child_of (cube_at r (c * 8 ^ suc n) level) k ≡ cube_at r (c * 8 ^ suc n + k * 8 ^ n) (level + 1)
    unfolding child_of cube_at low_at
    child-cube =
        cube-same _ _
        (further r.x _ _ _ (along 0))
        (further r.y _ _ _ (along 1))
        (further r.z _ _ _ (along 2))
        (halved ∙ sym (side-is (level + 1) n (omega arith)))
        refl

-- ---- the same cube at a greater depth: its place has one more digit for each level
corner-deeper : (axis d e place : ℕ) → corner_of axis (d + e) (place * 8 ^ e) ≡ corner_of axis d place * 2 ^ e
unfolding corner_of
corner-deeper axis d zero place =
    let z : d + 0 ≡ d = omega arith in
    let y : place * 8 ^ 0 ≡ place = omega arith in
    rw (z, y) (omega arith)
corner-deeper axis d (suc e) place =
    let z : d + suc e ≡ suc (d + e) = omega arith in
    let t = times_eight place e in
    let q : place * 8 ^ suc e / 8 ≡ place * 8 ^ e = omega arith in
    let r : place * 8 ^ suc e % 8 ≡ 0 = omega arith in
    rw (z, q, r, half-zero axis) (omega (arith, corner-deeper axis d e place, times-two (corner_of axis d place) e))

pub deeper-cube : (r : Root) (e place level : ℕ) → r.d + e ≤ r.k → cube_at (at_depth (r.d + e) r) (place * 8 ^ e) level ≡ cube_at r place level
unfolding cube_at low_at
deeper-cube r e place level h =
    cube-same _ _ (ap (λ (n : ℕ). r.x +ℤ pos n) (steps 0)) (ap (λ (n : ℕ). r.y +ℤ pos n) (steps 1)) (ap (λ (n : ℕ). r.z +ℤ pos n) (steps 2)) refl refl
  where
    steps : (axis : ℕ) → corner_of axis (r.d + e) (place * 8 ^ e) * 2 ^ (r.k - (r.d + e)) ≡ corner_of axis r.d place * 2 ^ (r.k - r.d)
    steps axis =
        let s : r.k - r.d ≡ e + (r.k - (r.d + e)) = omega arith in
        rw (corner-deeper axis r.d e place, s, pow-add 2 e (r.k - (r.d + e))) (omega arith)

-- the root is the cube of level 0 at place 0
pub root-cube : (r : Root) → cube_at r 0 0 ≡ root_cube r
unfolding cube_at low_at root_cube
root-cube r =
    let k : r.k - 0 ≡ r.k = omega arith in
    cube-same _ _
    (at_low r.x 0 r.d (2 ^ (r.k - r.d)))
    (at_low r.y 1 r.d (2 ^ (r.k - r.d)))
    (at_low r.z 2 r.d (2 ^ (r.k - r.d)))
    (ap (λ (n : ℕ). 2 ^ n) k)
    refl

-- What follows if root and depth are in limits.
use mathlib.Core.Path.{◌≡◌, refl, sym}
use mathlib.Core.Bool.{Bool, true, false, ◌&&◌, true≢false}
use Prim.Native.Nat.{ℕ, ◌+◌, ◌-◌, ◌≤◌, ◌^◌}
use native.Mathlib.Omega.{arith}
use borrow.Author.Tests.{leb-true, le-leb}
use lib.Dec.{leb}
use lib.Pow.{pow_mono}
use lib.IntN.{ℤ, pos, negsuc, neg_ℤ, nat_abs, ◌+ℤ◌}
use lib.Signed.{le_z, ◌≤ℤ◌}
use Rattle.integers.proofs.Naturals.{ints}
use Rattle.integers.proofs.Order.{le_z-true}
use Rattle.cube.specs.declared.Root.{Root}
use Rattle.cube.specs.Limits.{axis_fits, sizes_fit, in_limits, at_depth}

pub both : (a b : Bool) → (a && b) ≡ true → (a ≡ true) × (b ≡ true)
both true b e = (refl, e)
both false b e = absurd (true≢false (sym e))

-- the planes of an axis lie in -2^20 to 2^20
abbrev pub Planes : ℤ → ℕ → Type 0
Planes low side = (neg_ℤ (pos (2 ^ 20)) ≤ℤ low) × ((low +ℤ pos side) ≤ℤ pos (2 ^ 20))

axis-planes : (low : ℤ) (side : ℕ) → axis_fits low side ≡ true → Planes low side
unfolding axis_fits
axis-planes low side e =
    let t = both (le_z (neg_ℤ (pos (2 ^ 20))) low) (le_z (low +ℤ pos side) (pos (2 ^ 20))) e in
    (le_z-true _ _ t.0, le_z-true _ _ t.1)

-- an axis with such planes is near 0, as `Near` requires
planes-near : (low : ℤ) (side : ℕ) → Planes low side → side ≤ 2 ^ 16 → nat_abs low + side ≤ 2 ^ 21
planes-near (pos n) side p h = omega (arith, ints, p.1)
planes-near (negsuc n) side p h = omega (arith, ints, p.0)

pub sizes-are : (k d : ℕ) → sizes_fit k d ≡ true → (k ≤ 16) × (d ≤ 10) × (d ≤ k)
unfolding sizes_fit
sizes-are k d e =
    let t = both (leb k 16 && leb d 10) (leb d k) e in
    let s = both (leb k 16) (leb d 10) t.0 in
    (leb-true _ _ s.0, leb-true _ _ s.1, leb-true _ _ t.1)

module _ (r : Root) (e : in_limits r ≡ true) where
  abbrev X : Bool
  X = axis_fits r.x (2 ^ r.k)

  abbrev Y : Bool
  Y = axis_fits r.y (2 ^ r.k)

  abbrev Z : Bool
  Z = axis_fits r.z (2 ^ r.k)

  parts : (sizes_fit r.k r.d ≡ true) × (X ≡ true) × (Y ≡ true) × (Z ≡ true)
  unfolding in_limits
  parts =
      let z = both (sizes_fit r.k r.d && X && Y) Z e in
      let y = both (sizes_fit r.k r.d && X) Y z.0 in
      let x = both (sizes_fit r.k r.d) X y.0 in
      (x.0, x.1, y.1, z.1)

  pub limits-sizes : (r.k ≤ 16) × (r.d ≤ 10) × (r.d ≤ r.k)
  limits-sizes = sizes-are _ _ parts.0

  pub limits-x : Planes r.x (2 ^ r.k)
  limits-x = axis-planes _ _ parts.1

  pub limits-y : Planes r.y (2 ^ r.k)
  limits-y = axis-planes _ _ parts.2

  pub limits-z : Planes r.z (2 ^ r.k)
  limits-z = axis-planes _ _ parts.3

  -- a side is at most 2^16
  limits-side : 2 ^ r.k ≤ 2 ^ 16
  limits-side = pow_mono limits-sizes.0

  pub near-x : nat_abs r.x + 2 ^ r.k ≤ 2 ^ 21
  near-x = planes-near _ _ limits-x limits-side

  pub near-y : nat_abs r.y + 2 ^ r.k ≤ 2 ^ 21
  near-y = planes-near _ _ limits-y limits-side

  pub near-z : nat_abs r.z + 2 ^ r.k ≤ 2 ^ 21
  near-z = planes-near _ _ limits-z limits-side

  pub side_room : (n : ℕ) → r.k - n ≤ 16
  side_room n = omega (arith, limits-sizes)

  -- a smaller depth is in limits too
  pub shallower : (d : ℕ) → d ≤ r.d → in_limits (at_depth d r) ≡ true
  unfolding in_limits sizes_fit
  shallower d h =
      let t = limits-sizes in
      rw (le-leb r.k 16 t.0, le-leb d 10 (omega (arith, t.1)), le-leb d r.k (omega (arith, t.2)), parts.1, parts.2, parts.3)

-- what a function that has a root in its limits needs
pub ruleset root_facts = (limits-sizes, near-x, near-y, near-z)

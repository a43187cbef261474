-- Next to each point of a closed cube is a whole point of the cube, high planes left out. So if a leaf holds the whole point, its closed cube holds the point.
use mathlib.Core.Path.{◌≡◌}
use mathlib.Core.Bool.{true}
use Prim.Native.Nat.{ℕ, zero, suc, ◌*◌, ◌≤◌, ◌<◌}
use native.Mathlib.Omega.{arith}
use borrow.Author.Tests.{leb-true, leb-false}
use lib.Dec.{leb}
use lib.IntN.{ℤ, pos, nat_abs, ◌+ℤ◌, ◌-ℤ◌, ◌*ℤ◌}
use lib.Signed.{◌≤ℤ◌}
use Rattle.integers.proofs.Naturals.{ints, +-is}
use Rattle.integers.proofs.Ring.{+-*}
use Rattle.integers.proofs.Order.{≤_trans, by-test, scale-keeps}
use Rattle.cube.specs.declared.Point.{Point}
use Rattle.cube.specs.declared.Cube.{Cube}
use Rattle.cube.specs.Points.{axis_holds, holds_point}
use Rattle.cube.proofs.Places.{axis-between, axis-holds, gap-added, axes}
use Rattle.meaning.specs.Fractions.{FractionalPoint, BetweenPlanes, InClosed}

-- m lies between two neighbouring multiples of n, the lesser of which is less than `side` times n
record Beside (m n side : ℕ) : Type 0 where
  steps : ℕ
  below : steps < side
  low : steps * n ≤ m
  high : m ≤ suc steps * n

beside : (m n side : ℕ) → 0 < side → m ≤ side * n → Beside m n side
beside m n zero k h = absurd (omega arith)
beside m n (suc s) k h =
    by-test (leb (s * n) m)
    (λ t. record { steps = s; below = omega arith; low = leb-true (s * n) m t; high = h })
    (λ t.
    let l = leb-false (s * n) m t in
    let r = beside m n s (positive s n m l) (omega arith) in record { steps = r.steps; below = omega (arith, r.below); low = r.low; high = r.high })
  where
    positive : (s n m : ℕ) → m < s * n → 0 < s
    positive zero n m l = absurd (omega arith)
    positive (suc s) n m l = omega arith

-- ---- one axis
module _ (plane : ℤ) (side : ℕ) (a : ℤ) (n : ℕ) (positive : 0 < side) (h : BetweenPlanes plane side a n) where
  -- how far a is above the low plane
  abbrev gap : ℕ
  gap = nat_abs (a -ℤ plane *ℤ pos n)

  times : (k : ℕ) → (plane +ℤ pos k) *ℤ pos n ≡ plane *ℤ pos n +ℤ pos (k * n)
  times k = +-* plane (pos k) (pos n)

  gap-high : gap ≤ side * n
  gap-high = omega (arith, ints, h.high, gap-added (plane *ℤ pos n) a h.low, times side, +-is (plane *ℤ pos n) (pos gap), +-is (plane *ℤ pos n) (pos (side * n)))

  abbrev found : Beside gap n side
  found = beside gap n side positive gap-high

  -- the whole number next to a/n
  abbrev near : ℤ
  near = plane +ℤ pos found.steps

  near-low : (near *ℤ pos n) ≤ℤ a
  near-low = omega (arith, ints, found.low, gap-added (plane *ℤ pos n) a h.low, times found.steps, +-is (plane *ℤ pos n) (pos gap), +-is (plane *ℤ pos n) (pos (found.steps * n)))

  near-high : a ≤ℤ ((near +ℤ pos 1) *ℤ pos n)
  near-high =
      let e : near +ℤ pos 1 ≡ plane +ℤ pos (suc found.steps) = omega (arith, ints, +-is near (pos 1), +-is plane (pos found.steps), +-is plane (pos (suc found.steps))) in
      rw e (omega (arith, ints, found.high, gap-added (plane *ℤ pos n) a h.low, times (suc found.steps), +-is (plane *ℤ pos n) (pos gap), +-is (plane *ℤ pos n) (pos (suc found.steps * n))))

  near-held : axis_holds plane side near ≡ true
  near-held = axis-holds plane side near (omega (arith, ints, +-is plane (pos found.steps))) (omega (arith, ints, found.below, +-is plane (pos found.steps), +-is plane (pos side)))

  near-closed : (low : ℤ) (size : ℕ) → axis_holds low size near ≡ true → BetweenPlanes low size a n
  near-closed low size e =
      let b = axis-between low size near e in
      record {
        low = ≤_trans _ _ _ (scale-keeps n low near b.0) near-low;
        high = ≤_trans _ _ _ near-high (scale-keeps n (near +ℤ pos 1) (low +ℤ pos size) (omega (arith, ints, b.1, +-is near (pos 1))));
      }

-- ---- a cube
module _ (q : Cube) (p : FractionalPoint) (positive : 0 < q.side) (h : InClosed q p) where
  -- the whole point next to the point
  pub beside-point : Point
  beside-point = record {
    x = near _ _ _ _ positive h.x;
    y = near _ _ _ _ positive h.y;
    z = near _ _ _ _ positive h.z;
  }

  pub beside-held : holds_point q beside-point ≡ true
  unfolding holds_point beside-point
  beside-held = rw (near-held _ _ _ _ positive h.x, near-held _ _ _ _ positive h.y, near-held _ _ _ _ positive h.z)

  pub beside-closed : (c : Cube) → holds_point c beside-point ≡ true → InClosed c p
  unfolding beside-point
  beside-closed c e =
      let t = axes c beside-point e in
      record {
        x = near-closed _ _ _ _ positive h.x _ _ t.0;
        y = near-closed _ _ _ _ positive h.y _ _ t.1;
        z = near-closed _ _ _ _ positive h.z _ _ t.2;
      }

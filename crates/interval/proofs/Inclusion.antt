-- No result is left out: the sum, difference, product and square of numbers of the operands lie in the interval that the rule gives.
-- A number is a numerator over a scale, as in `Between`.
use Prim.Native.Nat.{ℕ, ◌*◌}
use lib.IntN.{ℤ, pos, ◌+ℤ◌, ◌-ℤ◌, ◌*ℤ◌, *ℤ_comm, zero-*ℤ}
use lib.Signed.{le_z, ◌≤ℤ◌}
use Rattle.integers.specs.Least.{lesser_of, greater_of, least_of, greatest_of}
use Rattle.integers.proofs.Ring.{+-*, minus-*, regroup}
use Rattle.integers.proofs.Order.{≤_trans, by_sign, by-test, le_z-true, le_z-false, +-mono, minus-mono, *-keeps, *-turns, scale-keeps, at-least-zero, at-most-zero, finer-low, finer-high, square-least, squares-up, squares-down}
use Rattle.integers.proofs.Least.{lesser-either, greater-either, lesser-left, lesser-right, greater-left, greater-right, Spanned, first-spanned, second-spanned, third-spanned, fourth-spanned, greater-kept, least_kept, greatest-kept}
use Rattle.interval.specs.Rules.{from, span, sum, difference, product, square}
use Rattle.interval.specs.Claims.{Between}
use Rattle.interval.specs.declared.Interval.{Interval}

-- over a scale that is m times finer
pub finer : {i : Interval} {n : ℕ} {a : ℤ} (m : ℕ) → Between i n a → Between i (n * m) (a *ℤ pos m)
finer {i} {n} {a} m h = record { low = finer-low i.low a n m h.low; high = finer-high i.high a n m h.high }

-- ---- the sum and the difference
module _ {i j : Interval} {n : ℕ} {x y : ℤ} (hx : Between i n x) (hy : Between j n y) where
  pub sum-holds : Between (sum i j) n (x +ℤ y)
  unfolding sum
  sum-holds = record {
    low = rw +-* (+-mono _ _ _ _ hx.low hy.low);
    high = rw +-* (+-mono _ _ _ _ hx.high hy.high);
  }

  pub difference-holds : Between (difference i j) n (x -ℤ y)
  unfolding difference
  difference-holds = record {
    low = rw minus-* (minus-mono _ _ _ _ hx.low hy.high);
    high = rw minus-* (minus-mono _ _ _ _ hx.high hy.low);
  }

-- ---- the product
-- x k lies between a k and b k, whichever is the lesser
between-multiples : (a b x k : ℤ) → a ≤ℤ x → x ≤ℤ b → (lesser_of (a *ℤ k) (b *ℤ k) ≤ℤ (x *ℤ k)) × ((x *ℤ k) ≤ℤ greater_of (a *ℤ k) (b *ℤ k))
between-multiples a b x k h j =
    by_sign k
    (λ s. (≤_trans _ _ _ (lesser-left (a *ℤ k) (b *ℤ k)) (*-keeps k a x s h), ≤_trans _ _ _ (*-keeps k x b s j) (greater-right (a *ℤ k) (b *ℤ k))))
    (λ s. (≤_trans _ _ _ (lesser-right (a *ℤ k) (b *ℤ k)) (*-turns k x b s j), ≤_trans _ _ _ (*-turns k a x s h) (greater-left (a *ℤ k) (b *ℤ k))))

-- a number between two of four numbers lies in their span
spanned-between : (p q r s u v z : ℤ) → Spanned p q r s u → Spanned p q r s v → (lesser_of u v ≤ℤ z) × (z ≤ℤ greater_of u v) → Spanned p q r s z
spanned-between p q r s u v z hu hv h = (
  ≤_trans _ _ _ (lesser-either (λ w. least_of p q r s ≤ℤ w) u v hu.0 hv.0) h.0,
  ≤_trans _ _ _ h.1 (greater-either (λ w. w ≤ℤ greatest_of p q r s) u v hu.1 hv.1),
)

-- whole numbers: first one factor moves from end to end, then the other
product-spanned : (a b c d x y : ℤ) → a ≤ℤ x → x ≤ℤ b → c ≤ℤ y → y ≤ℤ d → Spanned (a *ℤ c) (a *ℤ d) (b *ℤ c) (b *ℤ d) (x *ℤ y)
product-spanned a b c d x y ax xb cy yd =
    let P : ℤ → Type 0 = Spanned (a *ℤ c) (a *ℤ d) (b *ℤ c) (b *ℤ d) in
    let moved : (k : ℤ) → P (k *ℤ c) → P (k *ℤ d) → P (k *ℤ y) =
    (λ k hc hd. rw (*ℤ_comm k y) (spanned-between _ _ _ _ (c *ℤ k) (d *ℤ k) (y *ℤ k) (rw (*ℤ_comm c k) hc) (rw (*ℤ_comm d k) hd) (between-multiples c d y k cy yd))) in
    spanned-between _ _ _ _ (a *ℤ y) (b *ℤ y) (x *ℤ y) (moved a (first-spanned _ _ _ _) (second-spanned _ _ _ _)) (moved b (third-spanned _ _ _ _) (fourth-spanned _ _ _ _))
    (between-multiples a b x y ax xb)

pub product-holds : {i j : Interval} {n m : ℕ} {x y : ℤ} → Between i n x → Between j m y → Between (product i j) (n * m) (x *ℤ y)
unfolding product span
product-holds {i} {j} {n} {m} {x} {y} hx hy =
    let a = i.low in
    let b = i.high in
    let c = j.low in
    let d = j.high in
    let t = rw (regroup a c (pos n) (pos m), regroup a d (pos n) (pos m), regroup b c (pos n) (pos m), regroup b d (pos n) (pos m))
    at (product-spanned (a *ℤ pos n) (b *ℤ pos n) (c *ℤ pos m) (d *ℤ pos m) x y hx.low hx.high hy.low hy.high) in
    let scaled : ℤ → ℤ = λ z. z *ℤ pos (n * m) in
    record {
      low = rw (← least_kept scaled (scale-keeps (n * m)) (a *ℤ c) (a *ℤ d) (b *ℤ c) (b *ℤ d)) t.0;
      high = rw (← greatest-kept scaled (scale-keeps (n * m)) (a *ℤ c) (a *ℤ d) (b *ℤ c) (b *ℤ d)) t.1;
    }

-- ---- the square
-- what holds of the interval in each of the three cases holds of the square
pub by-case : (P : Interval → Type 0) (i : Interval) → (pos 0 ≤ℤ i.low → P (from (i.low *ℤ i.low) (i.high *ℤ i.high)))
    → (i.high ≤ℤ pos 0 → P (from (i.high *ℤ i.high) (i.low *ℤ i.low)))
    → (i.low ≤ℤ pos 0 → pos 0 ≤ℤ i.high → P (from (pos 0) (greater_of (i.low *ℤ i.low) (i.high *ℤ i.high)))) → P (square i)
unfolding square
by-case P i up down across =
    by-test (le_z (pos 0) i.low) (λ s. rw s (up (le_z-true (pos 0) i.low s)))
    (λ s.
    by-test (le_z i.high (pos 0)) (λ t. rw (s, t) (down (le_z-true i.high (pos 0) t)))
    (λ t. rw (s, t) (across (le_z-false (pos 0) i.low s) (le_z-false i.high (pos 0) t))))

module _ {i : Interval} {n : ℕ} {x : ℤ} (h : Between i n x) where
  abbrev Squared : Interval → Type 0
  Squared s = Between s (n * n) (x *ℤ x)

  rising : pos 0 ≤ℤ i.low → Squared (from (i.low *ℤ i.low) (i.high *ℤ i.high))
  rising z =
      let u = at-least-zero i.low n z in
      record { low = rw regroup at (squares-up _ x u h.low); high = rw regroup at (squares-up x _ (≤_trans _ _ _ u h.low) h.high) }

  falling : i.high ≤ℤ pos 0 → Squared (from (i.high *ℤ i.high) (i.low *ℤ i.low))
  falling z =
      let u = at-most-zero i.high n z in
      record { low = rw regroup at (squares-down x _ u h.high); high = rw regroup at (squares-down _ x (≤_trans _ _ _ h.high u) h.low) }

  -- x lies on the side of one of the ends
  across : Squared (from (pos 0) (greater_of (i.low *ℤ i.low) (i.high *ℤ i.high)))
  across =
      let k = pos (n * n) in
      record {
        low = rw (zero-*ℤ k) (square-least x);
        high =
            rw (← greater-kept (λ z. z *ℤ k) (scale-keeps (n * n)) (i.low *ℤ i.low) (i.high *ℤ i.high))
            (by_sign x (λ s. ≤_trans _ _ _ (rw regroup at (squares-up x _ s h.high)) (greater-right _ (i.high *ℤ i.high *ℤ k)))
            (λ s. ≤_trans _ _ _ (rw regroup at (squares-down _ x s h.low)) (greater-left (i.low *ℤ i.low *ℤ k) _)));
      }

  pub square-holds : Between (square i) (n * n) (x *ℤ x)
  square-holds = by-case Squared i rising falling (λ _ _. across)

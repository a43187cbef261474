-- Smaller operands give a smaller result: if each operand lies inside another, the result of each of the four rules lies inside the other result.
use lib.IntN.{ℤ, ◌*ℤ◌}
use lib.Signed.{◌≤ℤ◌, ≤ℤ_refl}
use Rattle.integers.proofs.Ring.{times-one}
use Rattle.integers.proofs.Order.{≤_trans, +-mono, minus-mono, square-least, squares-up, squares-down}
use Rattle.integers.proofs.Least.{greater-either, greater-left, least-any, greatest-any, first-spanned}
use Rattle.interval.specs.Rules.{only, span, sum, difference, product, square}
use Rattle.interval.specs.Claims.{Between, Inside}
use Rattle.interval.specs.declared.Interval.{Interval}
use Rattle.interval.proofs.Inclusion.{product-holds, by-case, square-holds}

-- ---- a whole number of an interval
whole : {i : Interval} {a : ℤ} → i.low ≤ℤ a → a ≤ℤ i.high → Between i 1 a
whole {i} h k = record { low = rw (times-one i.low) h; high = rw (times-one i.high) k }

-- an interval lies inside another if its ends are in order and lie in the other
inside : {i j : Interval} → Between j 1 i.low → i.low ≤ℤ i.high → Between j 1 i.high → Inside i j
inside {i} {j} h o k = record { low = rw (times-one j.low) at h.low; ordered = o; high = rw (times-one j.high) at k.high }

low_end : {i j : Interval} → Inside i j → Between j 1 i.low
low_end h = whole h.low (≤_trans _ _ _ h.ordered h.high)

high_end : {i j : Interval} → Inside i j → Between j 1 i.high
high_end h = whole (≤_trans _ _ _ h.low h.ordered) h.high

-- ---- each rule
pub only-inside : (a : ℤ) → Inside (only a) (only a)
only-inside a = record { low = ≤ℤ_refl a; ordered = ≤ℤ_refl a; high = ≤ℤ_refl a }

module _ {i j k l : Interval} (h : Inside i j) (g : Inside k l) where
  pub sum_inside : Inside (sum i k) (sum j l)
  unfolding sum
  sum_inside = record { low = +-mono _ _ _ _ h.low g.low; ordered = +-mono _ _ _ _ h.ordered g.ordered; high = +-mono _ _ _ _ h.high g.high }

  pub difference_inside : Inside (difference i k) (difference j l)
  unfolding difference
  difference_inside = record { low = minus-mono _ _ _ _ h.low g.high; ordered = minus-mono _ _ _ _ h.ordered g.ordered; high = minus-mono _ _ _ _ h.high g.low }

  -- each of the four products of ends is a product of numbers of the larger intervals
  pub product_inside : Inside (product i k) (product j l)
  unfolding product span
  product_inside =
      let ac = product-holds (low_end h) (low_end g) in
      let ad = product-holds (low_end h) (high_end g) in
      let bc = product-holds (high_end h) (low_end g) in
      let bd = product-holds (high_end h) (high_end g) in
      let o = first-spanned (i.low *ℤ k.low) (i.low *ℤ k.high) (i.high *ℤ k.low) (i.high *ℤ k.high) in
      inside (least-any (Between (product j l) 1) _ _ _ _ ac ad bc bd) (≤_trans _ _ _ o.0 o.1) (greatest-any (Between (product j l) 1) _ _ _ _ ac ad bc bd)

pub square-inside : {i j : Interval} → Inside i j → Inside (square i) (square j)
square-inside {i} {j} h =
    let aa = square-holds (low_end h) in
    let bb = square-holds (high_end h) in
    by-case (λ s. Inside s (square j)) i (λ z. inside aa (squares-up i.low i.high z h.ordered) bb) (λ z. inside bb (squares-down i.low i.high z h.ordered) aa)
    (λ y z.
    let zero = square-holds (whole (≤_trans _ _ _ h.low y) (≤_trans _ _ _ z h.high)) in
    let ordered = ≤_trans _ _ _ (square-least i.low) (greater-left (i.low *ℤ i.low) (i.high *ℤ i.high)) in
    inside zero ordered (greater-either (Between (square j) 1) _ _ aa bb))

-- The rules are as narrow as possible: each end is the result for some numbers of the operands. Together with `Inclusion` this leaves no other interval.
use mathlib.Core.Path.{◌≡◌, refl}
use lib.IntN.{ℤ, pos, ◌+ℤ◌, ◌-ℤ◌, ◌*ℤ◌}
use lib.Signed.{◌≤ℤ◌, ≤ℤ_refl}
use Rattle.integers.proofs.Least.{greater-either, least-any, greatest-any}
use Rattle.interval.specs.Rules.{span, sum, difference, product, square}
use Rattle.interval.specs.declared.Interval.{Interval}
use Rattle.interval.proofs.Inclusion.{by-case}

-- z is `op` of a number of i and a number of j
pub record Reached (op : ℤ → ℤ → ℤ) (i j : Interval) (z : ℤ) : Type 0 where
  pub a : ℤ
  pub b : ℤ
  pub a-low : i.low ≤ℤ a
  pub a-high : a ≤ℤ i.high
  pub b-low : j.low ≤ℤ b
  pub b-high : b ≤ℤ j.high
  pub is : op a b ≡ z

abbrev pub Ends : (ℤ → ℤ → ℤ) → Interval → Interval → Interval → Type 0
Ends op i j k = Reached op i j k.low × Reached op i j k.high

module _ (i j : Interval) (hi : i.low ≤ℤ i.high) (hj : j.low ≤ℤ j.high) where
  module _ (op : ℤ → ℤ → ℤ) where
    low-low : Reached op i j (op i.low j.low)
    low-low = record { a = i.low; b = j.low; a-low = ≤ℤ_refl i.low; a-high = hi; b-low = ≤ℤ_refl j.low; b-high = hj; is = refl }

    low-high : Reached op i j (op i.low j.high)
    low-high = record { a = i.low; b = j.high; a-low = ≤ℤ_refl i.low; a-high = hi; b-low = hj; b-high = ≤ℤ_refl j.high; is = refl }

    high-low : Reached op i j (op i.high j.low)
    high-low = record { a = i.high; b = j.low; a-low = hi; a-high = ≤ℤ_refl i.high; b-low = ≤ℤ_refl j.low; b-high = hj; is = refl }

    high-high : Reached op i j (op i.high j.high)
    high-high = record { a = i.high; b = j.high; a-low = hi; a-high = ≤ℤ_refl i.high; b-low = hj; b-high = ≤ℤ_refl j.high; is = refl }

  pub sum-reached : Ends ◌+ℤ◌ i j (sum i j)
  unfolding sum
  sum-reached = (low-low ◌+ℤ◌, high-high ◌+ℤ◌)

  pub difference-reached : Ends ◌-ℤ◌ i j (difference i j)
  unfolding difference
  difference-reached = (low-high ◌-ℤ◌, high-low ◌-ℤ◌)

  pub product-reached : Ends ◌*ℤ◌ i j (product i j)
  unfolding product span
  product-reached =
      let op : ℤ → ℤ → ℤ = ◌*ℤ◌ in
      (least-any (Reached op i j) _ _ _ _ (low-low op) (low-high op) (high-low op) (high-high op), greatest-any (Reached op i j) _ _ _ _ (low-low op) (low-high op) (high-low op) (high-high op))

-- the first of the two numbers, times itself
pub square-reached : (i : Interval) → i.low ≤ℤ i.high → Ends (λ a b. a *ℤ a) i i (square i)
square-reached i h =
    let op : ℤ → ℤ → ℤ = (λ a b. a *ℤ a) in
    let low : Reached op i i (i.low *ℤ i.low) = low-low i i h h op in
    let high : Reached op i i (i.high *ℤ i.high) = high-high i i h h op in
    by-case (Ends op i i) i (λ z. (low, high)) (λ z. (high, low))
    (λ l u. (record { a = pos 0; b = pos 0; a-low = l; a-high = u; b-low = l; b-high = u; is = refl }, greater-either (Reached op i i) _ _ low high))

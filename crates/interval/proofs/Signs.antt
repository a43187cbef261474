-- The product by the signs of its operands: which products of ends are the least and the greatest, in each of the nine cases. Here an operand is above zero
-- if it is nowhere negative, and below zero if it is nowhere positive; one of which neither is true has zero strictly inside, and is called across zero.
use mathlib.Core.Path.{◌≡◌, ap₂, ◌∙◌}
use lib.IntN.{ℤ, pos, ◌*ℤ◌, *ℤ_comm}
use lib.Signed.{◌≤ℤ◌}
use Rattle.integers.specs.Least.{lesser_of, greater_of}
use Rattle.integers.proofs.Order.{≤_trans, *-keeps, *-turns, *-keeps-left, *-turns-left}
use Rattle.integers.proofs.Least.{lesser-first, lesser-second, greater-first, greater-second, lesser-commutes, greater-commutes, least-crossed, greatest-crossed}
use Rattle.interval.specs.Rules.{from, span, product}
use Rattle.interval.specs.declared.Interval.{Interval}

-- ---- the order of the operands, and of their ends, does not matter
pub product-commutes : (i j : Interval) → product i j ≡ product j i
unfolding product span
product-commutes i j =
    rw (*ℤ_comm j.low i.low, *ℤ_comm j.low i.high, *ℤ_comm j.high i.low, *ℤ_comm j.high i.high)
    (ap₂ from (least-crossed _ _ _ _) (greatest-crossed _ _ _ _))

pub product-swapped : (i j : Interval) → product (from i.high i.low) j ≡ product i j
unfolding product span
product-swapped i j = ap₂ from (lesser-commutes _ _) (greater-commutes _ _)

-- ---- two products with a common factor are in order, by the sign of the factor
-- the lesser and the greater of p and q
abbrev Ends : ℤ → ℤ → ℤ → ℤ → Type 0
Ends p q low high = (lesser_of p q ≡ low) × (greater_of p q ≡ high)

in_order : (p q : ℤ) → p ≤ℤ q → Ends p q p q
in_order p q h = (lesser-first p q h, greater-second p q h)

turned : (p q : ℤ) → q ≤ℤ p → Ends p q q p
turned p q h = (lesser-second p q h, greater-first p q h)

module _ (i j : Interval) (oi : i.low ≤ℤ i.high) (oj : j.low ≤ℤ j.high) where
  abbrev a : ℤ
  a = i.low

  abbrev b : ℤ
  b = i.high

  abbrev c : ℤ
  c = j.low

  abbrev d : ℤ
  d = j.high

  -- ---- by the sign of the first operand: which end of the second each end of the first is multiplied by
  joined : {k l m n : ℤ} → Ends (a *ℤ c) (a *ℤ d) k l → Ends (b *ℤ c) (b *ℤ d) m n → product i j ≡ from (lesser_of k m) (greater_of l n)
  unfolding product span
  joined x y = ap₂ from (ap₂ lesser_of x.0 y.0) (ap₂ greater_of x.1 y.1)

  rising : (k : ℤ) → pos 0 ≤ℤ k → Ends (k *ℤ c) (k *ℤ d) (k *ℤ c) (k *ℤ d)
  rising k s = in_order _ _ (*-keeps-left k c d s oj)

  falling : (k : ℤ) → k ≤ℤ pos 0 → Ends (k *ℤ c) (k *ℤ d) (k *ℤ d) (k *ℤ c)
  falling k s = turned _ _ (*-turns-left k c d s oj)

  above : pos 0 ≤ℤ a → product i j ≡ from (lesser_of (a *ℤ c) (b *ℤ c)) (greater_of (a *ℤ d) (b *ℤ d))
  above s = joined (rising a s) (rising b (≤_trans _ _ _ s oi))

  below : b ≤ℤ pos 0 → product i j ≡ from (lesser_of (a *ℤ d) (b *ℤ d)) (greater_of (a *ℤ c) (b *ℤ c))
  below s = joined (falling a (≤_trans _ _ _ oi s)) (falling b s)

  -- ---- then by the sign of the second: which end of the first its factor is multiplied by
  module _ (k : ℤ) where
    up : pos 0 ≤ℤ k → Ends (a *ℤ k) (b *ℤ k) (a *ℤ k) (b *ℤ k)
    up s = in_order _ _ (*-keeps k a b s oi)

    down : k ≤ℤ pos 0 → Ends (a *ℤ k) (b *ℤ k) (b *ℤ k) (a *ℤ k)
    down s = turned _ _ (*-turns k a b s oi)

  pub above-above : pos 0 ≤ℤ a → pos 0 ≤ℤ c → product i j ≡ from (a *ℤ c) (b *ℤ d)
  above-above s t = above s ∙ ap₂ from (up c t).0 (up d (≤_trans _ _ _ t oj)).1

  pub above-below : pos 0 ≤ℤ a → d ≤ℤ pos 0 → product i j ≡ from (b *ℤ c) (a *ℤ d)
  above-below s t = above s ∙ ap₂ from (down c (≤_trans _ _ _ oj t)).0 (down d t).1

  pub above-across : pos 0 ≤ℤ a → c ≤ℤ pos 0 → pos 0 ≤ℤ d → product i j ≡ from (b *ℤ c) (b *ℤ d)
  above-across s t u = above s ∙ ap₂ from (down c t).0 (up d u).1

  pub below-above : b ≤ℤ pos 0 → pos 0 ≤ℤ c → product i j ≡ from (a *ℤ d) (b *ℤ c)
  below-above s t = below s ∙ ap₂ from (up d (≤_trans _ _ _ t oj)).0 (up c t).1

  pub below-below : b ≤ℤ pos 0 → d ≤ℤ pos 0 → product i j ≡ from (b *ℤ d) (a *ℤ c)
  below-below s t = below s ∙ ap₂ from (down d t).0 (down c (≤_trans _ _ _ oj t)).1

  pub below-across : b ≤ℤ pos 0 → c ≤ℤ pos 0 → pos 0 ≤ℤ d → product i j ≡ from (a *ℤ d) (a *ℤ c)
  below-across s t u = below s ∙ ap₂ from (up d u).0 (down c t).1

  -- with zero inside the first operand, four products are compared
  pub across-across : a ≤ℤ pos 0 → pos 0 ≤ℤ b → product i j ≡ from (lesser_of (a *ℤ d) (b *ℤ c)) (greater_of (a *ℤ c) (b *ℤ d))
  across-across s t = joined (falling a s) (rising b t)

-- with zero inside the first operand alone, the operands change places
module _ (i j : Interval) (oi : i.low ≤ℤ i.high) (oj : j.low ≤ℤ j.high) (s : i.low ≤ℤ pos 0) (t : pos 0 ≤ℤ i.high) where
  pub across-above : pos 0 ≤ℤ j.low → product i j ≡ from (i.low *ℤ j.high) (i.high *ℤ j.high)
  across-above u = product-commutes i j ∙ above-across j i oj oi u s t ∙ ap₂ from (*ℤ_comm j.high i.low) (*ℤ_comm j.high i.high)

  pub across-below : j.high ≤ℤ pos 0 → product i j ≡ from (i.high *ℤ j.low) (i.low *ℤ j.low)
  across-below u = product-commutes i j ∙ below-across j i oj oi u s t ∙ ap₂ from (*ℤ_comm j.low i.high) (*ℤ_comm j.low i.low)

-- At a point the rules are exact: from intervals of one number each they give the interval of just the sum, the difference, the product or the square.
use mathlib.Core.Path.{◌≡◌, refl, ap₂}
use lib.Dec.{leb-zero}
use lib.IntN.{ℤ, pos, negsuc, ◌+ℤ◌, ◌-ℤ◌, ◌*ℤ◌}
use Rattle.integers.proofs.Least.{least-any, greatest-any}
use Rattle.interval.specs.Rules.{from, only, span, sum, difference, product, square}

module _ (a b : ℤ) where
  pub sum-at-point : sum (only a) (only b) ≡ only (a +ℤ b)
  unfolding sum
  sum-at-point = refl

  pub difference-at-point : difference (only a) (only b) ≡ only (a -ℤ b)
  unfolding difference
  difference-at-point = refl

  pub product-at-point : product (only a) (only b) ≡ only (a *ℤ b)
  unfolding product span
  product-at-point = ap₂ from (least-any (λ z. z ≡ a *ℤ b) _ _ _ _ refl refl refl refl) (greatest-any (λ z. z ≡ a *ℤ b) _ _ _ _ refl refl refl refl)

pub square-at-point : (a : ℤ) → square (only a) ≡ only (a *ℤ a)
unfolding square
square-at-point (pos a) = rw (leb-zero a)
square-at-point (negsuc a) = refl

-- The limits of root and depth as numbers, one per line: a root is in limits exactly if all of them hold.
use mathlib.Core.Path.{◌≡◌}
use mathlib.Core.Bool.{true, false}
use borrow.Author.Tests.{le-leb}
use Rattle.integers.proofs.Order.{le_test, by-test}
use Rattle.cube.specs.declared.Root.{Root}
use Rattle.cube.specs.Limits.{axis_fits, sizes_fit, in_limits, WithinLimits}
use Rattle.cube.proofs.Limits.{limits-sizes, limits-x, limits-y, limits-z}

pub within-limits : (r : Root) → in_limits r ≡ true → WithinLimits r
within-limits r e = record {
  k-most = (limits-sizes r e).0;
  d-most = (limits-sizes r e).1;
  d-below = (limits-sizes r e).2;
  x-least = (limits-x r e).0;
  y-least = (limits-y r e).0;
  z-least = (limits-z r e).0;
  x-most = (limits-x r e).1;
  y-most = (limits-y r e).1;
  z-most = (limits-z r e).1;
}

pub limits-within : (r : Root) → WithinLimits r → in_limits r ≡ true
unfolding in_limits sizes_fit axis_fits
limits-within r w = rw (
  le-leb _ _ w.k-most,
  le-leb _ _ w.d-most,
  le-leb _ _ w.d-below,
  le_test _ _ w.x-least,
  le_test _ _ w.x-most,
  le_test _ _ w.y-least,
  le_test _ _ w.y-most,
  le_test _ _ w.z-least,
  le_test _ _ w.z-most,
)

pub out-of-limits : (r : Root) → (WithinLimits r → ⊥) → in_limits r ≡ false
out-of-limits r h = by-test (in_limits r) (λ t. absurd (h (within-limits r t))) (λ t. t)

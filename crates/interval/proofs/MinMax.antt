-- The library's `min` and `max` are the lesser and the greater of two numbers, and what they returned, passed on.
use mathlib.Core.Path.{◌≡◌, ap₂, ◌∙◌}
use Prim.Native.Nat.{◌<◌, ◌^◌}
use lib.IntN.{ℤ}
use lib.Signed.{mag, le_z}
use mir.Syntax.{w64}
use mir.Val.{to_z, of_z}
use Rattle.std.specs.Int.{int_min, int_max}
use Rattle.integers.specs.Least.{lesser_of, greater_of}
use Rattle.integers.proofs.Order.{by-test, le_z-true, le_z-above, lt_test, ge-test}
use Rattle.integers.proofs.Machine.{again}

module _ (a b : ℤ) where
  min-is : int_min a b ≡ lesser_of a b
  unfolding lesser_of
  min-is = by-test (le_z a b) (λ t. rw (t, ge-test b a (le_z-true a b t))) (λ t. rw (t, lt_test b a (le_z-above a b t)))

  max-is : int_max a b ≡ greater_of a b
  unfolding greater_of
  max-is = by-test (le_z a b) (λ t. rw (t, ge-test b a (le_z-true a b t))) (λ t. rw (t, lt_test b a (le_z-above a b t)))

-- r was returned for x and y
module _ (r x y a b : ℤ) (f : mag r < 2 ^ 63) (p : to_z w64 (of_z w64 x) ≡ a) (q : to_z w64 (of_z w64 y) ≡ b) where
  pub lesser-told : r ≡ int_min (to_z w64 (of_z w64 x)) (to_z w64 (of_z w64 y)) → to_z w64 (of_z w64 r) ≡ lesser_of a b
  lesser-told e = again w64 r (lesser_of a b) (e ∙ ap₂ int_min p q ∙ min-is a b) f

  pub greater-told : r ≡ int_max (to_z w64 (of_z w64 x)) (to_z w64 (of_z w64 y)) → to_z w64 (of_z w64 r) ≡ greater_of a b
  greater-told e = again w64 r (greater_of a b) (e ∙ ap₂ int_max p q ∙ max-is a b) f

pub greater-is : (r x y : ℤ) → r ≡ int_max x y → r ≡ greater_of x y
greater-is r x y e = e ∙ max-is x y

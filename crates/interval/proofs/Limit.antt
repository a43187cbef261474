-- Laws of the limit: what the test of a number says, that the machine keeps numbers within the limit unchanged, and that a clamped number serves as well as
-- the number itself if only the limit matters.
use mathlib.Core.Path.{◌≡◌, refl, sym}
use mathlib.Core.Bool.{true, false}
use Prim.Native.Nat.{◌+◌, ◌≤◌, ◌<◌, ◌^◌}
use native.Mathlib.Omega.{arith}
use borrow.Author.Tests.{leb-true, leb-false, le-leb, lt-leb}
use lib.IntN.{ℤ, pos, negsuc, neg_ℤ, nat_abs, ◌+ℤ◌, ◌-ℤ◌}
use lib.Signed.{◌≤ℤ◌}
use mir.Syntax.{w64}
use mir.Val.{SFits, to_z, of_z}
use Rattle.integers.proofs.Naturals.{ints, abs_is, abs-+, abs-minus}
use Rattle.integers.proofs.Order.{by-test}
use Rattle.integers.proofs.Machine.{fits, back, result-back}
use Rattle.interval.specs.Rules.{from}
use Rattle.interval.specs.Limit.{is_small, past_end, bounded_of}
use Rattle.interval.specs.Inner.{clamp_of}

-- ---- the test of a number
pub small-true : (z : ℤ) → is_small z ≡ true → nat_abs z ≤ 2 ^ 60
unfolding is_small
small-true z t = leb-true (nat_abs z) (2 ^ 60) t

pub small-false : (z : ℤ) → is_small z ≡ false → 2 ^ 60 < nat_abs z
unfolding is_small
small-false z t = leb-false (nat_abs z) (2 ^ 60) t

pub small-test : (z : ℤ) → nat_abs z ≤ 2 ^ 60 → is_small z ≡ true
unfolding is_small
small-test z h = le-leb (nat_abs z) (2 ^ 60) h

pub large-test : (z : ℤ) → 2 ^ 60 < nat_abs z → is_small z ≡ false
unfolding is_small
large-test z h = lt-leb (nat_abs z) (2 ^ 60) h

-- ---- numbers within the limit in the machine, which reads each back from its bits: no sum and no difference of two wraps
pub limit-fits : (a : ℤ) → nat_abs a ≤ 2 ^ 60 → SFits w64 a
limit-fits a h = fits w64 a (omega arith)

pub limit-back : (a : ℤ) → nat_abs a ≤ 2 ^ 60 → to_z w64 (of_z w64 a) ≡ a
limit-back a h = back w64 a (omega arith)

module _ (a b : ℤ) (ha : nat_abs a ≤ 2 ^ 60) (hb : nat_abs b ≤ 2 ^ 60) where
  plain-sum : SFits w64 (a +ℤ b)
  plain-sum = fits w64 (a +ℤ b) (omega (arith, abs-+ a b))

  plain-difference : SFits w64 (a -ℤ b)
  plain-difference = fits w64 (a -ℤ b) (omega (arith, abs-minus a b))

  pub sum_back : to_z w64 (of_z w64 (to_z w64 (of_z w64 a) +ℤ to_z w64 (of_z w64 b))) ≡ a +ℤ b
  sum_back = result-back w64 ◌+ℤ◌ a b (limit-fits a ha) (limit-fits b hb) plain-sum

  pub difference-back : to_z w64 (of_z w64 (to_z w64 (of_z w64 a) -ℤ to_z w64 (of_z w64 b))) ≡ a -ℤ b
  difference-back = result-back w64 ◌-ℤ◌ a b (limit-fits a ha) (limit-fits b hb) plain-difference

-- ---- the clamp
abbrev above : ℤ
above = pos (2 ^ 60 + 1)

abbrev below : ℤ
below = neg_ℤ above

-- what holds of z within the limit, and of the number that replaces z past it, holds of z clamped
clamp-cases : (P : ℤ → Type 0) (z : ℤ) → (below ≤ℤ z → z ≤ℤ above → P z) → (above ≤ℤ z → P above) → (z ≤ℤ below → P below) → P (clamp_of z)
unfolding clamp_of
clamp-cases P (pos n) exact high low =
    by-test (is_small (pos n)) (λ t. rw t (exact (omega (arith, ints)) (omega (arith, ints, small-true (pos n) t))))
    (λ t. rw t (high (omega (arith, ints, small-false (pos n) t))))
clamp-cases P (negsuc n) exact high low =
    by-test (is_small (negsuc n)) (λ t. rw t (exact (omega (arith, ints, small-true (negsuc n) t)) (omega (arith, ints))))
    (λ t. rw t (low (omega (arith, ints, small-false (negsuc n) t))))

pub clamp-keeps : (a b : ℤ) → a ≤ℤ b → clamp_of a ≤ℤ clamp_of b
clamp-keeps a b h =
    clamp-cases (λ x. x ≤ℤ clamp_of b) a (λ s t. clamp-cases (λ y. a ≤ℤ y) b (λ u v. h) (λ u. t) (λ u. omega (arith, ints)))
    (λ s. clamp-cases (λ y. above ≤ℤ y) b (λ u v. omega (arith, ints)) (λ u. omega (arith, ints)) (λ u. omega (arith, ints)))
    (λ s. clamp-cases (λ y. below ≤ℤ y) b (λ u v. u) (λ u. omega (arith, ints)) (λ u. omega (arith, ints)))

pub clamp-same : (z : ℤ) → is_small z ≡ true → clamp_of z ≡ z
unfolding clamp_of
clamp-same z t = rw t

clamp-small : (z : ℤ) → is_small (clamp_of z) ≡ is_small z
unfolding is_small
clamp-small z =
    clamp-cases (λ x. is_small x ≡ is_small z) z (λ s t. refl) (λ s. sym (large-test z (omega (arith, ints, abs_is z)))) (λ s. sym (large-test z (omega (arith, ints, abs_is z))))

-- an interval may be tested against the limit with its ends clamped: it is the same interval, or the same end is past
pub bounded-clamped : (l h : ℤ) → bounded_of (from (clamp_of l) (clamp_of h)) ≡ bounded_of (from l h)
unfolding bounded_of past_end
bounded-clamped l h =
    by-test (is_small l)
    (λ s. by-test (is_small h) (λ t. rw (clamp-same l s, clamp-same h t)) (λ t. rw (clamp-small l, clamp-small h, s, t)))
    (λ s. rw (clamp-small l, s))

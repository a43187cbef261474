-- Laws of the order of the integers that `lib.Signed` lacks, and what its tests mean.
use mathlib.Core.Path.{◌≡◌, refl}
use mathlib.Core.Bool.{Bool, true, false, true≢false}
use Prim.Native.Nat.{ℕ, zero, suc, ◌*◌, ◌<◌}
use native.Mathlib.Nat.{mul-le-mul_right, mul-pos}
use native.Mathlib.Omega.{arith}
use borrow.Author.Tests.{leb-false, ltb-true, ltb-false}
use lib.Dec.{T}
use lib.IntN.{ℤ, pos, negsuc, neg_ℤ, ◌+ℤ◌, ◌-ℤ◌, ◌*ℤ◌, *ℤ_comm, zero-*ℤ}
use lib.Signed.{le_z, lt_z, non_neg, ◌≤ℤ◌, ◌<ℤ◌, clash_ℤ}
use Rattle.integers.proofs.Naturals.{ints, ≤-in, ≤-out, <-in, <-out, +-is, minus_is, *-is}
use Rattle.integers.proofs.Ring.{*-assoc}

-- ---- the order by itself
pub ≤_trans : (a b c : ℤ) → a ≤ℤ b → b ≤ℤ c → a ≤ℤ c
≤_trans a b c h k = omega (arith, ints)

pub ≤-both : (a b : ℤ) → a ≤ℤ b → b ≤ℤ a → a ≡ b
≤-both a b h k = omega (arith, ints)

-- case split: a number is not negative, or not positive
pub by_sign : {A : Type 0} (k : ℤ) → (pos 0 ≤ℤ k → A) → (k ≤ℤ pos 0 → A) → A
by_sign (pos n) f g = f (≤-out (pos 0) (pos n) (omega arith))
by_sign (negsuc n) f g = g (≤-out (negsuc n) (pos 0) (omega arith))

-- ---- its tests
-- case split: a test passes or fails
pub by-test : {A : Type 0} (b : Bool) → (b ≡ true → A) → (b ≡ false → A) → A
by-test true f g = f refl
by-test false f g = g refl

pub T_true : (b : Bool) → T b → b ≡ true
T_true true t = refl
T_true false t = absurd t

pub le_z-true : (a b : ℤ) → le_z a b ≡ true → a ≤ℤ b
le_z-true a b p = record { le = rw p tt }

pub le_z-above : (a b : ℤ) → le_z a b ≡ false → b <ℤ a
le_z-above (pos a) (pos b) p = <-out (pos b) (pos a) (omega (arith, leb-false))
le_z-above (pos a) (negsuc b) p = <-out (negsuc b) (pos a) (omega arith)
le_z-above (negsuc a) (pos b) p = absurd (true≢false p)
le_z-above (negsuc a) (negsuc b) p = <-out (negsuc b) (negsuc a) (omega (arith, leb-false))

pub le_z-false : (a b : ℤ) → le_z a b ≡ false → b ≤ℤ a
le_z-false a b p = omega (arith, ints, le_z-above a b p)

pub lt_z-true : (a b : ℤ) → lt_z a b ≡ true → a <ℤ b
lt_z-true a b p = record { lt = rw p tt }

pub lt_z-false : (a b : ℤ) → lt_z a b ≡ false → b ≤ℤ a
lt_z-false (pos a) (pos b) p = ≤-out (pos b) (pos a) (omega (arith, ltb-false))
lt_z-false (pos a) (negsuc b) p = ≤-out (negsuc b) (pos a) (omega arith)
lt_z-false (negsuc a) (pos b) p = absurd (true≢false p)
lt_z-false (negsuc a) (negsuc b) p = ≤-out (negsuc b) (negsuc a) (omega (arith, ltb-false))

pub le_test : (a b : ℤ) → a ≤ℤ b → le_z a b ≡ true
le_test a b h = T_true (le_z a b) h.le

pub gt-test : (a b : ℤ) → b <ℤ a → le_z a b ≡ false
gt-test a b h = by-test (le_z a b) (λ t. clash_ℤ h (le_z-true a b t)) (λ t. t)

pub lt_test : (a b : ℤ) → a <ℤ b → lt_z a b ≡ true
lt_test a b h = T_true (lt_z a b) h.lt

pub ge-test : (a b : ℤ) → b ≤ℤ a → lt_z a b ≡ false
ge-test a b h = by-test (lt_z a b) (λ t. clash_ℤ (lt_z-true a b t) h) (λ t. t)

-- the sign, as a cast to unsigned requires it
pub negative : (a : ℤ) → lt_z a (pos 0) ≡ true → T (non_neg (neg_ℤ a))
negative (pos n) t = let z : ⊥ = omega (arith, ltb-true) in absurd z
negative (negsuc n) t = tt

pub not_negative : (a : ℤ) → lt_z a (pos 0) ≡ false → T (non_neg a)
not_negative (pos n) t = tt
not_negative (negsuc n) t = absurd (true≢false t)

-- ---- sums, differences and products
pub +-mono : (a b c d : ℤ) → a ≤ℤ b → c ≤ℤ d → (a +ℤ c) ≤ℤ (b +ℤ d)
+-mono a b c d h k = omega (arith, ints, +-is a c, +-is b d)

pub minus-mono : (a b c d : ℤ) → a ≤ℤ b → c ≤ℤ d → (a -ℤ d) ≤ℤ (b -ℤ c)
minus-mono a b c d h k = omega (arith, ints, minus_is a d, minus_is b c)

-- a factor that is not negative keeps the order, and one that is not positive reverses it
pub *-keeps : (k a b : ℤ) → pos 0 ≤ℤ k → a ≤ℤ b → (a *ℤ k) ≤ℤ (b *ℤ k)
*-keeps (pos n) a b s h = omega (arith, ints, *-is a (pos n), *-is b (pos n), mul-le-mul_right n (≤-in a b h))
*-keeps (negsuc n) a b s h = absurd s.le

pub *-turns : (k a b : ℤ) → k ≤ℤ pos 0 → a ≤ℤ b → (b *ℤ k) ≤ℤ (a *ℤ k)
*-turns (pos zero) a b s h = omega (arith, ints, *-is a (pos 0), *-is b (pos 0))
*-turns (pos (suc n)) a b s h = let z : ⊥ = omega (arith, ints) in absurd z
*-turns (negsuc n) a b s h = omega (arith, ints, *-is a (negsuc n), *-is b (negsuc n), mul-le-mul_right (suc n) (≤-in a b h))

-- the same of a factor on the left
pub *-keeps-left : (k a b : ℤ) → pos 0 ≤ℤ k → a ≤ℤ b → (k *ℤ a) ≤ℤ (k *ℤ b)
*-keeps-left k a b s h = rw (*ℤ_comm k a, *ℤ_comm k b) (*-keeps k a b s h)

pub *-turns-left : (k a b : ℤ) → k ≤ℤ pos 0 → a ≤ℤ b → (k *ℤ b) ≤ℤ (k *ℤ a)
*-turns-left k a b s h = rw (*ℤ_comm k a, *ℤ_comm k b) (*-turns k a b s h)

-- ---- a natural number as a scale factor
pub scale-keeps : (n : ℕ) (a b : ℤ) → a ≤ℤ b → (a *ℤ pos n) ≤ℤ (b *ℤ pos n)
scale-keeps n a b h = *-keeps (pos n) a b (≤-out (pos 0) (pos n) (omega arith)) h

pub at-least-zero : (a : ℤ) (n : ℕ) → pos 0 ≤ℤ a → pos 0 ≤ℤ (a *ℤ pos n)
at-least-zero a n h = rw zero-*ℤ at (scale-keeps n (pos 0) a h)

pub at-most-zero : (a : ℤ) (n : ℕ) → a ≤ℤ pos 0 → (a *ℤ pos n) ≤ℤ pos 0
at-most-zero a n h = rw zero-*ℤ at (scale-keeps n a (pos 0) h)

pub above_zero : (a : ℤ) (n : ℕ) → pos 0 <ℤ a → 0 < n → pos 0 <ℤ (a *ℤ pos n)
above_zero (pos a) n h k = <-out (pos 0) (pos (a * n)) (omega (arith, mul-pos {m = a} {n = n} (omega (arith, <-in (pos 0) (pos a) h)) k))
above_zero (negsuc a) n h k = absurd h.lt

pub below-zero : (a : ℤ) (n : ℕ) → a <ℤ pos 0 → 0 < n → (a *ℤ pos n) <ℤ pos 0
below-zero a n h k = omega (arith, ints, scale-keeps n a (negsuc 0) (omega (arith, ints)), *-is (negsuc 0) (pos n))

-- a number and a positive multiple of it are on the same side of 0
pub same-sign-strict : (a : ℤ) (n : ℕ) → 0 < n → lt_z (a *ℤ pos n) (pos 0) ≡ lt_z a (pos 0)
same-sign-strict a n h =
    by-test (lt_z a (pos 0))
    (λ t. rw t (lt_test (a *ℤ pos n) (pos 0) (below-zero a n (lt_z-true a (pos 0) t) h)))
    (λ t. rw t (ge-test (a *ℤ pos n) (pos 0) (at-least-zero a n (lt_z-false a (pos 0) t))))

pub same_sign : (a : ℤ) (n : ℕ) → 0 < n → le_z (a *ℤ pos n) (pos 0) ≡ le_z a (pos 0)
same_sign a n h =
    by-test (le_z a (pos 0))
    (λ t. rw t (le_test (a *ℤ pos n) (pos 0) (at-most-zero a n (le_z-true a (pos 0) t))))
    (λ t. rw t (gt-test (a *ℤ pos n) (pos 0) (above_zero a n (le_z-above a (pos 0) t) h)))

-- a bound in n-th parts, restated on a scale that is m times finer
pub finer-low : (a b : ℤ) (n m : ℕ) → (a *ℤ pos n) ≤ℤ b → (a *ℤ pos (n * m)) ≤ℤ (b *ℤ pos m)
finer-low a b n m h = rw (*-assoc a (pos n) (pos m)) at (scale-keeps m (a *ℤ pos n) b h)

pub finer-high : (a b : ℤ) (n m : ℕ) → b ≤ℤ (a *ℤ pos n) → (b *ℤ pos m) ≤ℤ (a *ℤ pos (n * m))
finer-high a b n m h = rw (*-assoc a (pos n) (pos m)) at (scale-keeps m b (a *ℤ pos n) h)

-- ---- squares
pub square-least : (a : ℤ) → pos 0 ≤ℤ (a *ℤ a)
square-least (pos a) = ≤-out (pos 0) (pos (a * a)) (omega arith)
square-least (negsuc a) = ≤-out (pos 0) (pos (suc a * suc a)) (omega arith)

pub squares-up : (u v : ℤ) → pos 0 ≤ℤ u → u ≤ℤ v → (u *ℤ u) ≤ℤ (v *ℤ v)
squares-up u v z h = ≤_trans _ _ _ (*-keeps u u v z h) (rw (*ℤ_comm v u) (*-keeps v u v (≤_trans _ _ _ z h) h))

pub squares-down : (u v : ℤ) → v ≤ℤ pos 0 → u ≤ℤ v → (v *ℤ v) ≤ℤ (u *ℤ u)
squares-down u v z h = ≤_trans _ _ _ (*-turns v u v z h) (rw (*ℤ_comm u v) (*-turns u u v (≤_trans _ _ _ h z) h))

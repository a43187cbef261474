-- Integers as differences of naturals, since `omega` does not read ℤ. An integer z is  up z - dn z,  where one of the two is 0.
-- Each law restates a fact about integers as one about these naturals. Listed after `arith`, the ruleset `ints` makes omega turn each order and equation of integers,
-- in the goal and in the hypotheses, into one of naturals; `+-is a b`, `minus_is a b`, `*-is a b`, `neg_is a` and `abs_is a` are facts, one for each
-- sum, difference, product, negation and magnitude in the goal.
use mathlib.Core.Path.{◌≡◌, refl, ap, subst}
use mathlib.Core.Bool.{Bool, true, false, not, cond}
use Prim.Native.Nat.{ℕ, zero, suc, ◌+◌, ◌*◌, ◌-◌, ◌≤◌, ◌<◌}
use native.Mathlib.Omega.{arith}
use lib.Dec.{T, ltb, leb→le, le→leb, ltb→lt, lt→ltb, nltb→le}
use lib.IntN.{ℤ, pos, negsuc, neg_ℤ, nat_abs, sub_ℕ, ◌+ℤ◌, ◌-ℤ◌, ◌*ℤ◌}
use lib.Signed.{◌≤ℤ◌, ◌<ℤ◌, le_z, lt_z}

abbrev pub up : ℤ → ℕ
up (pos n) = n
up (negsuc n) = 0

abbrev pub dn : ℤ → ℕ
dn (pos n) = 0
dn (negsuc n) = suc n

-- ---- the orders and the equation
≤-in' : (a b : ℤ) → T (le_z a b) → up a + dn b ≤ up b + dn a
≤-in' (pos a) (pos b) t = omega (arith, leb→le a b t)
≤-in' (pos a) (negsuc b) t = absurd t
≤-in' (negsuc a) (pos b) t = omega arith
≤-in' (negsuc a) (negsuc b) t = omega (arith, leb→le b a t)

pub ≤-in : (a b : ℤ) → a ≤ℤ b → up a + dn b ≤ up b + dn a
≤-in a b h = ≤-in' a b h.le

≤-out' : (a b : ℤ) → up a + dn b ≤ up b + dn a → T (le_z a b)
≤-out' (pos a) (pos b) h = le→leb a b (omega arith)
≤-out' (pos a) (negsuc b) h = let z : ⊥ = omega arith in absurd z
≤-out' (negsuc a) (pos b) h = tt
≤-out' (negsuc a) (negsuc b) h = le→leb b a (omega arith)

pub ≤-out : (a b : ℤ) → up a + dn b ≤ up b + dn a → a ≤ℤ b
≤-out a b h = record { le = ≤-out' a b h }

<-in' : (a b : ℤ) → T (lt_z a b) → up a + dn b < up b + dn a
<-in' (pos a) (pos b) t = omega (arith, ltb→lt a b t)
<-in' (pos a) (negsuc b) t = absurd t
<-in' (negsuc a) (pos b) t = omega arith
<-in' (negsuc a) (negsuc b) t = omega (arith, ltb→lt b a t)

pub <-in : (a b : ℤ) → a <ℤ b → up a + dn b < up b + dn a
<-in a b h = <-in' a b h.lt

<-out' : (a b : ℤ) → up a + dn b < up b + dn a → T (lt_z a b)
<-out' (pos a) (pos b) h = lt→ltb a b (omega arith)
<-out' (pos a) (negsuc b) h = let z : ⊥ = omega arith in absurd z
<-out' (negsuc a) (pos b) h = tt
<-out' (negsuc a) (negsuc b) h = lt→ltb b a (omega arith)

pub <-out : (a b : ℤ) → up a + dn b < up b + dn a → a <ℤ b
<-out a b h = record { lt = <-out' a b h }

pub ≡-in : (a b : ℤ) → a ≡ b → up a + dn b ≡ up b + dn a
≡-in a b p = subst (λ (z : ℤ). up a + dn z ≡ up z + dn a) p refl

pub ≡-out : (a b : ℤ) → up a + dn b ≡ up b + dn a → a ≡ b
≡-out (pos a) (pos b) h = let e : a ≡ b = omega arith in ap pos e
≡-out (pos a) (negsuc b) h = let z : ⊥ = omega arith in absurd z
≡-out (negsuc a) (pos b) h = let z : ⊥ = omega arith in absurd z
≡-out (negsuc a) (negsuc b) h = let e : a ≡ b = omega arith in ap negsuc e

-- ---- the operations
pub abs_is : (a : ℤ) → nat_abs a ≡ up a + dn a
abs_is (pos a) = omega arith
abs_is (negsuc a) = omega arith

pub neg_is : (a : ℤ) → (up (neg_ℤ a) ≡ dn a) × (dn (neg_ℤ a) ≡ up a)
neg_is (pos zero) = (refl, refl)
neg_is (pos (suc a)) = (refl, refl)
neg_is (negsuc a) = (refl, refl)

-- what holds of each number if its test does holds of the one that is chosen
pub cond_ind : (c : Bool) (x y : ℤ) (P : ℤ → Type 0) → (T c → P x) → (T (not c) → P y) → P (cond c x y)
cond_ind true x y P f g = f tt
cond_ind false x y P f g = g tt

-- a - b, for two naturals
sub_is : (a b : ℕ) → up (sub_ℕ a b) + b ≡ a + dn (sub_ℕ a b)
sub_is a b = cond_ind (ltb a b) (negsuc (b - suc a)) (pos (a - b)) (λ z. up z + b ≡ a + dn z)
    (λ t. omega (arith, ltb→lt a b t)) (λ t. omega (arith, nltb→le a b t))

pub +-is : (a b : ℤ) → up (a +ℤ b) + (dn a + dn b) ≡ up a + up b + dn (a +ℤ b)
+-is (pos a) (pos b) = omega arith
+-is (pos a) (negsuc b) = omega (arith, sub_is a (suc b))
+-is (negsuc a) (pos b) = omega (arith, sub_is b (suc a))
+-is (negsuc a) (negsuc b) = omega arith

pub minus_is : (a b : ℤ) → up (a -ℤ b) + (dn a + up b) ≡ up a + dn b + dn (a -ℤ b)
minus_is a b = omega (arith, +-is a (neg_ℤ b), neg_is b)

pub *-is : (a b : ℤ) → up (a *ℤ b) + (up a * dn b + dn a * up b) ≡ up a * up b + dn a * dn b + dn (a *ℤ b)
*-is (pos a) (pos b) = omega arith
*-is (pos a) (negsuc b) = omega (arith, neg_is (pos (a * suc b)))
*-is (negsuc a) (pos b) = omega (arith, neg_is (pos (suc a * b)))
*-is (negsuc a) (negsuc b) = omega arith

pub ruleset ints = (≤-in, ≤-out, <-in, <-out, ≡-in, ≡-out)

-- ---- the magnitude
pub abs_neg : (a : ℤ) → nat_abs (neg_ℤ a) ≡ nat_abs a
abs_neg a = omega (arith, abs_is a, abs_is (neg_ℤ a), neg_is a)

abs-sub : (a b : ℕ) → nat_abs (sub_ℕ a b) ≤ a + b
abs-sub a b = cond_ind (ltb a b) (negsuc (b - suc a)) (pos (a - b)) (λ z. nat_abs z ≤ a + b)
    (λ t. omega (arith, ltb→lt a b t)) (λ t. omega arith)

pub abs-+ : (a b : ℤ) → nat_abs (a +ℤ b) ≤ nat_abs a + nat_abs b
abs-+ (pos a) (pos b) = omega arith
abs-+ (pos a) (negsuc b) = abs-sub a (suc b)
abs-+ (negsuc a) (pos b) = omega (arith, abs-sub b (suc a))
abs-+ (negsuc a) (negsuc b) = omega arith

pub abs-minus : (a b : ℤ) → nat_abs (a -ℤ b) ≤ nat_abs a + nat_abs b
abs-minus a b = omega (arith, abs-+ a (neg_ℤ b), abs_neg b)

pub abs-* : (a b : ℤ) → nat_abs (a *ℤ b) ≡ nat_abs a * nat_abs b
abs-* (pos a) (pos b) = refl
abs-* (pos a) (negsuc b) = abs_neg (pos (a * suc b))
abs-* (negsuc a) (pos b) = abs_neg (pos (suc a * b))
abs-* (negsuc a) (negsuc b) = refl

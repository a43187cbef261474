-- Ring laws of the integers that `lib.IntN` lacks, each by `omega` over `Naturals`. A fact that is needed times a factor is passed to omega already multiplied (`scale`).
use mathlib.Core.Path.{◌≡◌, sym, ap, ◌∙◌}
use Prim.Native.Nat.{ℕ, ◌*◌}
use native.Mathlib.Omega.{arith}
use lib.IntN.{ℤ, pos, ◌+ℤ◌, ◌-ℤ◌, ◌*ℤ◌, *ℤ_comm}
use Rattle.integers.proofs.Naturals.{up, dn, ≡-out, +-is, minus_is, *-is}

-- an equation times a factor
scale : {m n : ℕ} (k : ℕ) → m ≡ n → m * k ≡ n * k
scale k e = ap (λ (x : ℕ). x * k) e

pub times-one : (a : ℤ) → a *ℤ pos 1 ≡ a
times-one a = ≡-out (a *ℤ pos 1) a (omega (arith, *-is a (pos 1)))

pub *-assoc : (a b c : ℤ) → (a *ℤ b) *ℤ c ≡ a *ℤ (b *ℤ c)
*-assoc a b c =
    ≡-out _ _
    (omega (arith, *-is (a *ℤ b) c, *-is a (b *ℤ c), scale (up c) (*-is a b), scale (dn c) (*-is a b), scale (up a) (*-is b c), scale (dn a) (*-is b c)))

pub +-* : (a b c : ℤ) → (a +ℤ b) *ℤ c ≡ a *ℤ c +ℤ b *ℤ c
+-* a b c =
    ≡-out _ _
    (omega (arith, *-is (a +ℤ b) c, *-is a c, *-is b c, +-is (a *ℤ c) (b *ℤ c), scale (up c) (+-is a b), scale (dn c) (+-is a b)))

pub minus-* : (a b c : ℤ) → (a -ℤ b) *ℤ c ≡ a *ℤ c -ℤ b *ℤ c
minus-* a b c =
    ≡-out _ _
    (omega (arith, *-is (a -ℤ b) c, *-is a c, *-is b c, minus_is (a *ℤ c) (b *ℤ c), scale (up c) (minus_is a b), scale (dn c) (minus_is a b)))

-- (a n)(c m) = (a c)(n m)
pub regroup : (a c n m : ℤ) → (a *ℤ n) *ℤ (c *ℤ m) ≡ (a *ℤ c) *ℤ (n *ℤ m)
regroup a c n m =
    *-assoc a n (c *ℤ m) ∙ ap (λ z. a *ℤ z) (sym (*-assoc n c m) ∙ ap (λ z. z *ℤ m) (*ℤ_comm n c) ∙ *-assoc c n m) ∙ sym (*-assoc a c (n *ℤ m))

-- What a sheet means at a point, said again in other words: values are ordinary fractions, over any denominator, and face, both, either and complement have
-- their plain meanings.
use mathlib.Core.Path.{◌≡◌, refl, sym, ap, ap₂, ◌∙◌}
use mathlib.Core.Bool.{Bool, true, false, ◌||◌, not, true≢false, and-eq-true_iff}
use mathlib.Core.List.{List, [], ◌∷◌, ◌++◌}
use mathlib.Core.Logic.{◌⊎◌, inl, inr, ⊎_elim, ◌↔◌}
use Prim.Native.Nat.{ℕ, ◌+◌, ◌-◌, ◌*◌, ◌^◌, ◌<◌}
use native.Mathlib.Nat.{add_comm, one-le-pow}
use native.Mathlib.Omega.{arith}
use lib.IntN.{ℤ, pos, ◌+ℤ◌, ◌-ℤ◌, ◌*ℤ◌, *ℤ_comm}
use lib.ListN.{length, get_or, length-append}
use lib.Pow.{pow-add}
use lib.Seq.{get_or_at}
use lib.Signed.{le_z, lt_z, ◌≤ℤ◌, ◌<ℤ◌}
use Rattle.integers.proofs.Ring.{times-one, *-assoc, +-*, minus-*, regroup}
use Rattle.integers.proofs.Powers.{pow-one, times_none}
use Rattle.integers.proofs.Order.{le_z-true, le_test, lt_z-true, lt_test, same_sign, same-sign-strict}
use Rattle.sheet.specs.declared.Comparison.TheVariants.{AtMost, LessThan}
use Rattle.sheet.specs.declared.Record.{Record}
use Rattle.sheet.specs.declared.Record.TheVariants.{Constant, X, Y, Z, Sum, Difference, Product, Square, Face, Both, Either, Complement}
use Rattle.sheet.proofs.Along.{along-more, length-along}
use Rattle.meaning.specs.Fractions.{FractionalPoint}
use Rattle.meaning.specs.Truth.{Value, over, Meaning, absent, value_of, holds_of, meaning_of, meanings, holds_at, in_solid}

-- a value over powers of n is a/m
abbrev pub Is : ℕ → Value → ℤ → ℕ → Type 0
Is n v a m = v.numerator *ℤ pos m ≡ a *ℤ pos (n ^ v.power)

-- brought to j more powers of n
brought : (n m : ℕ) (c a : ℤ) (i j : ℕ) → c *ℤ pos m ≡ a *ℤ pos (n ^ i) → (c *ℤ pos (n ^ j)) *ℤ pos m ≡ a *ℤ pos (n ^ (i + j))
brought n m c a i j e =
    *-assoc c (pos (n ^ j)) (pos m)
    ∙ ap (λ (z : ℤ). c *ℤ z) (*ℤ_comm (pos (n ^ j)) (pos m))
    ∙ sym (*-assoc c (pos m) (pos (n ^ j)))
    ∙ ap (λ (z : ℤ). z *ℤ pos (n ^ j)) e
    ∙ *-assoc a (pos (n ^ i)) (pos (n ^ j))
    ∙ ap (λ (k : ℕ). a *ℤ pos k) (sym (pow-add n i j))

module _ (p : FractionalPoint) (before : List Meaning) where
  abbrev n : ℕ
  n = p.n

  -- what record r is, after the records before it
  abbrev pub here : Record → Meaning
  here = meaning_of p before

  -- what record i is
  abbrev pub earlier : ℕ → Meaning
  earlier i = get_or before i absent

  -- ---- a constant c is c/1, and x, y and z are x/n, y/n and z/n
  pub constant-is : (c : ℤ) → Is n (here (Constant c)).value c 1
  unfolding meaning_of value_of
  constant-is c = times-one c ∙ sym (times_none c n)

  coordinate : (a : ℤ) → Is n (over a 1) a n
  coordinate a = ap (λ (k : ℕ). a *ℤ pos k) (sym (pow-one n))

  pub x-is : Is n (here X).value p.x n
  unfolding meaning_of value_of
  x-is = coordinate p.x

  pub y-is : Is n (here Y).value p.y n
  unfolding meaning_of value_of
  y-is = coordinate p.y

  pub z-is : Is n (here Z).value p.z n
  unfolding meaning_of value_of
  z-is = coordinate p.z

  -- ---- record i is a/m
  module _ (i m : ℕ) (a : ℤ) (first : Is n (earlier i).value a m) where
    abbrev v : Value
    v = (earlier i).value

    times : (w : Value) (k : ℕ) (b : ℤ) → Is n w b k → (v.numerator *ℤ w.numerator) *ℤ pos (m * k) ≡ (a *ℤ b) *ℤ pos (n ^ (v.power + w.power))
    times w k b e =
        sym (regroup v.numerator w.numerator (pos m) (pos k))
        ∙ ap₂ ◌*ℤ◌ first e
        ∙ regroup a b (pos (n ^ v.power)) (pos (n ^ w.power))
        ∙ ap (λ (h : ℕ). (a *ℤ b) *ℤ pos h) (sym (pow-add n v.power w.power))

    pub square-is : Is n (here (Square i)).value (a *ℤ a) (m * m)
    unfolding meaning_of value_of
    square-is = times v m a first

    -- a test by the sign, which a positive factor keeps, says the same of the numerator and of a
    same_test : (test : ℤ → Bool) → ((z : ℤ) (k : ℕ) → 0 < k → test (z *ℤ pos k) ≡ test z) → 0 < m → test v.numerator ≡ test a
    same_test test kept positive = sym (kept v.numerator m positive) ∙ ap test first ∙ kept a (n ^ v.power) (one-le-pow v.power n p.positive)

    -- in a version 1 sheet a face holds if its operand is at most 0
    pub face-is : 0 < m → ((here (Face AtMost i)).holds ≡ true) ↔ (a ≤ℤ pos 0)
    unfolding meaning_of holds_of
    face-is positive =
        let e = same_test (λ (z : ℤ). le_z z (pos 0)) same_sign positive in
        (λ h. le_z-true a (pos 0) (sym e ∙ h), λ h. e ∙ le_test a (pos 0) h)

    -- in a version 2 sheet, if it is less than 0
    pub strict-face-is : 0 < m → ((here (Face LessThan i)).holds ≡ true) ↔ (a <ℤ pos 0)
    unfolding meaning_of holds_of
    strict-face-is positive =
        let e = same_test (λ (z : ℤ). lt_z z (pos 0)) same-sign-strict positive in
        (λ h. lt_z-true a (pos 0) (sym e ∙ h), λ h. e ∙ lt_test a (pos 0) h)

    -- and record j is b/k
    module _ (j k : ℕ) (b : ℤ) (second : Is n (earlier j).value b k) where
      pub product_is : Is n (here (Product i j)).value (a *ℤ b) (m * k)
      unfolding meaning_of value_of
      product_is = times (earlier j).value k b second

    -- or b/m
    module _ (j : ℕ) (b : ℤ) (second : Is n (earlier j).value b m) where
      abbrev w : Value
      w = (earlier j).value

      abbrev both : ℕ
      both = n ^ (v.power + w.power)

      abbrev left : ℤ
      left = v.numerator *ℤ pos (n ^ w.power)

      abbrev right : ℤ
      right = w.numerator *ℤ pos (n ^ v.power)

      left_is : left *ℤ pos m ≡ a *ℤ pos both
      left_is = brought n m v.numerator a v.power w.power first

      right_is : right *ℤ pos m ≡ b *ℤ pos both
      right_is = rw (add_comm v.power w.power) (brought n m w.numerator b w.power v.power second)

      pub sum_is : Is n (here (Sum i j)).value (a +ℤ b) m
      unfolding meaning_of value_of
      sum_is = +-* left right (pos m) ∙ ap₂ ◌+ℤ◌ left_is right_is ∙ sym (+-* a b (pos both))

      pub difference-is : Is n (here (Difference i j)).value (a -ℤ b) m
      unfolding meaning_of value_of
      difference-is = minus-* left right (pos m) ∙ ap₂ ◌-ℤ◌ left_is right_is ∙ sym (minus-* a b (pos both))

  -- ---- both, either and complement
  abbrev holds : ℕ → Type 0
  holds i = (earlier i).holds ≡ true

  pub both_is : (i j : ℕ) → ((here (Both i j)).holds ≡ true) ↔ (holds i × holds j)
  unfolding meaning_of holds_of
  both_is i j = and-eq-true_iff (earlier i).holds (earlier j).holds

  pub either_is : (i j : ℕ) → ((here (Either i j)).holds ≡ true) ↔ (holds i ⊎ holds j)
  unfolding meaning_of holds_of
  either_is i j = or (earlier i).holds (earlier j).holds
    where
      or : (s t : Bool) → ((s || t) ≡ true) ↔ ((s ≡ true) ⊎ (t ≡ true))
      or true t = (λ e. inl refl, λ o. refl)
      or false t = (λ e. inr e, λ o. ⊎_elim (λ (e : false ≡ true). absurd (true≢false (sym e))) (λ (e : t ≡ true). e) o)

  pub complement-is : (i : ℕ) → ((here (Complement i)).holds ≡ true) ↔ (holds i → ⊥)
  unfolding meaning_of holds_of
  complement-is i = turned (earlier i).holds
    where
      turned : (s : Bool) → (not s ≡ true) ↔ ((s ≡ true) → ⊥)
      turned true = (λ e h. true≢false (sym e), λ h. absurd (h refl))
      turned false = (λ e h. true≢false (sym h), λ h. refl)

-- ---- the last record is the solid
pub last-is-solid : (rs : List Record) (r : Record) (p : FractionalPoint) → in_solid (rs ++ r ∷ []) p ≡ (here p (meanings p rs) r).holds
unfolding in_solid holds_at
last-is-solid rs r p =
    let e : length (rs ++ r ∷ []) - 1 ≡ length rs = omega (arith, length-append rs (r ∷ [])) in
    ap (λ (i : ℕ). holds_at (rs ++ r ∷ []) i p) e
    ∙ ap (λ (ms : List Meaning). (get_or ms (length rs) absent).holds) (along-more (meaning_of p) rs r)
    ∙ ap (λ (m : Meaning). m.holds) (get_or_at (meanings p rs) (here p (meanings p rs) r) [] absent (length rs) (length-along (meaning_of p) rs))

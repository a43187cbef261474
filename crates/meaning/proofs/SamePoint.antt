-- One point may be written over several denominators: whether a record holds there does not depend on the denominator.
use mathlib.Core.Path.{◌≡◌, refl, sym, ap, ap₂, ◌∙◌}
use mathlib.Core.Bool.{not, ◌&&◌, ◌||◌}
use mathlib.Core.List.{List}
use Prim.Native.Nat.{ℕ, ◌+◌, ◌*◌, ◌^◌, ◌<◌}
use native.Mathlib.Nat.{add_comm, mul_comm, mul-pos, one-le-pow}
use lib.IntN.{ℤ, pos, ◌+ℤ◌, ◌-ℤ◌, ◌*ℤ◌}
use lib.Pow.{pow-add}
use lib.Signed.{le_z, lt_z}
use Rattle.integers.proofs.Ring.{+-*, minus-*, regroup}
use Rattle.integers.proofs.Powers.{pow-one, mul-pow, times_none}
use Rattle.integers.proofs.Order.{same_sign, same-sign-strict}
use Rattle.sheet.specs.declared.Comparison.{Comparison}
use Rattle.sheet.specs.declared.Comparison.TheVariants.{AtMost, LessThan}
use Rattle.sheet.specs.declared.Record.{Record}
use Rattle.sheet.specs.declared.Record.TheVariants.{Constant, X, Y, Z, Sum, Difference, Product, Square, Face, Both, Either, Complement}
use Rattle.sheet.proofs.Along.{Pairs, related}
use Rattle.meaning.specs.Fractions.{FractionalPoint}
use Rattle.meaning.specs.Truth.{Value, over, raised, plus, minus, times, satisfies, Meaning, absent, value_of, holds_of, meaning_of, holds_at}

-- ---- numerators and denominator m times as large
module _ (m : ℕ) (positive : 0 < m) where
  -- one value over n and over n m: the same power, and the numerator m^power times as large
  record Same (v w : Value) : Type 0 where
    power : w.power ≡ v.power
    numerator : w.numerator ≡ v.numerator *ℤ pos (m ^ v.power)

  alone : (c : ℤ) → Same (over c 0) (over c 0)
  alone c = record { power = refl; numerator = sym (times_none c m) }

  moved : (a : ℤ) → Same (over a 1) (over (a *ℤ pos m) 1)
  moved a = record { power = refl; numerator = ap (λ (k : ℕ). a *ℤ pos k) (sym (pow-one m)) }

  -- one numerator brought to a greater power
  brought : (n : ℕ) (a : ℤ) (i j : ℕ) → (a *ℤ pos (m ^ i)) *ℤ pos ((n * m) ^ j) ≡ (a *ℤ pos (n ^ j)) *ℤ pos (m ^ (i + j))
  brought n a i j = rw (mul-pow n m j, pow-add m i j) (regroup a (pos (n ^ j)) (pos (m ^ i)) (pos (m ^ j)))

  module _ (n : ℕ) (v w v' w' : Value) (h : Same v v') (k : Same w w') where
    abbrev i : ℕ
    i = v.power

    abbrev j : ℕ
    j = w.power

    powers : v'.power + w'.power ≡ i + j
    powers = ap₂ ◌+◌ h.power k.power

    first : v'.numerator *ℤ pos ((n * m) ^ w'.power) ≡ (v.numerator *ℤ pos (n ^ j)) *ℤ pos (m ^ (i + j))
    first = rw (h.numerator, k.power) (brought n v.numerator i j)

    second : w'.numerator *ℤ pos ((n * m) ^ v'.power) ≡ (w.numerator *ℤ pos (n ^ i)) *ℤ pos (m ^ (i + j))
    second = rw (k.numerator, h.power, add_comm i j) (brought n w.numerator j i)

    plus-same : Same (plus n v w) (plus (n * m) v' w')
    plus-same = record { power = powers; numerator = ap₂ ◌+ℤ◌ first second ∙ sym (+-* (raised n v j) (raised n w i) (pos (m ^ (i + j)))) }

    minus-same : Same (minus n v w) (minus (n * m) v' w')
    minus-same = record { power = powers; numerator = ap₂ ◌-ℤ◌ first second ∙ sym (minus-* (raised n v j) (raised n w i) (pos (m ^ (i + j)))) }

    times-same : Same (times v w) (times v' w')
    times-same = record {
      power = powers;
      numerator = ap₂ ◌*ℤ◌ h.numerator k.numerator ∙ regroup v.numerator w.numerator (pos (m ^ i)) (pos (m ^ j)) ∙ ap (λ (e : ℕ). (v.numerator *ℤ w.numerator) *ℤ pos e) (sym (pow-add m i j));
    }

  face-same : (by : Comparison) (v w : Value) → Same v w → satisfies by v ≡ satisfies by w
  face-same AtMost v w h = sym (ap (λ (a : ℤ). le_z a (pos 0)) h.numerator ∙ same_sign v.numerator (m ^ v.power) (one-le-pow v.power m positive))
  face-same LessThan v w h = sym (ap (λ (a : ℤ). lt_z a (pos 0)) h.numerator ∙ same-sign-strict v.numerator (m ^ v.power) (one-le-pow v.power m positive))

  -- ---- all records
  -- the point q is p with numerators and denominator m times as large
  record Multiplied (p q : FractionalPoint) : Type 0 where
    x : q.x ≡ p.x *ℤ pos m
    y : q.y ≡ p.y *ℤ pos m
    z : q.z ≡ p.z *ℤ pos m
    n : q.n ≡ p.n * m

  module _ (p q : FractionalPoint) (by-m : Multiplied p q) where
    record SameMeaning (a b : Meaning) : Type 0 where
      value : Same a.value b.value
      holds : a.holds ≡ b.holds

    abbrev here : List Meaning → Record → Meaning
    here = meaning_of p

    abbrev there : List Meaning → Record → Meaning
    there = meaning_of q

    step_value : (ms ns : List Meaning) (r : Record) → Pairs SameMeaning absent absent ms ns → Same (here ms r).value (there ns r).value
    unfolding meaning_of value_of
    step_value ms ns (Constant c) e = alone c
    step_value ms ns X e = rw by-m.x (moved p.x)
    step_value ms ns Y e = rw by-m.y (moved p.y)
    step_value ms ns Z e = rw by-m.z (moved p.z)
    step_value ms ns (Sum a b) e = rw by-m.n (plus-same p.n _ _ _ _ (e.each a).value (e.each b).value)
    step_value ms ns (Difference a b) e = rw by-m.n (minus-same p.n _ _ _ _ (e.each a).value (e.each b).value)
    step_value ms ns (Product a b) e = times-same p.n _ _ _ _ (e.each a).value (e.each b).value
    step_value ms ns (Square a) e = times-same p.n _ _ _ _ (e.each a).value (e.each a).value
    step_value ms ns (Face by a) e = alone (pos 0)
    step_value ms ns (Both a b) e = alone (pos 0)
    step_value ms ns (Either a b) e = alone (pos 0)
    step_value ms ns (Complement a) e = alone (pos 0)

    step-holds : (ms ns : List Meaning) (r : Record) → Pairs SameMeaning absent absent ms ns → (here ms r).holds ≡ (there ns r).holds
    unfolding meaning_of holds_of
    step-holds ms ns (Constant c) e = refl
    step-holds ms ns X e = refl
    step-holds ms ns Y e = refl
    step-holds ms ns Z e = refl
    step-holds ms ns (Sum a b) e = refl
    step-holds ms ns (Difference a b) e = refl
    step-holds ms ns (Product a b) e = refl
    step-holds ms ns (Square a) e = refl
    step-holds ms ns (Face by a) e = face-same by _ _ (e.each a).value
    step-holds ms ns (Both a b) e = ap₂ ◌&&◌ (e.each a).holds (e.each b).holds
    step-holds ms ns (Either a b) e = ap₂ ◌||◌ (e.each a).holds (e.each b).holds
    step-holds ms ns (Complement a) e = ap not (e.each a).holds

    same-holds : (rs : List Record) (i : ℕ) → holds_at rs i p ≡ holds_at rs i q
    unfolding holds_at
    same-holds rs i =
        ((related SameMeaning absent absent (record { value = alone (pos 0); holds = refl }) here there
        (λ ms ns r e. record { value = step_value ms ns r e; holds = step-holds ms ns r e }) rs).each i).holds

-- ---- one point, written in two ways
pub record SamePoint (p q : FractionalPoint) : Type 0 where
  pub x : p.x *ℤ pos q.n ≡ q.x *ℤ pos p.n
  pub y : p.y *ℤ pos q.n ≡ q.y *ℤ pos p.n
  pub z : p.z *ℤ pos q.n ≡ q.z *ℤ pos p.n

-- a record holds at both or at neither
pub same_point : (p q : FractionalPoint) → SamePoint p q → (rs : List Record) (i : ℕ) → holds_at rs i p ≡ holds_at rs i q
same_point p q e rs i =
    let common : FractionalPoint = record { x = p.x *ℤ pos q.n; y = p.y *ℤ pos q.n; z = p.z *ℤ pos q.n; n = p.n * q.n; positive = mul-pos p.positive q.positive } in
    same-holds q.n q.positive p common (record { x = refl; y = refl; z = refl; n = refl }) rs i
    ∙ sym (same-holds p.n p.positive q common (record { x = e.x; y = e.y; z = e.z; n = mul_comm p.n q.n }) rs i)

-- Bounds over a closed cube contain the value of each record at every point of it, fractions included.
use mathlib.Core.List.{List}
use Prim.Native.Nat.{ℕ, ◌*◌, ◌^◌}
use native.Mathlib.Nat.{mul_comm}
use lib.IntN.{ℤ, pos}
use lib.ListN.{get_or}
use lib.Pow.{pow-add}
use lib.Signed.{≤ℤ_refl}
use Rattle.integers.proofs.Powers.{pow-one, times_none}
use Rattle.interval.specs.declared.Interval.{Interval}
use Rattle.interval.specs.Claims.{Between}
use Rattle.interval.specs.Rules.{only, sum, difference, product, square}
use Rattle.interval.proofs.Inclusion.{finer, sum-holds, difference-holds, product-holds, square-holds}
use Rattle.sheet.specs.declared.Record.{Record}
use Rattle.sheet.specs.declared.Record.TheVariants.{Constant, X, Y, Z, Sum, Difference, Product, Square, Face, Both, Either, Complement}
use Rattle.sheet.proofs.Along.{Pairs, related}
use Rattle.cube.specs.declared.Cube.{Cube}
use Rattle.colour.specs.Bounds.{across, bounds_of}
use Rattle.colour.specs.Entries.{Entry, blank, face_bounds, entry_with, entry_of, entries}
use Rattle.meaning.specs.Fractions.{FractionalPoint, BetweenPlanes, InClosed}
use Rattle.meaning.specs.Truth.{Value, over, raised, plus, minus, times, Meaning, absent, value_of, meaning_of, meanings}
use Rattle.soundness.specs.Claims.{HoldsValue}

-- ---- each rule, once
module _ (n : ℕ) where
  -- a whole number
  alone : (c : ℤ) → HoldsValue n (only c) (over c 0)
  alone c = record { low = rw (times_none c n) (≤ℤ_refl c); high = rw (times_none c n) (≤ℤ_refl c) }

  between : (plane : ℤ) (side : ℕ) (a : ℤ) → BetweenPlanes plane side a n → HoldsValue n (across plane side) (over a 1)
  unfolding across
  between plane side a h = rw (pow-one n) (record { low = h.low; high = h.high })

  module _ (i j : Interval) (v w : Value) (hv : HoldsValue n i v) (hw : HoldsValue n j w) where
    abbrev scale : ℕ
    scale = n ^ v.power * n ^ w.power

    first : Between i scale (raised n v w.power)
    first = finer (n ^ w.power) hv

    second : Between j scale (raised n w v.power)
    second = rw (mul_comm (n ^ v.power) (n ^ w.power)) (finer (n ^ v.power) hw)

    sum-value : HoldsValue n (sum i j) (plus n v w)
    sum-value = rw (pow-add n v.power w.power) (sum-holds first second)

    difference-value : HoldsValue n (difference i j) (minus n v w)
    difference-value = rw (pow-add n v.power w.power) (difference-holds first second)

    product_value : HoldsValue n (product i j) (times v w)
    product_value = rw (pow-add n v.power w.power) (product-holds hv hw)

  square-value : (i : Interval) (v : Value) → HoldsValue n i v → HoldsValue n (square i) (times v v)
  square-value i v h = rw (pow-add n v.power v.power) (square-holds h)

-- ---- all records
module _ (q : Cube) (p : FractionalPoint) (h : InClosed q p) where
  abbrev Held : Entry → Meaning → Type 0
  Held e m = HoldsValue p.n e.bounds m.value

  step-holds : (es : List Entry) (ms : List Meaning) (r : Record) → Pairs Held blank absent es ms → Held (entry_of q es r) (meaning_of p ms r)
  unfolding entry_with bounds_of meaning_of value_of
  step-holds es ms (Constant c) k = alone p.n c
  step-holds es ms X k = between p.n _ _ _ h.x
  step-holds es ms Y k = between p.n _ _ _ h.y
  step-holds es ms Z k = between p.n _ _ _ h.z
  step-holds es ms (Sum a b) k = sum-value p.n _ _ _ _ (k.each a) (k.each b)
  step-holds es ms (Difference a b) k = difference-value p.n _ _ _ _ (k.each a) (k.each b)
  step-holds es ms (Product a b) k = product_value p.n _ _ _ _ (k.each a) (k.each b)
  step-holds es ms (Square a) k = square-value p.n _ _ (k.each a)
  step-holds es ms (Face by a) k = alone p.n (pos 0)
  step-holds es ms (Both a b) k = alone p.n (pos 0)
  step-holds es ms (Either a b) k = alone p.n (pos 0)
  step-holds es ms (Complement a) k = alone p.n (pos 0)

  -- the value of each record at the point lies in its bounds over the cube
  pub bounds-hold : (rs : List Record) (i : ℕ) → HoldsValue p.n (get_or (entries q rs) i blank).bounds (get_or (meanings p rs) i absent).value
  bounds-hold rs i = (related Held blank absent (alone p.n (pos 0)) (entry_of q) (meaning_of p) step-holds rs).each i

  -- and the bounds by which a face is coloured contain its operand's value
  pub face-bounds-hold : (rs : List Record) (i : ℕ) → HoldsValue p.n (face_bounds q (get_or (entries q rs) i blank)) (get_or (meanings p rs) i absent).value
  unfolding face_bounds
  face-bounds-hold = bounds-hold

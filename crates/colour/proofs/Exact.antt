-- Over a point, which is a cube of side 0, the bounds of each record are one number.
use mathlib.Core.Path.{◌≡◌, refl, ap}
use mathlib.Core.List.{List}
use Prim.Native.Nat.{ℕ}
use lib.IntN.{ℤ, pos, ◌+ℤ◌, ◌-ℤ◌, ◌*ℤ◌, +ℤ_idr}
use lib.ListN.{get_or}
use Rattle.interval.specs.declared.Interval.{Interval}
use Rattle.interval.specs.Rules.{from, only, sum, difference, product, square}
use Rattle.interval.proofs.AtPoint.{sum-at-point, difference-at-point, product-at-point, square-at-point}
use Rattle.sheet.specs.declared.Record.{Record}
use Rattle.sheet.specs.declared.Record.TheVariants.{Constant, X, Y, Z, Sum, Difference, Product, Square, Face, Both, Either, Complement}
use Rattle.sheet.proofs.Along.{Pairs, related}
use Rattle.cube.specs.declared.Cube.{Cube}
use Rattle.colour.specs.Bounds.{across, bounds_of}
use Rattle.colour.specs.Entries.{Entry, blank, face_bounds, entry_with, entry_of, entries}

-- an interval of one number
abbrev pub One : Interval → Type 0
One i = (v : ℤ) × (i ≡ only v)

across-one : (low : ℤ) (side : ℕ) → side ≡ 0 → One (across low side)
unfolding across
across-one low side e = (low, rw e (ap (λ (h : ℤ). from low h) (+ℤ_idr low)))

module _ (i j : Interval) (h : One i) (k : One j) where
  sum_one : One (sum i j)
  sum_one = (h.0 +ℤ k.0, rw (h.1, k.1) (sum-at-point h.0 k.0))

  difference-one : One (difference i j)
  difference-one = (h.0 -ℤ k.0, rw (h.1, k.1) (difference-at-point h.0 k.0))

  product-one : One (product i j)
  product-one = (h.0 *ℤ k.0, rw (h.1, k.1) (product-at-point h.0 k.0))

square-one : (i : Interval) → One i → One (square i)
square-one i h = (h.0 *ℤ h.0, rw h.1 (square-at-point h.0))

module _ (q : Cube) (point : q.side ≡ 0) where
  abbrev Exact : Entry → Entry → Type 0
  Exact e _ = One e.bounds

  step-one : (es fs : List Entry) (r : Record) → Pairs Exact blank blank es fs → Exact (entry_of q es r) (entry_of q fs r)
  unfolding entry_with bounds_of
  step-one es fs (Constant c) p = (c, refl)
  step-one es fs X p = across-one q.x q.side point
  step-one es fs Y p = across-one q.y q.side point
  step-one es fs Z p = across-one q.z q.side point
  step-one es fs (Sum a b) p = sum_one _ _ (p.each a) (p.each b)
  step-one es fs (Difference a b) p = difference-one _ _ (p.each a) (p.each b)
  step-one es fs (Product a b) p = product-one _ _ (p.each a) (p.each b)
  step-one es fs (Square a) p = square-one _ (p.each a)
  step-one es fs (Face by a) p = (pos 0, refl)
  step-one es fs (Both a b) p = (pos 0, refl)
  step-one es fs (Either a b) p = (pos 0, refl)
  step-one es fs (Complement a) p = (pos 0, refl)

  pub exact : (rs : List Record) (i : ℕ) → One (get_or (entries q rs) i blank).bounds
  exact rs i = (related Exact blank blank (pos 0, refl) (entry_of q) (entry_of q) step-one rs).each i

  -- and so are the bounds by which a face is coloured
  pub exact-face : (rs : List Record) (i : ℕ) → One (face_bounds q (get_or (entries q rs) i blank))
  unfolding face_bounds
  exact-face = exact

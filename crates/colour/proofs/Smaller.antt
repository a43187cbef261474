-- Over a cube inside another, a record's bounds lie in its bounds over the other. So if no record passes the limit over a cube, none does over a smaller one.
use mathlib.Core.Path.{◌≡◌}
use mathlib.Core.List.{List, []}
use Prim.Native.Nat.{ℕ, ◌≤◌, ◌^◌}
use native.Mathlib.Omega.{arith}
use lib.IntN.{ℤ, pos, negsuc, nat_abs, ◌+ℤ◌}
use lib.ListN.{get_or}
use lib.Signed.{◌≤ℤ◌}
use Rattle.integers.proofs.Naturals.{ints, +-is}
use Rattle.integers.proofs.Order.{≤_trans}
use Rattle.interval.specs.declared.Interval.{Interval}
use Rattle.interval.specs.Limit.{SmallEnds}
use Rattle.interval.specs.Claims.{Inside}
use Rattle.interval.proofs.Inside.{only-inside, sum_inside, difference_inside, product_inside, square-inside}
use Rattle.sheet.specs.declared.Record.{Record}
use Rattle.sheet.specs.declared.Record.TheVariants.{Constant, X, Y, Z, Sum, Difference, Product, Square, Face, Both, Either, Complement}
use Rattle.sheet.proofs.Along.{Pairs, related}
use Rattle.cube.specs.declared.Cube.{Cube}
use Rattle.cube.specs.Points.{CubeInside}
use Rattle.colour.specs.Bounds.{across, bounds_of}
use Rattle.colour.specs.Entries.{Entry, blank, entry_with, entry_of, entries, first_past}
use Rattle.colour.proofs.FirstPast.{Keep, none-past, all_keep}

across-inside : (a b : ℤ) (n m : ℕ) → b ≤ℤ a → (a +ℤ pos n) ≤ℤ (b +ℤ pos m) → Inside (across a n) (across b m)
unfolding across
across-inside a b n m h k = record { low = h; ordered = omega (arith, ints, +-is a (pos n)); high = k }

module _ (q outer : Cube) (h : CubeInside q outer) where
  -- one entry's bounds lie in another's
  abbrev Within : Entry → Entry → Type 0
  Within e f = Inside e.bounds f.bounds

  step-inside : (es fs : List Entry) (r : Record) → Pairs Within blank blank es fs → Within (entry_of q es r) (entry_of outer fs r)
  unfolding entry_with bounds_of
  step-inside es fs (Constant c) p = only-inside c
  step-inside es fs X p = across-inside _ _ _ _ h.x-low h.x-high
  step-inside es fs Y p = across-inside _ _ _ _ h.y-low h.y-high
  step-inside es fs Z p = across-inside _ _ _ _ h.z-low h.z-high
  step-inside es fs (Sum a b) p = sum_inside (p.each a) (p.each b)
  step-inside es fs (Difference a b) p = difference_inside (p.each a) (p.each b)
  step-inside es fs (Product a b) p = product_inside (p.each a) (p.each b)
  step-inside es fs (Square a) p = square-inside (p.each a)
  step-inside es fs (Face by a) p = only-inside (pos 0)
  step-inside es fs (Both a b) p = only-inside (pos 0)
  step-inside es fs (Either a b) p = only-inside (pos 0)
  step-inside es fs (Complement a) p = only-inside (pos 0)

  pub bounds-inside : (rs : List Record) (i : ℕ) → Inside (get_or (entries q rs) i blank).bounds (get_or (entries outer rs) i blank).bounds
  bounds-inside rs i = (related Within blank blank (only-inside (pos 0)) (entry_of q) (entry_of outer) step-inside rs).each i

-- ---- the limit
-- a number between two that are within the limit is within it
between-small : (a b c : ℤ) → a ≤ℤ b → b ≤ℤ c → nat_abs a ≤ 2 ^ 60 → nat_abs c ≤ 2 ^ 60 → nat_abs b ≤ 2 ^ 60
between-small a (pos b) (pos c) h k s t = omega (arith, ints, k)
between-small a (pos b) (negsuc c) h k s t = absurd k.le
between-small (pos a) (negsuc b) c h k s t = absurd h.le
between-small (negsuc a) (negsuc b) c h k s t = omega (arith, ints, h)

inside-small : (i j : Interval) → Inside i j → SmallEnds j → SmallEnds i
inside-small i j h s =
    record {
      low = between-small j.low i.low j.high h.low (≤_trans _ _ _ h.ordered h.high) s.low s.high;
      high = between-small j.low i.high j.high (≤_trans _ _ _ h.low h.ordered) h.high s.low s.high;
    }

-- no record passes the limit exactly if all entries keep it
pub none-keep : (rs : List Record) (q : Cube) → first_past rs q ≡ [] → Keep (entries q rs)
unfolding first_past
none-keep rs q e = all_keep 0 (entries q rs) e

pub keep-none : (rs : List Record) (q : Cube) → Keep (entries q rs) → first_past rs q ≡ []
unfolding first_past
keep-none rs q k = none-past 0 (entries q rs) k

module _ (q outer : Cube) (h : CubeInside q outer) (rs : List Record) where
  pub keep-smaller : Keep (entries outer rs) → Keep (entries q rs)
  keep-smaller k a = inside-small _ _ (bounds-inside q outer h rs a) (k a)

  pub none-smaller : first_past rs outer ≡ [] → first_past rs q ≡ []
  none-smaller e = keep-none rs q (keep-smaller (none-keep rs outer e))

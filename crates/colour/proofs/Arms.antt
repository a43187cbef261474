-- What each arm returns of the match over the kinds of records that gives bounds.
use Rattle.std.specs.Prelude.{Ok}
use mathlib.Core.Path.{◌≡◌}
use mathlib.Core.List.{List, [], ◌∷◌}
use Prim.Native.Nat.{ℕ, zero, suc, ◌+◌, ◌≤◌, ◌<◌, ◌^◌}
use native.Mathlib.Omega.{arith}
use lib.IntN.{ℤ, pos, nat_abs}
use lib.ListN.{get_or, set, replicate}
use lib.Signed.{mag}
use mir.Syntax.{w32, w64}
use mir.Val.{SFits, to_z, of_z}
use mir.Facts.{to_z-of_z}
use Rattle.integers.proofs.Naturals.{abs-+}
use Rattle.integers.proofs.Machine.{abs-most, wide_back}
use Rattle.interval.specs.declared.Interval.{Interval}
use Rattle.interval.specs.Rules.{only}
use Rattle.interval.specs.Limit.{SmallEnds, bounded_of}
use Rattle.interval.proofs.Facts.{ends-within, bounded-within}
use Rattle.sheet.proofs.Arrays.{filled-with}
use Rattle.colour.specs.Bounds.{across, none}

-- an interval whose ends are within the limit is returned as it is
within : (i : Interval) → SmallEnds i → Ok i ≡ bounded_of i
within i s = bounded-within i (ends-within i s)

pub zero-small : SmallEnds none
zero-small = record { low = omega arith; high = omega arith }

-- so are the bounds of records of which nothing is known, and bounds of which one more record's are stored
pub blank-small : (n a : ℕ) → SmallEnds (get_or (replicate n none) a none)
blank-small n a = rw (filled-with none n a) zero-small

pub small-set : (bounds : List Interval) (n : ℕ) (v : Interval) → SmallEnds v → ((a : ℕ) → SmallEnds (get_or bounds a none)) → (a : ℕ) → SmallEnds (get_or (set bounds n v) a none)
small-set [] n v h k a = k a
small-set (x ∷ bounds) zero v h k zero = h
small-set (x ∷ bounds) zero v h k (suc a) = k (suc a)
small-set (x ∷ bounds) (suc n) v h k zero = k zero
small-set (x ∷ bounds) (suc n) v h k (suc a) = small-set bounds n v h (λ b. k (suc b)) a

-- a logical record
pub no-bounds : Ok none ≡ bounded_of none
no-bounds = within none zero-small

across-small : (low : ℤ) (side : ℕ) → nat_abs low + side ≤ 2 ^ 21 → SmallEnds (across low side)
unfolding across
across-small low side h = record { low = omega arith; high = omega (arith, abs-+ low (pos side)) }

-- a coordinate
pub coordinate : (low : ℤ) (side : ℕ) (v : Interval) → nat_abs low + side ≤ 2 ^ 21 → mag low < 2 ^ 31 → v ≡ across (to_z w32 (of_z w32 low)) side → Ok v ≡ bounded_of (across low side)
coordinate low side v h f g = rw (g, to_z-of_z {w = w32} {z = low} (record { sfits = f })) (within (across low side) (across-small low side h))

-- a constant, which fits in 32 bits
pub constant : (c : ℤ) → SFits w32 c → Ok (only (to_z w64 (of_z w64 (to_z w32 (of_z w32 c))))) ≡ bounded_of (only c)
constant c f =
    let h : nat_abs c ≤ 2 ^ 60 = omega (arith, f.sfits, abs-most c) in
    rw (wide_back c f) (within (only c) (record { low = h; high = h }))

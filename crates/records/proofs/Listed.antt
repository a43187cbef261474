-- A walk through the sheet meets each record at its offset; and the loop that lists the offsets.
use mathlib.Core.Path.{◌≡◌, refl, ◌∙◌}
use mathlib.Core.List.{List}
use Prim.Native.Nat.{ℕ, zero, suc, ◌+◌, ◌*◌, ◌≤◌, ◌<◌}
use native.Mathlib.Numerals.{add-one}
use native.Mathlib.Omega.{arith}
use lib.ListN.{length, get_or, set, length-set}
use lib.Seq.{get_or-set_same, get_or-set_other}
use borrow.Author.Tests.{eqb-true, eqb-false}
use lib.Dec.{eqb}
use Rattle.integers.proofs.Order.{by-test}
use Rattle.sheet.specs.Table.{Stands}
use Rattle.sheet.specs.Records.{records_of}
use Rattle.sheet.proofs.Walk.{Before, before-first, before-next, stands}
use Rattle.sheet.proofs.Good.{records-few}
use Rattle.records.specs.Offsets.{offset_of, Offsets}
use Rattle.records.proofs.ByKind.{record-few, record_is}

module _ (s : List ℕ) where
  next-offset : (n : ℕ) → offset_of s (n + 1) ≡ offset_of s n + 1 + get_or s (offset_of s n) 0
  unfolding offset_of
  next-offset n = rw (add-one n)

  -- n records come before the offset of record n
  pub before-offset : (n : ℕ) → n ≤ length (records_of s) → Before s (offset_of s n) n
  unfolding offset_of
  before-offset zero h = before-first s
  before-offset (suc n) h =
      let more : n < length (records_of s) = omega arith in
      let w = before-offset n (omega arith) in
      rw (add-one n) at (before-next s (offset_of s n) n w more _ (record_is s (offset_of s n) (stands s (offset_of s n) n w more) _ refl))

  -- record n stands at its offset
  pub stands-there : (n : ℕ) → n < length (records_of s) → Stands s (offset_of s n)
  stands-there n more = stands s (offset_of s n) n (before-offset n (omega arith)) more

  offset-low : (n : ℕ) → n ≤ length (records_of s) → offset_of s n ≤ 3 + 6 * n
  unfolding offset_of
  offset-low zero h = omega arith
  offset-low (suc n) h =
      omega (arith, offset-low n (omega arith), record-few s (offset_of s n) (stands-there n (omega arith)))

-- the invariant: the offsets of the first n records are listed, and the next record is at `at`
pub record Listing (s offsets : List ℕ) (at n : ℕ) : Type 0 where
  pub among : n ≤ length (records_of s)
  pub here : at ≡ offset_of s n
  pub long : length offsets ≡ length (records_of s)
  pub each : (i : ℕ) → i < n → get_or offsets i 0 ≡ offset_of s i

pub listing_start : (s offsets : List ℕ) → length offsets ≡ length (records_of s) → Listing s offsets 3 0
unfolding offset_of
listing_start s offsets h = record { among = omega arith; here = refl; long = h; each = λ i k. absurd (omega arith) }

module _ (s offsets : List ℕ) (at n : ℕ) (w : Listing s offsets at n) where
  pub listing-end : length offsets ≤ n → Offsets offsets s
  listing-end h = record { long = w.long; each = λ i k. w.each i (omega (arith, w.long)) }

  pub listing-low : at < 1540
  listing-low = omega (arith, w.here, offset-low s n w.among, w.among, records-few s)

  module _ (left : n < length offsets) where
    more : n < length (records_of s)
    more = omega (arith, w.long)

    pub listing-stands : Stands s at
    listing-stands = rw w.here (stands-there s n more)

    pub listing-inside : at < length s
    listing-inside = omega (arith, listing-stands.inside)

    pub listing-next : Listing s (set offsets n at) (at + 1 + get_or s at 0) (n + 1)
    listing-next =
        record {
          among = omega (arith, more);
          here = rw (next-offset s n, w.here);
          long = length-set offsets n at ∙ w.long;
          each = λ i h.
              by-test (eqb i n)
              (λ t. rw (eqb-true i n t) (get_or-set_same offsets n at 0 left ∙ w.here))
              (λ t. get_or-set_other offsets n i at 0 (eqb-false i n t) ∙ w.each i (omega (arith, eqb-false i n t)));
        }

-- record n stands where the list says
pub listed-stands : (offsets s : List ℕ) → Offsets offsets s → (n : ℕ) → n < length (records_of s) → Stands s (get_or offsets n 0)
listed-stands offsets s h n more = rw (h.each n more) (stands-there s n more)

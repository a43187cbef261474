-- A loop over the records of a sheet by their offsets: n of them are done.
use Rattle.std.specs.Prelude.{Some}
use mathlib.Core.Path.{◌≡◌}
use mathlib.Core.List.{List}
use Prim.Native.Nat.{ℕ, ◌+◌, ◌≤◌, ◌<◌}
use native.Mathlib.Omega.{arith}
use lib.ListN.{length, get_or}
use mir.Syntax.{w64}
use mir.Val.{Fits}
use Rattle.sheet.specs.declared.Record.{Record}
use Rattle.sheet.specs.declared.Record.TheVariants.{X}
use Rattle.sheet.specs.Table.{row_at, Stands}
use Rattle.sheet.specs.Records.{records_of}
use Rattle.sheet.proofs.Walk.{Before, stands-record}
use Rattle.sheet.proofs.Good.{records-few}
use Rattle.records.specs.Offsets.{Offsets}
use Rattle.records.proofs.Listed.{before-offset, listed-stands}

pub record Walking (s offsets : List ℕ) (n : ℕ) : Type 0 where
  pub listed : Offsets offsets s
  pub among : n ≤ length (records_of s)
  pub few : length offsets ≤ 256

module _ (s offsets : List ℕ) where
  pub walking_start : Offsets offsets s → Walking s offsets 0
  walking_start h = record { listed = h; among = omega arith; few = omega (arith, h.long, records-few s) }

  module _ (n : ℕ) (w : Walking s offsets n) where
    pub walking-end : length offsets ≤ n → n ≡ length (records_of s)
    walking-end h = omega (arith, w.listed.long, w.among)

    -- a record that is there has its place in the list
    pub walking-listed : n < length (records_of s) → n < length offsets
    walking-listed h = omega (arith, w.listed.long)

    module _ (left : n < length offsets) where
      pub walking-few : n < 256
      walking-few = omega (arith, w.few)

      pub walking-fits : Fits w64 (n + 1)
      walking-fits = record { fits = omega (arith, walking-few) }

      pub walking-more : n < length (records_of s)
      walking-more = omega (arith, w.listed.long)

      -- n records come before the next one
      pub walking-before : Before s (get_or offsets n 0) n
      walking-before = rw (w.listed.each n walking-more) (before-offset s n w.among)

      pub walking-stands : Stands s (get_or offsets n 0)
      walking-stands = listed-stands offsets s w.listed n walking-more

      pub walking-next : Walking s offsets (n + 1)
      walking-next = record { listed = w.listed; among = omega (arith, walking-more); few = w.few }

      -- r is what `record_at` returned: it is record n
      pub walking-record : (r : Record) → row_at s (get_or offsets n 0) ≡ Some r → get_or (records_of s) n X ≡ r
      walking-record r row = stands-record s (get_or offsets n 0) n walking-before walking-more r row X

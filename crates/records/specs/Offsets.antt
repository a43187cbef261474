-- The byte offsets of a sheet's records.
use Rattle.std.specs.Prelude.{◌≡◌, ℕ, zero, suc, ◌+◌, ◌<◌, List, length, get_or}
use Rattle.sheet.specs.Records.{records_of}

-- A record's byte offset: the first is at 3, and each other follows the one before it, which is a count byte and that many bytes.
unfoldable pub offset_of : List ℕ → ℕ → ℕ
offset_of s zero = 3
offset_of s (suc n) = offset_of s n + 1 + get_or s (offset_of s n) 0

-- the list of the records' offsets: as many as there are records, each where that record stands
pub record Offsets (offsets s : List ℕ) : Type 0 where
  pub long : length offsets ≡ length (records_of s)
  pub each : (n : ℕ) → n < length (records_of s) → get_or offsets n 0 ≡ offset_of s n

-- The records of a sheet, one after the other, and where reading them stops.
use Rattle.std.specs.Prelude.{ℕ, zero, suc, List, [], ◌∷◌, Err, Ok, Result}
use Rattle.sheet.specs.declared.Record.{Record}
use Rattle.sheet.specs.declared.Cursor.{Cursor}
use Rattle.sheet.specs.Table.{read_at}

-- the records that were read, and the offset at which no record could be read
pub record Reading : Type 0 where
  pub records : List Record
  pub stop : ℕ

abbrev pub first : Record → Reading → Reading
first r rest = record { records = r ∷ rest.records; stop = rest.stop }

abbrev pub on_read : Result (Record × Cursor) ℕ → (Cursor → Reading) → Reading
on_read (Ok (r, next)) rest = first r (rest next)
on_read (Err at) rest = record { records = []; stop = at }

-- what is read from `at` on, if at most `left` records may still follow
unfoldable pub read_from : ℕ → List ℕ → ℕ → Reading
read_from zero s at = record { records = []; stop = at }
read_from (suc left) s at = on_read (read_at s (record { at = at; left = suc left })) (λ next. read_from left s next.at)

-- Records, numbered from 0, at most 256, from byte 3 on.
abbrev pub start : Cursor
start = record { at = 3; left = 256 }

unfoldable pub reading : List ℕ → Reading
reading s = read_from start.left s start.at

abbrev pub records_of : List ℕ → List Record
records_of s = (reading s).records

abbrev pub stop_of : List ℕ → ℕ
stop_of s = (reading s).stop

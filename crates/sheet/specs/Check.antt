-- The test of a whole sheet: replies 1 to 5, in their order.
use Rattle.std.specs.Prelude.{ℕ, ◌+◌, Bool, cond, not, ◌||◌, List, [], eqb, ltb, length, get_or, Err, Ok}
use Rattle.bigendian.specs.Numbers.{unsigned_at}
use Rattle.sheet.specs.declared.Record.{Record}
use Rattle.sheet.specs.declared.Sort.{Sort}
use Rattle.sheet.specs.declared.Sort.TheVariants.{Neither, Arithmetic, Logical}
use Rattle.replies.specs.declared.Refusal.TheVariants.{Length, Version, Operand, Solid, Record as BadRecord}
use Rattle.replies.specs.Table.{Reply}
use Rattle.sheet.specs.Records.{records_of, stop_of}
use Rattle.sheet.specs.Operands.{first_unmet, last_sort}

-- the bytes 0 to 1 say how many bytes follow them, and a sheet has 3 bytes at least
abbrev pub length_fails : List ℕ → Bool
length_fails s = ltb (length s) 3 || not (eqb (unsigned_at 2 s 0 + 2) (length s))

-- the versions of a sheet
unfoldable pub is_version : ℕ → Bool
is_version version = eqb version 1 || eqb version 2

-- The last record must be logical and is the solid. (n is how many records there are.)
abbrev pub solid_of : Sort → ℕ → Reply
solid_of Neither n = Err (Solid n)
solid_of Arithmetic n = Err (Solid n)
solid_of Logical n = Ok n

-- replies 4 and 5, of the records alone
unfoldable pub check_records : List Record → Reply
check_records rs = cond (ltb (first_unmet [] rs) (length rs)) (Err (Operand (first_unmet [] rs))) (solid_of (last_sort rs) (length rs))

-- the table of replies from 1 to 5, row by row
unfoldable pub check_of : List ℕ → Reply
check_of s =
    cond (length_fails s) (Err Length)
    (cond (not (is_version (get_or s 2 0))) (Err Version)
    (cond (ltb (stop_of s) (length s)) (Err (BadRecord (stop_of s)))
    (check_records (records_of s))))

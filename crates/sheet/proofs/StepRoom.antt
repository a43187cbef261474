-- What is read from the step room's sheet.
use Rattle.std.specs.Prelude.{Ok}
use mathlib.Core.Path.{◌≡◌, refl}
use mathlib.Core.Bool.{true}
use Prim.Native.Nat.{ℕ}
use Rattle.bigendian.specs.Numbers.{unsigned_at, signed32}
use Rattle.sheet.specs.StepRoom.{step_sheet_of, step_records_by}
use Rattle.sheet.specs.Table.{comparison_of, row_of, row_at, read_at}
use Rattle.sheet.specs.Records.{read_from, reading, records_of}
use Rattle.sheet.specs.Operands.{first_unmet, last_sort}
use Rattle.sheet.specs.Check.{is_version, check_records, check_of}

pub step-records : (version : ℕ) → records_of (step_sheet_of version) ≡ step_records_by (comparison_of version)
unfolding step_sheet_of reading read_from read_at row_at row_of signed32 unsigned_at
step-records version = refl

pub step-check : (version : ℕ) → is_version version ≡ true → check_of (step_sheet_of version) ≡ Ok 8
unfolding step_sheet_of check_of check_records first_unmet last_sort reading read_from read_at row_at row_of unsigned_at
step-check version h = rw h

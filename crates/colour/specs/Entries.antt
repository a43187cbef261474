-- What is known of each record over a cube, record by record, and the limit.
use Rattle.std.specs.Prelude.{ℕ, suc, List, [], ◌∷◌, length, get_or, Err, Ok, Result}
use Rattle.integers.specs.First.{on_first}
use Rattle.interval.specs.declared.Interval.{Interval}
use Rattle.interval.specs.Limit.{past_end}
use Rattle.replies.specs.declared.Over.{Over}
use Rattle.replies.specs.Table.{over}
use Rattle.sheet.specs.declared.Record.{Record}
use Rattle.sheet.specs.Operands.{first_of, second_of}
use Rattle.sheet.specs.Along.{along}
use Rattle.cube.specs.declared.Cube.{Cube}
use Rattle.colour.specs.declared.State.{State}
use Rattle.colour.specs.declared.State.TheVariants.{Out}
use Rattle.colour.specs.Bounds.{none, bounds_of}
use Rattle.colour.specs.States.{otherwise_of, state_with}

-- a record's bounds, and its state
pub record Entry : Type 0 where
  pub bounds : Interval
  pub state : State

-- the default for a missing record; it holds nowhere
abbrev pub blank : Entry
blank = record { bounds = none; state = Out }

-- the bounds by which a face is coloured over a cube: those of its operand
unfoldable pub face_bounds : Cube → Entry → Interval
face_bounds q operand = operand.bounds

-- a record's entry, from the entries before it, by the rules over `otherwise`
unfoldable pub entry_with : (State → State → State → State) → Cube → List Entry → Record → Entry
entry_with otherwise q before r =
    let first = get_or before (first_of r) blank in
    let second = get_or before (second_of r) blank in
    record {
      bounds = bounds_of q first.bounds second.bounds r;
      state = state_with otherwise (length before) (face_bounds q first) first.state second.state r;
    }

-- by today's rule
abbrev pub entry_of : Cube → List Entry → Record → Entry
entry_of = entry_with otherwise_of

-- The bounds of all records of a cube are held together.
abbrev pub entries : Cube → List Record → List Entry
entries q = along (entry_of q)

-- the first record whose bounds pass 2^60, if one does, with the end that does, among entries that begin with that of record n
unfoldable pub past_from : ℕ → List Entry → List Over
past_from n [] = []
past_from n (e ∷ es) = on_first (past_end e.bounds) (λ end. over n end ∷ []) (past_from (suc n) es)

-- the first record whose bounds over a cube pass 2^60, if one does, with the end that does
unfoldable pub first_past : List Record → Cube → List Over
first_past rs q = past_from 0 (entries q rs)

-- the state of record n over a cube, or the first record whose bounds pass 2^60, with the end that does
unfoldable pub judged_of : List Record → Cube → ℕ → Result State Over
judged_of rs q n = on_first (first_past rs q) Err (Ok (get_or (entries q rs) n blank).state)

-- What is known of the records over a cube, as it is held: two lists, by record number. Only inner contracts cite this.
use Rattle.std.specs.Prelude.{ℕ, get_or}
use Rattle.interval.specs.declared.Interval.{Interval}
use Rattle.colour.specs.declared.Entries.{Entries}
use Rattle.colour.specs.declared.State.{State}
use Rattle.colour.specs.declared.State.TheVariants.{Out}
use Rattle.colour.specs.Bounds.{none}

-- the bounds of record a
abbrev pub held_at : Entries → ℕ → Interval
held_at e a = get_or e.bounds a none

-- its state
abbrev pub state_at : Entries → ℕ → State
state_at e a = get_or e.states a Out

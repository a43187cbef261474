-- Building as it was before request 2026-03, when both and either gave Mixed for two states of which neither decides and neither leaves it to the other, even
-- for one face mentioned twice. Only the promises about maps of that time cite this. (Version 2 sheets came later. What is said here holds of them as well.)
use Rattle.std.specs.Prelude.{List, ℕ, ◌-◌, length, get_or}
use Rattle.sheet.specs.declared.Record.{Record}
use Rattle.sheet.specs.Along.{along}
use Rattle.cube.specs.declared.Root.{Root}
use Rattle.cube.specs.declared.Cube.{Cube}
use Rattle.colour.specs.declared.State.{State}
use Rattle.colour.specs.declared.State.TheVariants.{Mixed}
use Rattle.colour.specs.Entries.{blank, entry_with}
use Rattle.building.specs.Build.{map_by, build_with}
use Rattle.zone.specs.Replies.{ZoneOutcome, outcome_by_number}
use Rattle.demands.specs.Terms.{BuiltBy}

-- both: Out if either is Out; otherwise if one is In, the other's state; otherwise Mixed. (And either: .. otherwise Mixed.)
abbrev pub always_mixed : State → State → State → State
always_mixed decided s t = Mixed

-- the state of record i over a cube, and the solid's
abbrev pub state_before : List Record → Cube → ℕ → State
state_before rs q i = (get_or (along (entry_with always_mixed q) rs) i blank).state

unfoldable pub solid_before : List Record → Cube → State
solid_before rs q = state_before rs q (length rs - 1)

-- zone_build: the same table of replies, with the map of that time
unfoldable pub zone_build_before : List ℕ → Root → List ℕ → ZoneOutcome
zone_build_before sheet root before = outcome_by_number (build_with (λ rs. map_by (solid_before rs)) sheet root before)

-- a map built from a sheet at that time
abbrev pub BuiltBefore : List ℕ → List ℕ → Type 0
BuiltBefore = BuiltBy zone_build_before

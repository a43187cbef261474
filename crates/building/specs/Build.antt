-- Building a zone map: the reply, and what the lent buffer holds afterwards.
use Rattle.std.specs.Prelude.{ℕ, cond, not, List, ◌++◌, ltb, length, drop, Err, Ok}
use Rattle.integers.specs.First.{on_first}
use Rattle.replies.specs.declared.Refusal.TheVariants.{Limits, OverRoot, Short}
use Rattle.replies.specs.Table.{Reply}
use Rattle.replies.specs.Table.{refusal_of}
use Rattle.sheet.specs.declared.Record.{Record}
use Rattle.sheet.specs.Records.{records_of}
use Rattle.sheet.specs.Check.{check_of}
use Rattle.cube.specs.declared.Root.{Root}
use Rattle.cube.specs.declared.Cube.{Cube}
use Rattle.cube.specs.Limits.{in_limits}
use Rattle.cube.specs.Cubes.{root_cube}
use Rattle.zonemap.specs.Map.{map_of}
use Rattle.colour.specs.Entries.{first_past}
use Rattle.colour.specs.declared.State.{State}
use Rattle.tree.specs.Solid.{solid_state, leaves_below}

-- the reply, and the bytes of the lent buffer afterwards
pub record Outcome : Type 0 where
  pub reply : Reply
  pub buffer : List ℕ

abbrev pub outcome : Reply → List ℕ → Outcome
outcome r out = record { reply = r; buffer = out }

-- the map of a root, given the state of each cube
unfoldable pub map_by : (Cube → State) → Root → List ℕ
map_by over root = map_of root (leaves_below over root.d (root_cube root))

-- the map that document 01's rules name
abbrev pub built_map : List Record → Root → List ℕ
built_map rs = map_by (solid_state rs)

-- from reply 8 on: building writes at the start of the lent buffer; later bytes stay
unfoldable pub stored_of : List ℕ → List ℕ → Outcome
stored_of map out =
    cond (ltb (length out) (length map)) (outcome (Err (Short (length map))) out)
    (outcome (Ok (length map)) (map ++ drop (length map) out))

-- building by the table of replies, row by row, where `map_over` gives the map
module _ (map_over : List Record → Root → List ℕ) where
  -- from reply 6 on, for the records of a good sheet
  unfoldable pub over_root_with : List Record → Root → List ℕ → Outcome
  over_root_with rs root out =
      cond (not (in_limits root)) (outcome (Err Limits) out)
      (on_first (first_past rs (root_cube root)) (λ o. outcome (Err (OverRoot o)) out)
      (stored_of (map_over rs root) out))

  -- first replies 1 to 5
  unfoldable pub build_with : List ℕ → Root → List ℕ → Outcome
  build_with s root out = on_first (refusal_of (check_of s)) (λ why. outcome (Err why) out) (over_root_with (records_of s) root out)

-- with the map that document 01's rules name
abbrev pub over_root_of : List Record → Root → List ℕ → Outcome
over_root_of = over_root_with built_map

abbrev pub build_of : List ℕ → Root → List ℕ → Outcome
build_of = build_with built_map

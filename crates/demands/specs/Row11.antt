-- Row 11 of document 01's table, which request 2026-11 dropped: "a record's bounds over a smaller cube pass 2^60", with "the first such record of the first such
-- cube, a cube before its children". Only the promise that dropping it changed nothing cites this. (Its number is that of row 7, by request 2026-04.)
use Rattle.std.specs.Prelude.{cond, not, List, [], ◌++◌, ℕ, zero, suc, eqb}
use Rattle.integers.specs.First.{on_first}
use Rattle.replies.specs.declared.Over.{Over}
use Rattle.replies.specs.Table.{over_number}
use Rattle.sheet.specs.declared.Record.{Record}
use Rattle.sheet.specs.Records.{records_of}
use Rattle.cube.specs.declared.Root.{Root}
use Rattle.cube.specs.declared.Cube.{Cube}
use Rattle.cube.specs.Limits.{in_limits}
use Rattle.cube.specs.Cubes.{root_cube, child_of}
use Rattle.colour.specs.Entries.{first_past}
use Rattle.tree.specs.Visit.{upto}
use Rattle.tree.specs.Solid.{solid_state, is_gray}
use Rattle.building.specs.Build.{built_map, stored_of}
use Rattle.zone.specs.Replies.{reply, zone_check_of, ZoneOutcome, zone_outcome, outcome_by_number}

-- of each cube of the tree, the first record whose bounds pass 2^60, if one does, a cube before its children (over the root itself none does where row 7
-- did not refuse)
unfoldable pub past_in_tree : List Record → ℕ → Cube → List Over
past_in_tree rs zero q = first_past rs q
past_in_tree rs (suc left) q = first_past rs q ++ cond (is_gray (solid_state rs) q) (upto (λ k. past_in_tree rs left (child_of q k)) 8) []

-- zone_build by the table as it was, row by row: 1 to 5, 6, 7 and 11, and from 8 on as it is
module _ (sheet : List ℕ) (root : Root) (before : List ℕ) where
  abbrev refused : ℕ → ℕ → ZoneOutcome
  refused code number = zone_outcome (reply code number) before

  unfoldable pub build_with_row11 : ZoneOutcome
  build_with_row11 =
      let rs = records_of sheet in
      cond (not (eqb (zone_check_of sheet).code 0)) (zone_outcome (zone_check_of sheet) before)
      (cond (not (in_limits root)) (refused 6 0)
      (on_first (first_past rs (root_cube root)) (λ o. refused 7 (over_number o))
      (on_first (past_in_tree rs root.d (root_cube root)) (λ o. refused 11 (over_number o))
      (outcome_by_number (stored_of (built_map rs root) before)))))

-- Refining a finished map (request 2026-01): the reply, and what the lent buffer holds afterwards.
use Rattle.std.specs.Prelude.{ℕ, cond, List, ltb, Err}
use Rattle.integers.specs.First.{on_first}
use Rattle.replies.specs.declared.Refusal.TheVariants.{Limits}
use Rattle.sheet.specs.Records.{records_of}
use Rattle.cube.specs.Limits.{at_depth}
use Rattle.zonemap.specs.Opening.{root_of}
use Rattle.tree.specs.Solid.{solid_state}
use Rattle.replacing.specs.Replace.{refined_map}
use Rattle.building.specs.Build.{Outcome, outcome, over_root_with}
use Rattle.pair.specs.Pairs.{pair_refusal}

-- "Refusals: 1 to 5, 9, then 6 for a smaller or illegal depth, 7, 11, 8": from 6 for an illegal depth on they are those of building over the map's root at the
-- new depth (11 cannot occur, as request 2026-11 shows).
unfoldable pub refine_of : List ℕ → List ℕ → ℕ → List ℕ → Outcome
refine_of s map d out =
    on_first (pair_refusal s map) (λ why. outcome (Err why) out)
    (cond (ltb d (root_of map).d) (outcome (Err Limits) out)
    (over_root_with (λ rs. refined_map (solid_state rs) map) (records_of s) (at_depth d (root_of map)) out))

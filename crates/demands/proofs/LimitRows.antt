-- Document 01's row of the limit, and the two ends, computed from the definitions.
use mathlib.Core.Path.{◌≡◌, refl, ap, ◌∙◌}
use mathlib.Core.Bool.{true}
use mathlib.Core.List.{List, [], ◌∷◌}
use Prim.Native.Nat.{ℕ, ◌≤◌}
use native.Mathlib.Omega.{arith}
use lib.IntN.{ℤ}
use lib.ListN.{length}
use Rattle.integers.specs.Least.{lesser_of, greater_of}
use Rattle.interval.specs.Rules.{sum, span, product, square}
use Rattle.interval.specs.Limit.{is_small, past_end}
use Rattle.replies.specs.declared.End.TheVariants.{Low, High}
use Rattle.replies.specs.declared.Over.{Over}
use Rattle.replies.specs.Table.{over, over_number}
use Rattle.sheet.specs.declared.Record.{Record}
use Rattle.sheet.specs.Records.{records_of}
use Rattle.sheet.specs.Along.{along, onward}
use Rattle.cube.specs.Limits.{axis_fits, sizes_fit, in_limits}
use Rattle.cube.specs.Cubes.{root_cube}
use Rattle.cube.proofs.Numbers.{within-limits}
use Rattle.colour.specs.Bounds.{across, bounds_of}
use Rattle.colour.specs.Entries.{entry_with, past_from, first_past}
use Rattle.colour.proofs.Smaller.{none-keep}
use Rattle.zonemap.proofs.Bytes.{map-length}
use Rattle.tree.specs.Visit.{visit}
use Rattle.tree.specs.Solid.{solid_state, leaves_below}
use Rattle.building.specs.Build.{map_by, built_map, over_root_with, build_with}
use Rattle.zone.specs.Replies.{reply, zone_outcome, zone_build_of}
use Rattle.demands.specs.Terms.{GoodSheet}
use Rattle.demands.specs.Rows.{AllHold, unit, limit_rows}
use Rattle.demands.proofs.Sheets.{good-check}
use Rattle.demands.proofs.Outcomes.{builds}

-- a root within the limits, over which no record passes 2^60
accepts : (low : ℤ) (rs : List Record) → in_limits (unit low) ≡ true → first_past rs (root_cube (unit low)) ≡ []
    → (sheet out : List ℕ) → GoodSheet sheet → records_of sheet ≡ rs → 22 ≤ length out → (zone_build_of sheet (unit low) out).reply ≡ reply 0 22
unfolding map_by leaves_below visit
accepts low rs within none sheet out good are room =
    let size : length (built_map (records_of sheet) (unit low)) ≡ 22 = map-length (unit low) (leaves_below (solid_state (records_of sheet)) 0 (root_cube (unit low))) in
    (builds sheet (unit low) out).done (record {
      good = good;
      limits = within-limits (unit low) within;
      bounded = none-keep (records_of sheet) (root_cube (unit low)) (rw are none);
      room = omega (arith, size);
    })
    ∙ ap (reply 0) size

-- or over which o is the first record past it
refuses-7 : (low : ℤ) (rs : List Record) (o : Over) → in_limits (unit low) ≡ true → first_past rs (root_cube (unit low)) ≡ o ∷ []
    → (sheet out : List ℕ) → GoodSheet sheet → records_of sheet ≡ rs → zone_build_of sheet (unit low) out ≡ zone_outcome (reply 7 (over_number o)) out
unfolding zone_build_of build_with over_root_with
refuses-7 low rs o within past sheet out good are = rw (good-check sheet good, within, are, past)

pub limit-rows : AllHold limit_rows
unfolding AllHold first_past past_from past_end is_small along onward entry_with bounds_of across sum span product square lesser_of greater_of root_cube in_limits sizes_fit axis_fits
limit-rows = (
  (refl, accepts _ _ refl refl),
  (refuses-7 _ _ (over 3 High) refl refl, (refuses-7 _ _ (over 3 Low) refl refl, (refuses-7 _ _ (over 1 Low) refl refl, tt))),
)

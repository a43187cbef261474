-- `building::building::over_root` meets its contract: the limits of the root, then the limit of the bounds over it.
use Rattle.std.specs.Prelude.{Ok}
use mathlib.Core.Path.{sym, ap, ◌∙◌}
use native.Mathlib.Omega.{arith}
use Prim.Native.Nat.{◌≤◌}
use Rattle.cube.proofs.Cubes.{root-small, near-once}
use Rattle.colour.proofs.Told.{known-none}
use Rattle.building.proofs.Outcomes.{checked-count, checked-few, checked-some, last_fits, outside, within, over_root_lem, under-limit}
use borrow.Author.Rules.{rules}
use Rattle.building.proofs.building.over_root.Goals as goal
use Rattle.replies.specs.declared.Refusal.TheVariants.{OverRoot}
use Rattle.replies.proofs.Mapped.{mapped-good, mapped-bad}

pub returns-then-not-is_within : goal.returns-then-not-is_within
returns-then-not-is_within g c = outside _ _ c.is_within.ensures c.if-not-is_within.true _ _ _

pub slice_bounds-room-end : goal.slice_bounds-room-end
slice_bounds-room-end g c = omega (arith, checked-few _ _ c.requires.good)

pub slice_bounds-offsets-end : goal.slice_bounds-offsets-end
slice_bounds-offsets-end g c = let h : c.args.count ≤ 256 = checked-few _ _ c.requires.good in search rules

pub list_offsets-requires : goal.list_offsets-requires
list_offsets-requires g c = let h : c.args.count ≤ 256 = checked-few _ _ c.requires.good in search (rules, checked-count)

pub cube-requires : goal.cube-requires
cube-requires g c = root-small _ (within _ _ c.is_within.ensures c.if-not-is_within.false)

pub overflow_sub-count : goal.overflow_sub-count
overflow_sub-count g c = checked-some _ _ c.requires.good

pub overflow_cast-count : goal.overflow_cast-count
overflow_cast-count g c = last_fits _ _ c.requires.good

pub judge-requires-clause-near : goal.judge-requires-clause-near
judge-requires-clause-near g c = near-once _ (within _ _ c.is_within.ensures c.if-not-is_within.false) _ c.cube.ensures

pub returns-in_err-map_err : goal.returns-in_err-map_err
returns-in_err-map_err g c =
    let t = mapped-bad OverRoot _ _ c.map_err.ensures.cases _ c.in_err-map_err.was _ c.from_residual.ensures.1 in
    rw t.2 (over_root_lem _ _ (within _ _ c.is_within.ensures c.if-not-is_within.false) _ c.cube.ensures _ _ _ c.judge.ensures _ t.1 _)

pub started-requires-clause-good : goal.started-requires-clause-good
started-requires-clause-good g c = c.requires.good ∙ ap Ok (checked-count _ _ c.requires.good ∙ sym c.list_offsets.ensures.long)

pub started-requires-clause-within : goal.started-requires-clause-within
started-requires-clause-within g c = within _ _ c.is_within.ensures c.if-not-is_within.false

pub started-requires-clause-none_past : goal.started-requires-clause-none_past
started-requires-clause-none_past g c =
    let t = mapped-good OverRoot _ _ c.map_err.ensures.cases _ c.in_ok-map_err.was in
    known-none _ _ _ c.cube.ensures _ _ c.judge.ensures _ t

pub started-requires-clause-suited : goal.started-requires-clause-suited
started-requires-clause-suited g c = c.requires.suited (within _ _ c.is_within.ensures c.if-not-is_within.false)

pub returns : goal.returns
returns g c =
    let t = mapped-good OverRoot _ _ c.map_err.ensures.cases _ c.in_ok-map_err.was in
    under-limit _ _ (within _ _ c.is_within.ensures c.if-not-is_within.false) _ c.cube.ensures _ _ _ c.judge.ensures _ t _ _ c.started.ensures

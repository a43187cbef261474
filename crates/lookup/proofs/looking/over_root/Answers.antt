-- `lookup::looking::over_root` meets its contract: the limit over the root is tested before the point.
use native.Mathlib.Omega.{arith}
use Rattle.sheet.proofs.Good.{records-few}
use Rattle.pair.proofs.Openings.{pair-count, pair_small, pair-near}
use Rattle.lookup.proofs.Steps.{over-limit, at-limit}
use Rattle.colour.proofs.Told.{known-none}
use borrow.Author.Rules.{rules}
use Rattle.lookup.proofs.looking.over_root.Goals as goal
use Rattle.replies.specs.declared.Refusal.TheVariants.{OverRoot}
use Rattle.replies.proofs.Mapped.{mapped-good, mapped-bad}

pub slice_bounds-room-end : goal.slice_bounds-room-end
slice_bounds-room-end c = omega (arith, pair-count _ _ c.requires.opens _ _ c.requires.opened, records-few c.args.sheet.now)

pub slice_bounds-offsets-end : goal.slice_bounds-offsets-end
slice_bounds-offsets-end c = search (rules, pair-count, records-few)

pub list_offsets-requires : goal.list_offsets-requires
list_offsets-requires c = search (rules, pair-count, records-few)

pub cube-requires : goal.cube-requires
cube-requires c = search (rules, pair_small)

pub judge-requires-clause-near : goal.judge-requires-clause-near
judge-requires-clause-near c = search (rules, pair-near)

pub at_point-requires-clause-limit : goal.at_point-requires-clause-limit
at_point-requires-clause-limit c =
    let t = mapped-good OverRoot _ _ c.map_err.ensures.cases _ c.in_ok-map_err.was in
    search (rules, known-none)

pub returns-in_err-map_err : goal.returns-in_err-map_err
returns-in_err-map_err c =
    let t = mapped-bad OverRoot _ _ c.map_err.ensures.cases _ c.in_err-map_err.was _ c.from_residual.ensures.1 in
    rw t.2 (search (rules, over-limit))

pub returns : goal.returns
returns c =
    let t = mapped-good OverRoot _ _ c.map_err.ensures.cases _ c.in_ok-map_err.was in
    search (rules, at-limit)

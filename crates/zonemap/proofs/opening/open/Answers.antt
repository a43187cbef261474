-- `zonemap::opening::open` meets its contract: every face is marked.
use Rattle.replies.specs.declared.Refusal.TheVariants.{Map}
use Rattle.zonemap.proofs.Opens.{opened-long, opened, not_opened}
use borrow.Author.Rules.{rules}
use Rattle.zonemap.proofs.opening.open.Goals as goal
use Rattle.replies.proofs.Mapped.{mapped-good, mapped-bad}

pub returns-in_err-map_err : goal.returns-in_err-map_err
returns-in_err-map_err c =
    let t = mapped-bad Map _ _ c.map_err.ensures.cases _ c.in_err-map_err.was _ c.from_residual.ensures.1 in
    rw t.2 (search (rules, not_opened))

pub leaf_count-requires : goal.leaf_count-requires
leaf_count-requires c =
    let t = mapped-good Map _ _ c.map_err.ensures.cases _ c.in_ok-map_err.was in
    search (rules, opened-long)

pub returns : goal.returns
returns c =
    let t = mapped-good Map _ _ c.map_err.ensures.cases _ c.in_ok-map_err.was in
    search (rules, opened)

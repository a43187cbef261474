-- `pair::opening::open` meets its contract: the replies of the sheet come first, and the marks are those of its faces.
use Rattle.replies.specs.declared.Refusal.TheVariants.{Map}
use Rattle.sheet.proofs.Good.{good-count}
use Rattle.replies.proofs.Mapped.{mapped-good, mapped-bad}
use Rattle.pair.proofs.Openings.{sheet-good, map-opened, map-refused}
use borrow.Author.Rules.{rules}
use Rattle.pair.proofs.opening.open.Goals as goal

pub returns-in_err-root : goal.returns-in_err-root
returns-in_err-root c =
    let t = mapped-bad Map _ _ c.map_err.ensures.cases _ c.in_err-root.was _ c.from_residual-in_err-root.ensures.1 in
    rw t.2 (search (rules, map-refused, sheet-good))

pub returns : goal.returns
returns c =
    let t = mapped-good Map _ _ c.map_err.ensures.cases _ c.in_ok-root.was in
    search (rules, map-opened, sheet-good, good-count)

pub faces_among-faces-requires : goal.faces_among-faces-requires
faces_among-faces-requires c = search (rules, good-count)

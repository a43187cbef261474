-- `colour::judging::judge` meets its contract. The invariant is `Filling`: the first n records are done, and the lists hold what is known of them.
use borrow.Author.Rules.{rules}
use Rattle.std.specs.Prelude.{Err, Result}
use mathlib.Core.Path.{◌≡◌, ap, ◌∙◌}
use Rattle.records.proofs.Walking.{walking-stands}
use Rattle.replies.specs.declared.Over.{Over}
use Rattle.colour.specs.declared.State.{State}
use Rattle.replies.specs.Table.{over}
use Rattle.replies.proofs.Mapped.{mapped-ok, mapped-err}
use Rattle.colour.proofs.Filling.{filling-start, judged-end, judged-past, filling-next}
use Rattle.colour.proofs.judging.judge.Goals as goal

pub loop-n-init : goal.loop-n-init
loop-n-init c = search (rules, filling-start)

pub record_at-r-requires : goal.record_at-r-requires
record_at-r-requires c = search (rules, walking-stands)

pub returns-in_err-bounds : goal.returns-in_err-bounds
returns-in_err-bounds c =
    mapped-err _ _ _ c.map_err.ensures.cases _ c.in_err-bounds.was (λ end e p.
    let over-is : c.in_err-bounds.field-0.0 ≡ over c.loop-n.n end = search (rules, p) in
    let given : ◌≡◌ {A = Result State Over} c.from_residual.result (Err c.in_err-bounds.field-0.0) = search rules in
    given ∙ ap Err over-is ∙ judged-past _ _ _ _ _ _ c.loop-n.invariant c.loop-n-test.true _ c.record_at-r.ensures _ c.bounds.ensures _ end e)

pub loop-n-preserved : goal.loop-n-preserved
loop-n-preserved c =
    filling-next _ _ _ _ _ _ c.loop-n.invariant c.loop-n-test.true _ c.record_at-r.ensures _ c.bounds.ensures _ (mapped-ok _ _ _ c.map_err.ensures.cases _ c.in_ok-bounds.was) _ c.state-state.ensures

pub returns : goal.returns
returns c = search (rules, judged-end)

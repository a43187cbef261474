-- `text::put_line` meets its contract: one number at a time.
use native.Mathlib.Omega.{arith}
use borrow.Author.Rules.{rules}
use Rattle.text.proofs.Lines.{written_none, written_first, written_next, written_all}
use Rattle.text.proofs.put_line.Goals as goal
use Rattle.text.proofs.put_line.Goals.{then-end-gt0, else-end-gt0}

pub loop-n-init : goal.loop-n-init
loop-n-init g c = search (rules, written_none)

pub loop-n-preserved : goal.loop-n-preserved
loop-n-preserved g c = elim c.if-end-gt0.branch [ then-end-gt0 w ↦ search (rules, written_next) | else-end-gt0 w ↦ search (rules, written_first) ]

pub returns-clause-puts : goal.returns-clause-puts
returns-clause-puts g c = written_all _ _ _ _ _ c.loop-n.invariant (omega arith)

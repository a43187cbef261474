-- `text::put_line` meets its contract: one number at a time.
use Rattle.text.proofs.Lines.{Written}
use Rattle.text.proofs.put_line.Given as goal

abbrev pub invariant-loop-n : goal.invariant-loop-n
invariant-loop-n g l = Written l.n-items l.n-index l.initial.out l.end l.out

-- `tape::shortening::keep` meets its contract. The invariant is `Keeping`: the words from i on are done.
use borrow.Author.Rules.{rules}
use Rattle.tape.proofs.Keeping.{keeping_start, keeping-no, keeping-yes}
use Rattle.tape.proofs.shortening.keep.Goals as goal

pub loop-i-init : goal.loop-i-init
loop-i-init c = search (rules, keeping_start)

pub loop-i-preserved-then-not-marks-w : goal.loop-i-preserved-then-not-marks-w
loop-i-preserved-then-not-marks-w c = search (rules, keeping-no)

pub loop-i-preserved : goal.loop-i-preserved
loop-i-preserved c = search (rules, keeping-yes)

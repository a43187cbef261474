-- `tape::shortening::rename` meets its contract. The invariant is `Renaming`.
use borrow.Author.Rules.{rules}
use Rattle.tape.proofs.Renaming.{renaming-next, renaming-end}
use Rattle.tape.proofs.shortening.rename.Goals as goal

pub loop-i-preserved : goal.loop-i-preserved
loop-i-preserved c = search (rules, renaming-next)

pub returns : goal.returns
returns c = search (rules, renaming-end)

-- `tape::shortening::own_twins` meets its contract.
use borrow.Author.Rules.{rules}
use Rattle.tape.proofs.Owning.{owning-start, owning-next, owning-end}
use Rattle.tape.proofs.shortening.own_twins.Goals as goal

pub loop-n-init : goal.loop-n-init
loop-n-init c = owning-start

pub loop-n-preserved : goal.loop-n-preserved
loop-n-preserved c = search (rules, owning-next)

pub returns : goal.returns
returns c = search (rules, owning-end)

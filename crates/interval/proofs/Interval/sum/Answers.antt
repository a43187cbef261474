-- `interval::Interval::sum` meets its contract.
use borrow.Author.Rules.{rules}
use Rattle.interval.proofs.Operations.{sum_told}
use Rattle.interval.proofs.Interval.sum.Goals as goal

pub returns : goal.returns
returns c = search (rules, sum_told)

-- `interval::Interval::difference` meets its contract.
use borrow.Author.Rules.{rules}
use Rattle.interval.proofs.Operations.{difference-told}
use Rattle.interval.proofs.Interval.difference.Goals as goal

pub returns : goal.returns
returns c = search (rules, difference-told)

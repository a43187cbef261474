-- `interval::Interval::square` meets its contract.
use borrow.Author.Rules.{rules}
use Rattle.interval.proofs.Operations.{times-told, square-up, square-down, square-across}
use Rattle.interval.proofs.MinMax.{greater-is}
use Rattle.interval.proofs.Interval.square.Goals as goal

pub returns-then-a-ge0 : goal.returns-then-a-ge0
returns-then-a-ge0 c = search (rules, square-up, times-told)

pub returns-then-b-le0 : goal.returns-then-b-le0
returns-then-b-le0 c = search (rules, square-down, times-told)

pub returns : goal.returns
returns c = search (rules, square-across, times-told, greater-is)

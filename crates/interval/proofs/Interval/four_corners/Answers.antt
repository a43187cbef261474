-- `interval::Interval::four_corners` meets its contract.
use borrow.Author.Rules.{rules}
use Rattle.interval.proofs.MinMax.{lesser-told, greater-told}
use Rattle.interval.proofs.Operations.{times-told}
use Rattle.interval.proofs.Corners.{four-told}
use Rattle.interval.proofs.Interval.four_corners.Goals as goal

pub returns : goal.returns
returns c = search (rules, four-told, lesser-told, greater-told, times-told)

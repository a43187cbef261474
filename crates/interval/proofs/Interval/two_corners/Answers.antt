-- `interval::Interval::two_corners` meets its contract.
use borrow.Author.Rules.{rules}
use Rattle.interval.proofs.Operations.{times-told}
use Rattle.interval.proofs.Corners.{least-small, greatest-small, read_small, two-told}
use Rattle.interval.proofs.Interval.two_corners.Goals as goal

pub times-requires : goal.times-requires
times-requires c = search (rules, read_small, least-small)

pub times-requires-2 : goal.times-requires-2
times-requires-2 c = search (rules, read_small, greatest-small)

pub returns : goal.returns
returns c = search (rules, two-told, times-told, least-small, greatest-small)

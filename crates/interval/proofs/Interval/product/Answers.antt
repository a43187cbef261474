-- `interval::Interval::product` meets its contract.
use borrow.Author.Rules.{rules}
use Rattle.interval.proofs.Corners.{ordered-ends, product-told}
use Rattle.interval.proofs.Interval.product.Goals as goal

pub corners-requires : goal.corners-requires
corners-requires c = search (rules, ordered-ends)

pub returns : goal.returns
returns c = search (rules, product-told)

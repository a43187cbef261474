-- `colour::rules::bounds` meets its contract: each kind has its own rule.
use Rattle.colour.proofs.Arms.{coordinate, constant, no-bounds}
use Rattle.colour.specs.Bounds.{bounds_of}
use borrow.Author.Rules.{rules}
use Rattle.colour.proofs.rules.bounds.Goals as goal

pub returns-in-Constant : goal.returns-in-Constant
unfolding bounds_of
returns-in-Constant c = rw c.in-Constant.is (search (rules, constant))

pub returns-in-X : goal.returns-in-X
unfolding bounds_of
returns-in-X c = rw c.in-X.is (search (rules, coordinate))

pub returns-in-Y : goal.returns-in-Y
unfolding bounds_of
returns-in-Y c = rw c.in-Y.is (search (rules, coordinate))

pub returns-in-Z : goal.returns-in-Z
unfolding bounds_of
returns-in-Z c = rw c.in-Z.is (search (rules, coordinate))

pub returns-in_default : goal.returns-in_default
unfolding bounds_of
returns-in_default c = search (rules, no-bounds)

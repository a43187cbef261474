-- `tape::Word::bounds` meets its contract.
use borrow.Author.Rules.{rules}
use Rattle.colour.specs.Bounds.{bounds_of}
use Rattle.colour.proofs.Arms.{coordinate, no-bounds}
use Rattle.tape.specs.Working.{bounds_word}
use Rattle.tape.proofs.Word.bounds.Goals as goal

pub returns-in-X : goal.returns-in-X
unfolding bounds_word bounds_of
returns-in-X c = rw c.in-X.is (search (rules, coordinate))

pub returns-in-Y : goal.returns-in-Y
unfolding bounds_word bounds_of
returns-in-Y c = rw c.in-Y.is (search (rules, coordinate))

pub returns-in-Z : goal.returns-in-Z
unfolding bounds_word bounds_of
returns-in-Z c = rw c.in-Z.is (search (rules, coordinate))

pub returns-in-AtMost : goal.returns-in-AtMost
unfolding bounds_word bounds_of
returns-in-AtMost c = search (rules, no-bounds)

pub returns-in-Both : goal.returns-in-Both
unfolding bounds_word bounds_of
returns-in-Both c = search (rules, no-bounds)

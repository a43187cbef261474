-- `lookup::looking::at_point` meets its contract: the point is in the root, or not.
use Rattle.pair.proofs.Openings.{pair_small, pair-room}
use Rattle.lookup.proofs.Steps.{not-in-root, judgeable, answered}
use borrow.Author.Rules.{rules}
use Rattle.lookup.proofs.looking.at_point.Goals as goal

pub cube-requires : goal.cube-requires
cube-requires c = search (rules, pair_small)

pub returns-then-not-holds : goal.returns-then-not-holds
returns-then-not-holds c = search (rules, not-in-root)

pub leaf_at-leaf-requires : goal.leaf_at-leaf-requires
leaf_at-leaf-requires c = search (rules, pair-room)

pub answer-requires-clause-judgeable : goal.answer-requires-clause-judgeable
answer-requires-clause-judgeable c = search (rules, judgeable)

pub returns : goal.returns
returns c = search (rules, answered)

-- `refine::refining::deepen` meets its contract: the depth is tested, then the map is refined over its root.
use Rattle.refine.proofs.Outcomes.{checked, smaller, deeper, refined}
use borrow.Author.Rules.{rules}
use Rattle.refine.proofs.refining.deepen.Goals as goal

pub returns-then-d-pair : goal.returns-then-d-pair
returns-then-d-pair c = search (rules, smaller)

pub over_root-requires-clause-good : goal.over_root-requires-clause-good
over_root-requires-clause-good c = search (rules, checked)

pub over_root-requires-clause-suited : goal.over_root-requires-clause-suited
over_root-requires-clause-suited c = search (rules, deeper)

pub returns : goal.returns
returns c = search (rules, refined)

-- `refine::refining::refine` meets its contract: the sheet is checked and the map opened first.
use Rattle.pair.proofs.Openings.{not-shut}
use Rattle.refine.proofs.Outcomes.{shut, some_pair}
use borrow.Author.Rules.{rules}
use Rattle.refine.proofs.refining.refine.Goals as goal

pub deepen-requires-clause-opens : goal.deepen-requires-clause-opens
deepen-requires-clause-opens c = search (rules, not-shut)

pub deepen-requires-clause-opened : goal.deepen-requires-clause-opened
deepen-requires-clause-opened c = some_pair _ _ _ _ c.open.ensures _ c.in_ok-pair.was

pub returns-in_err-pair : goal.returns-in_err-pair
returns-in_err-pair c = search (rules, shut)

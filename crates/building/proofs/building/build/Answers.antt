-- `building::building::build` meets its contract: the sheet's own replies come first.
use Rattle.building.proofs.Outcomes.{bad-sheet, good-sheet}
use borrow.Author.Rules.{rules}
use Rattle.building.proofs.building.build.Goals as goal

pub returns : goal.returns
returns c = search (rules, good-sheet)

pub returns-in_err-count : goal.returns-in_err-count
returns-in_err-count c = search (rules, bad-sheet)

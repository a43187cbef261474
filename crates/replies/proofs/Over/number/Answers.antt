-- `replies::Over::number` meets its contract.
use borrow.Author.Rules.{rules}
use Rattle.replies.proofs.Numbers.{end-number}
use Rattle.replies.proofs.Over.number.Goals as goal

pub returns-in-Low : goal.returns-in-Low
returns-in-Low c = search (rules, end-number)

pub returns-in-High : goal.returns-in-High
returns-in-High c = search (rules, end-number)

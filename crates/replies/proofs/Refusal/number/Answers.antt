-- `replies::Refusal::number` meets its contract.
use borrow.Author.Rules.{rules}
use Rattle.replies.proofs.Numbers.{over-number}
use Rattle.replies.proofs.Refusal.number.Goals as goal

pub returns-in-OverRoot : goal.returns-in-OverRoot
returns-in-OverRoot c = search (rules, over-number)

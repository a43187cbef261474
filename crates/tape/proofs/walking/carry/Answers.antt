-- `tape::walking::carry` meets its contract: either tape is carried down.
use borrow.Author.Rules.{rules}
use Rattle.tape.proofs.Carrying.{shorter-carries, shorter-stays, shorter-before}
use Rattle.tape.proofs.walking.carry.Goals as goal

pub returns-then-is_worth-clause-carries : goal.returns-then-is_worth-clause-carries
returns-then-is_worth-clause-carries c = search (rules, shorter-carries)

pub returns-then-is_worth-clause-stays : goal.returns-then-is_worth-clause-stays
returns-then-is_worth-clause-stays c = search (rules, shorter-stays)

pub returns-then-is_worth-clause-before : goal.returns-then-is_worth-clause-before
returns-then-is_worth-clause-before c = search (rules, shorter-before)

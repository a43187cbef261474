-- `tape::working::fill_states` meets its contract. The invariant is `Stating`; no more words are decided than were met.
use borrow.Author.Rules.{rules}
use mathlib.Core.Path.{refl}
use native.Mathlib.Omega.{arith}
use Rattle.tape.proofs.Filling.{stating-start, stating-next, stating-end}
use Rattle.tape.proofs.working.fill_states.Goals as goal

pub loop-w-init : goal.loop-w-init
loop-w-init c = record { stating = search (rules, stating-start); bounds = refl; few = omega arith }

pub loop-w-preserved : goal.loop-w-preserved
loop-w-preserved c = record { stating = search (rules, stating-next); bounds = search rules; few = search rules }

pub returns-clause-states : goal.returns-clause-states
returns-clause-states c = search (rules, stating-end)

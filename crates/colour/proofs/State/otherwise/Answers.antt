-- `colour::State::otherwise` meets its contract: its tests are those of the rule.
use borrow.Author.Rules.{rules}
use Rattle.colour.proofs.Otherwise.{is_same_lem, not_same, otherwise_same, otherwise-opposite, otherwise-mixed}
use Rattle.colour.proofs.State.otherwise.Goals as goal

pub returns-then-eq : goal.returns-then-eq
returns-then-eq c = otherwise_same _ _ _ (is_same_lem _ _ (search (rules, c.if-eq.ensures)))

pub returns-then-eq-2 : goal.returns-then-eq-2
returns-then-eq-2 c =
    otherwise-opposite _ _ _ (not_same _ _ (search (rules, c.if-eq.ensures))) _ c.complement.ensures (is_same_lem _ _ (search (rules, c.if-eq-2.ensures)))

pub returns : goal.returns
returns c = otherwise-mixed _ _ _ (not_same _ _ (search (rules, c.if-eq.ensures))) _ c.complement.ensures (not_same _ _ (search (rules, c.if-eq-2.ensures)))

-- `tape::working::work_out` meets its contract.
use Rattle.tape.proofs.Worked.{works-small, lent_still, stand}
use Rattle.tape.proofs.working.work_out.Goals as goal

pub fill_bounds-requires-clause-small : goal.fill_bounds-requires-clause-small
fill_bounds-requires-clause-small c = works-small _ _ c.requires.none_past _ _ c.requires.carries _ _ c.requires.lent

pub returns-clause-lent : goal.returns-clause-lent
returns-clause-lent c =
    rw c.fill_states.ensures.bounds
    (lent_still _ _ c.requires.none_past _ _ c.requires.carries _ _ c.requires.lent _ c.fill_bounds.ensures.bounds _ (rw c.fill_bounds.ensures.states at c.fill_states.ensures.states))

pub returns-clause-stand : goal.returns-clause-stand
returns-clause-stand c =
    stand _ _ c.requires.none_past _ _ c.requires.carries _ _ c.requires.lent _ c.fill_bounds.ensures.bounds _ (rw c.fill_bounds.ensures.states at c.fill_states.ensures.states)

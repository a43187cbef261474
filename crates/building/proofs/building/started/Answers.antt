-- `building::building::started` meets its contract: the memory is what a walk needs.
use Rattle.tape.specs.Lent.{work}
use Rattle.building.proofs.Outcomes.{ready-root}
use Rattle.building.proofs.building.started.Goals as goal

pub stored-requires-clause-ready : goal.stored-requires-clause-ready
stored-requires-clause-ready g c = ready-root _ _ c.requires.within c.requires.none_past (work c.start-t.new.words c.start-t.new.known) _ c.start-t.ensures.lent c.start-t.ensures.starts

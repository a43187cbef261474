-- `refine::deepening::Deeper` gives the leaves of the map, the gray ones replaced.
use mathlib.Core.Path.{ap, ◌∙◌}
use Rattle.sheet.specs.Records.{records_of}
use Rattle.cube.proofs.Cubes.{root-small}
use Rattle.tree.specs.Solid.{solid_state}
use Rattle.refine.proofs.Walks.{walks, all-between, passed-between}
use borrow.Author.Rules.{rules}
use Rattle.refine.proofs.deepening.DeeperLentSource.give.Goals as goal

pub cube-requires : goal.cube-requires
cube-requires g c = search (rules, root-small)

pub walk-requires-clause-along : goal.walk-requires-clause-along
walk-requires-clause-along g c = walks _ _ c.requires.suited _ c.cube.ensures

pub walk-requires-clause-room : goal.walk-requires-clause-room
walk-requires-clause-room g c = rw (all-between _ _ c.requires.suited _ c.cube.ensures (solid_state (records_of c.args.s.now))) c.requires.room

pub returns-clause-taken : goal.returns-clause-taken
returns-clause-taken g c =
    c.walk.ensures.taken ∙ ap (g.S.Sink.after c.args.sink.now) (passed-between _ _ c.requires.suited _ c.cube.ensures (solid_state (records_of c.args.s.now)) _ c.walk.ensures.passed)

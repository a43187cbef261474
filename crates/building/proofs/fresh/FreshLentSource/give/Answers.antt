-- `building::fresh::Fresh` gives the leaves of the root.
use Rattle.cube.proofs.Cubes.{root-small}
use borrow.Author.Rules.{rules}
use Rattle.building.proofs.fresh.FreshLentSource.give.Goals as goal

pub cube-requires : goal.cube-requires
cube-requires g c = search (rules, root-small)

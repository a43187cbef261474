-- `zonemap::opening::place_or_first` meets its contract: a root within the limits has a side.
use Rattle.cube.proofs.Limits.{limits-sizes}
use Rattle.zonemap.proofs.opening.place_or_first.Goals as goal

pub cube-requires : goal.cube-requires
cube-requires c = (limits-sizes _ c.requires).0

-- `cube::Root::place` meets its contract: no coordinate of a point of the root is more than 2^21 above the low plane.
use borrow.Author.Rules.{rules}
use Rattle.cube.proofs.Limits.{side_room, near-x, near-y, near-z}
use Rattle.cube.proofs.Places.{gap-low, gap-near, point-x, point-y, point-z}
use Rattle.cube.proofs.Root.place.Goals as goal

pub steps_to-x-requires : goal.steps_to-x-requires
steps_to-x-requires c = search (rules, gap-low, gap-near, side_room, point-x, near-x)

pub steps_to-y-requires : goal.steps_to-y-requires
steps_to-y-requires c = search (rules, gap-low, gap-near, side_room, point-y, near-y)

pub steps_to-z-requires : goal.steps_to-z-requires
steps_to-z-requires c = search (rules, gap-low, gap-near, side_room, point-z, near-z)

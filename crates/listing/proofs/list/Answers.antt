-- `listing::list` meets its contract: a map that building returns opens.
use Rattle.std.proofs.Common.{rules}
use Rattle.listing.proofs.Made.{made-room, made-length, made-opens}
use Rattle.listing.proofs.list.Goals as goal

pub slice_bounds-map-end : goal.slice_bounds-map-end
slice_bounds-map-end g c = made-room _ c.root_of-root.result _ _ _ _ (search rules) (search rules) (search rules) c.build.ensures c.in-Ok.is

pub slice_bounds-leaves-end : goal.slice_bounds-leaves-end
slice_bounds-leaves-end g c = made-length _ c.root_of-root.result _ _ _ _ (search rules) (search rules) (search rules) c.build.ensures c.in-Ok.is

pub leaves-requires-clause-opens : goal.leaves-requires-clause-opens
leaves-requires-clause-opens g c = (made-opens _ c.root_of-root.result _ _ _ _ (search rules) (search rules) (search rules) c.build.ensures c.in-Ok.is).0

pub leaves-requires-clause-root : goal.leaves-requires-clause-root
leaves-requires-clause-root g c = (made-opens _ c.root_of-root.result _ _ _ _ (search rules) (search rules) (search rules) c.build.ensures c.in-Ok.is).1

-- `listing::leaves` is safe: a walk over a map that opens knows the place of each leaf.
use Rattle.zonemap.proofs.Meeting.{open-long, open-few, first-place}
use Rattle.listing.proofs.leaves.Goals as goal

pub leaf_count-count-requires : goal.leaf_count-count-requires
leaf_count-count-requires g c = open-long _ c.requires.opens

pub overflow_cast-count : goal.overflow_cast-count
overflow_cast-count g c = open-few _ c.requires.opens _ c.leaf_count-count.ensures

pub loop-i-init : goal.loop-i-init
loop-i-init g c = first-place _

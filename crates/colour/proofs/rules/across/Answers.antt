-- `colour::rules::across` meets its contract: a coordinate, a side and their sum fit in 64 bits.
use Rattle.integers.proofs.Machine.{wide_back, wide-sum-back}
use Rattle.colour.specs.Bounds.{across}
use Rattle.colour.proofs.rules.across.Goals as goal

pub returns : goal.returns
unfolding across
returns c = rw (wide-sum-back _ c.ranges.low _ c.ranges.side, wide_back _ c.ranges.low)

-- The measure is the levels left. The invariant: the first k children were handed to the sink, with what the walk leaves.
use mathlib.Core.Path.{◌≡◌}
use Rattle.sheet.specs.Records.{records_of}
use Rattle.tape.specs.Lent.{work}
use Rattle.tree.specs.Visit.{upto}
use Rattle.tree.specs.Solid.{solid_state}
use Rattle.tree.specs.Walk.{Left}
use Rattle.tree.proofs.Cubes.{kid_leaves}
use Rattle.tree.proofs.leaves.+give_leaves.Given as goal

abbrev pub decreases-give_leaves : goal.decreases-give_leaves
decreases-give_leaves g l = l.left

abbrev pub invariant-loop-k : goal.invariant-loop-k
invariant-loop-k g l =
    Left (records_of l.s) l.u (work l.initial.words l.initial.known) (work l.words l.known) × (l.sink ≡ g.S.Sink.after l.initial.sink (upto (kid_leaves (solid_state (records_of l.s)) l.left l.q) l.k))

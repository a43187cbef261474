-- The measure is the levels left. The invariant: k of the children were passed, the sink has what their leaves are replaced by, and the tape of the cube stands.
use mathlib.Core.Path.{◌≡◌}
use Prim.Native.Nat.{◌+◌}
use Rattle.sheet.specs.Records.{records_of}
use Rattle.tape.specs.Lent.{work}
use Rattle.tree.specs.Solid.{solid_state}
use Rattle.tree.specs.Walk.{Left}
use Rattle.replacing.specs.Walk.{between}
use Rattle.replacing.proofs.Stepping.{Walked}
use Rattle.replacing.proofs.along.+walk.Given as goal

abbrev pub decreases-walk : goal.decreases-walk
decreases-walk g l = l.left

abbrev pub invariant-loop-k : goal.invariant-loop-k
invariant-loop-k g l =
    Walked l.map l.q l.i l.next l.k
    × Left (records_of l.s) l.u (work l.initial.words l.initial.known) (work l.words l.known)
    × (l.sink ≡ g.S.Sink.after l.initial.sink (between (solid_state (records_of l.s)) (l.q.level + l.left) l.map l.i l.next))

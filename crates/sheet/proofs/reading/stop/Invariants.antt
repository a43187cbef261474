-- `sheet::reading::stop` meets its contract. The invariant: the cursor has 256 - left records before it. The measure is `left`.
use Prim.Native.Nat.{◌-◌}
use Rattle.sheet.proofs.Walk.{At}
use Rattle.sheet.proofs.reading.stop.Given as goal

abbrev pub invariant-loop-next : goal.invariant-loop-next
invariant-loop-next l = At l.s l.c (256 - l.c.left)

abbrev pub decreases-loop-next : goal.decreases-loop-next
decreases-loop-next l = l.c.left

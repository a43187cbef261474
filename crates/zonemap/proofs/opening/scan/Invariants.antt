-- `zonemap::opening::scan` meets its contract: the remaining leaves determine what the whole list does.
use Prim.Native.Nat.{◌-◌}
use lib.ListN.{length}
use Rattle.zonemap.specs.Inner.{marked}
use Rattle.zonemap.proofs.Scan.{Scan}
use Rattle.zonemap.proofs.opening.scan.Given as goal

abbrev pub invariant-loop-at : goal.invariant-loop-at
invariant-loop-at l = Scan (marked l.faces) l.map l.d l.m l.place l.at l.found

abbrev pub decreases-loop-at : goal.decreases-loop-at
decreases-loop-at l = length l.map - l.at

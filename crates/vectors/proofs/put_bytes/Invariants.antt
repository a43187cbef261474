-- `vectors::put_bytes` meets its contract: it keeps at most two digits per byte of the vector.
use Rattle.std.proofs.Common.{length, ◌*◌, ◌≤◌}
use Rattle.vectors.proofs.put_bytes.Given as goal

abbrev pub invariant-loop-i : goal.invariant-loop-i
invariant-loop-i l = l.n ≤ 2 * length l.vector

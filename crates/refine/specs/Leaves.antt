-- The leaves of a refined map are few enough to be counted. Only an inner contract cites this.
use Rattle.std.specs.Prelude.{ℕ, ◌≤◌, ◌^◌, List, length}
use native.Mathlib.Omega.{arith}
use Rattle.cube.specs.declared.Root.{Root}
use Rattle.cube.specs.declared.Cube.{Cube}
use Rattle.cube.proofs.Limits.{limits-sizes}
use Rattle.colour.specs.declared.State.{State}
use Rattle.zonemap.specs.Opening.{leaves_of}
use Rattle.replacing.specs.Replace.{refined_leaves}
use Rattle.replacing.specs.Walk.{Deeper}
use Rattle.replacing.proofs.Places.{few-before}

pub few : (map : List ℕ) (root : Root) → Deeper map root → (over : Cube → State) → length (refined_leaves over root.d map) ≤ 2 ^ 30
unfolding refined_leaves
few map root deeper over = few-before map deeper.opens over root.d deeper.depth (limits-sizes root deeper.within).1 (length (leaves_of map)) (omega arith)

-- The root as a closed cube is the closed root, axis by axis; and a closed cube includes its planes, the high ones too. For given numbers that is computed.
use Prim.Native.Nat.{ℕ, ◌≤◌}
use native.Mathlib.Omega.{arith}
use lib.Dec.{T}
use lib.IntN.{ℤ, pos, ◌+ℤ◌, ◌*ℤ◌}
use lib.Signed.{le_z}
use Rattle.integers.proofs.Naturals.{ints, +-is}
use Rattle.cube.specs.declared.Root.{Root}
use Rattle.cube.specs.declared.Cube.{Cube}
use Rattle.cube.specs.Cubes.{root_cube}
use Rattle.meaning.specs.Fractions.{FractionalPoint, BetweenPlanes, whole, InClosed, InClosedRoot}
use Rattle.meaning.proofs.Whole.{whole-between}

module _ (r : Root) (p : FractionalPoint) where
  pub in-closed-root : InClosed (root_cube r) p → InClosedRoot r p
  unfolding root_cube
  in-closed-root h = record { x = h.x; y = h.y; z = h.z }

  pub closed-root-holds : InClosedRoot r p → InClosed (root_cube r) p
  unfolding root_cube
  closed-root-holds h = record { x = h.x; y = h.y; z = h.z }

-- the whole points from the low corner to the high one are in the closed cube
pub from-low-to-high : (q : Cube) (a b c : ℕ) → a ≤ q.side → b ≤ q.side → c ≤ q.side → InClosed q (whole (record { x = q.x +ℤ pos a; y = q.y +ℤ pos b; z = q.z +ℤ pos c }))
from-low-to-high q a b c ha hb hc = record { x = on q.x a ha; y = on q.y b hb; z = on q.z c hc }
  where
    on : (low : ℤ) (i : ℕ) → i ≤ q.side → BetweenPlanes low q.side (low +ℤ pos i) 1
    on low i h = whole-between low q.side (low +ℤ pos i) (omega (arith, ints, +-is low (pos i))) (omega (arith, ints, +-is low (pos i), +-is low (pos q.side)))

-- a number lies between two planes, by computation
abbrev pub lies : {plane : ℤ} {side : ℕ} {a : ℤ} {n : ℕ} → T (le_z (plane *ℤ pos n) a) → T (le_z a ((plane +ℤ pos side) *ℤ pos n)) → BetweenPlanes plane side a n
lies l u = record { low = record { le = l }; high = record { le = u } }

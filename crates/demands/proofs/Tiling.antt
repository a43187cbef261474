-- The leaves of a map that opens tile its root: each whole point is in one leaf, high planes left out, and each point of the closed root is in the closed cube
-- of some leaf.
use mathlib.Core.Path.{◌≡◌}
use mathlib.Core.Bool.{Bool}
use mathlib.Core.List.{List, []}
use Prim.Native.Nat.{ℕ, ◌<◌}
use lib.Pow.{pow_pos}
use Rattle.cube.specs.declared.Root.{Root}
use Rattle.cube.specs.declared.Point.{Point}
use Rattle.cube.specs.Cubes.{root_cube}
use Rattle.cube.specs.Points.{InRoot}
use Rattle.cube.proofs.InRoot.{in-root, root-holds}
use Rattle.meaning.specs.Fractions.{FractionalPoint, InClosedRoot}
use Rattle.meaning.proofs.Closed.{closed-root-holds}
use Rattle.meaning.proofs.Cover.{beside-point, beside-held, beside-closed}
use Rattle.zonemap.specs.Opening.{root_of, fault_of, any_face}
use Rattle.zonemap.specs.Leaves.{nth_cube}
use Rattle.zonemap.proofs.Tiling.{one, in_one, only_one}
use Rattle.zone.specs.Replies.{zone_open_of}
use Rattle.demands.specs.Terms.{ExactlyOne, Holds, Touches}
use Rattle.demands.proofs.Opening.{opened-fault}

root-side : (r : Root) → 0 < (root_cube r).side
unfolding root_cube
root-side r = pow_pos r.k

-- the leaf that a lookup finds holds the point
pub found : (named : ℕ → Bool) (map : List ℕ) (opens : fault_of named map ≡ []) (p : Point) (inside : InRoot (root_of map) p) → Holds map p (one named map opens p (root-holds (root_of map) p inside))
found named map opens p inside = let t = in_one named map opens p (root-holds (root_of map) p inside) in record { among = t.0; held = t.1 }

module _ (map : List ℕ) (opened : (zone_open_of map).code ≡ 0) where
  opens : fault_of any_face map ≡ []
  opens = opened-fault map opened

  pub tiling : (p : Point) → InRoot (root_of map) p → ExactlyOne (Holds map p)
  tiling p inside = record {
    one = one any_face map opens p (root-holds (root_of map) p inside);
    fits = found any_face map opens p inside;
    no_second = λ i h. only_one any_face map opens p (root-holds (root_of map) p inside) i h.among h.held;
  }

  pub covering : (p : FractionalPoint) → InClosedRoot (root_of map) p → (i : ℕ) × Touches map p i
  covering p inside =
      let h = closed-root-holds (root_of map) p inside in
      let positive = root-side (root_of map) in
      let t = tiling (beside-point _ p positive h) (in-root (root_of map) _ (beside-held _ p positive h)) in
      (t.one, record { among = t.fits.among; closed = beside-closed _ p positive h (nth_cube map t.one) t.fits.held })

-- In a map that opens, each whole point of the root is in exactly one leaf: the one that holds the point's place.
use mathlib.Core.Path.{◌≡◌, ap}
use mathlib.Core.Bool.{Bool, true}
use mathlib.Core.List.{List, []}
use Prim.Native.Nat.{ℕ, ◌+◌, ◌-◌, ◌*◌, ◌/◌, ◌^◌, ◌≤◌, ◌<◌}
use native.Mathlib.Nat.{div-add-mod'}
use native.Mathlib.Omega.{arith}
use lib.ListN.{length, get_or}
use Rattle.cube.specs.declared.Point.{Point}
use Rattle.cube.specs.declared.Root.{Root}
use Rattle.cube.specs.Limits.{in_limits}
use Rattle.cube.specs.Cubes.{root_cube, cube_at, cube_around}
use Rattle.cube.specs.Points.{holds_point, place_of}
use Rattle.cube.proofs.Places.{place-below}
use Rattle.cube.proofs.AtPlace.{placed-holds, holds-placed}
use Rattle.cube.proofs.Around.{around-is}
use Rattle.zonemap.specs.declared.Leaf.{Leaf}
use Rattle.zonemap.specs.Opening.{root_of, leaves_of, size_of, fault_of, leaf_at}
use Rattle.zonemap.specs.Leaves.{place_at, nowhere, Holds}
use Rattle.zonemap.proofs.Runs.{Run, Fine, run_at, opens-run, good-level, good-place}
use Rattle.zonemap.proofs.Finding.{leaf-holds, holds-one, opens-parts, opens-sizes}

module _ (named : ℕ → Bool) (s : List ℕ) (opens : fault_of named s ≡ []) where
  abbrev r : Root
  r = root_of s

  abbrev d : ℕ
  d = r.d

  abbrev ls : List Leaf
  ls = leaves_of s

  within : in_limits r ≡ true
  within = (opens-sizes named s opens).2

  run : Run (Fine named d) d 0 ls (8 ^ d)
  run = opens-run named d 0 19 ls (opens-parts named s opens).1

  -- leaf i, and whether its cube holds a point
  abbrev leaf : ℕ → Leaf
  leaf i = get_or ls i nowhere

  abbrev pub InLeaf : Point → ℕ → Type 0
  InLeaf p i = holds_point (cube_at r (place_at d i ls) (leaf i).level) p ≡ true

  module _ (i : ℕ) (h : i < length ls) where
    fine : Fine named d (place_at d i ls) (leaf i)
    fine = let z : 0 + place_at d i ls ≡ place_at d i ls = omega arith in rw z at (run_at (Fine named d) d 0 (8 ^ d) i ls run h)

    levels : (leaf i).level + (d - (leaf i).level) ≡ d
    levels = omega (arith, good-level named d (place_at d i ls) (leaf i) fine)

    -- its place is a multiple of its size
    times : place_at d i ls / size_of d (leaf i) * size_of d (leaf i) ≡ place_at d i ls
    times = omega (arith, div-add-mod' (place_at d i ls) (size_of d (leaf i)), (good-place named d (place_at d i ls) (leaf i) fine).0)

  module _ (p : Point) (inside : holds_point (root_cube r) p ≡ true) where
    -- the leaf that holds the point's place
    abbrev pub one : ℕ
    one = leaf_at d (place_of r p) 0 ls

    held : Holds d (place_of r p) 0 one ls
    held = leaf-holds (Fine named d) d (place_of r p) 0 (8 ^ d) ls run (omega arith) (place-below r p)

    -- it is a leaf of the map, and its cube holds the point
    pub in_one : (one < length ls) × InLeaf p one
    in_one =
        let t = times one held.among in (
          held.among,
          rw t at
              (placed-holds r p within inside (d - (leaf one).level) (leaf one).level (place_at d one ls / size_of d (leaf one)) (levels one held.among)
              (omega (arith, t, held.from)) (omega (arith, t, held.till))),
        )

    module _ (i : ℕ) (h : i < length ls) (e : InLeaf p i) where
      -- a leaf whose cube holds the point has the point's place among its own
      placed : (place_at d i ls ≤ place_of r p) × (place_of r p < place_at d i ls + size_of d (leaf i))
      placed =
          let t = times i h in
          let b = holds-placed r p within inside (d - (leaf i).level) (leaf i).level (place_at d i ls / size_of d (leaf i)) (levels i h) (omega (arith, t, (good-place named d (place_at d i ls) (leaf i) (fine i h)).1)) (rw t e) in
          (omega (arith, t, b.0), omega (arith, t, b.1))

      -- so no other leaf's does
      pub only_one : i ≡ one
      only_one = holds-one d (place_of r p) 0 i ls (record { among = h; from = omega (arith, placed); till = omega (arith, placed) })

      -- and its cube is the one of its level that the point's place lies in
      pub around-point : cube_around r (place_of r p) (leaf i).level ≡ cube_at r (place_at d i ls) (leaf i).level
      around-point =
          let t = times i h in
          rw t at (around-is r (d - (leaf i).level) (leaf i).level (place_at d i ls / size_of d (leaf i)) (place_of r p) (levels i h) (omega (arith, t, placed.0)) (omega (arith, t, placed.1)))

      -- a smallest leaf is at the point's place
      pub smallest-place : (leaf i).level ≡ d → place_at d i ls ≡ place_of r p
      smallest-place same =
          let w : d - (leaf i).level ≡ 0 = omega arith in
          let s : size_of d (leaf i) ≡ 1 = ap (λ (n : ℕ). 8 ^ n) w in
          omega (arith, s, placed)

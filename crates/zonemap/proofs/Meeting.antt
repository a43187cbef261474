-- Each leaf of a map that opens: its bytes are in the map, its level is at most the depth, and it ends within the root.
use mathlib.Core.Path.{◌≡◌, refl, sym, ◌∙◌}
use mathlib.Core.Bool.{Bool, true}
use mathlib.Core.List.{List, [], ◌∷◌}
use Prim.Native.Nat.{ℕ, zero, suc, ◌+◌, ◌-◌, ◌*◌, ◌/◌, ◌^◌, ◌≤◌, ◌<◌}
use native.Mathlib.Nat.{zero-lt-suc, one-le-pow}
use native.Mathlib.Omega.{arith}
use lib.IntN.{pos}
use lib.ListN.{length, get_or}
use mir.Syntax.{w32, w64}
use mir.Val.{Fits, SFits}
use Rattle.cube.specs.declared.Root.{Root}
use Rattle.cube.specs.declared.Cube.{Cube}
use Rattle.cube.specs.Limits.{in_limits}
use Rattle.cube.specs.Cubes.{cube_at}
use Rattle.cube.proofs.Limits.{limits-sizes}
use Rattle.zonemap.specs.declared.Leaf.{Leaf}
use Rattle.zonemap.specs.declared.Met.{Met}
use Rattle.zonemap.specs.Opening.{root_of, leaf_in, leaves_of, size_of, fault_of}
use Rattle.zonemap.specs.Leaves.{place_at, nowhere, nth_leaf, nth_place, nth_cube}
use Rattle.zonemap.proofs.Powers.{power_below}
use Rattle.zonemap.proofs.Runs.{Fine, opens-run, run_at, run_end, good-level, good-place}
use Rattle.zonemap.proofs.Finding.{leaves-count, leaf-bytes, opens-parts, opens-sizes}

-- the place of the next leaf
pub place-on : (d i : ℕ) (ls : List Leaf) → i < length ls → place_at d (i + 1) ls ≡ place_at d i ls + size_of d (get_or ls i nowhere)
unfolding place_at
place-on d i [] h = absurd (omega arith)
place-on d zero (l ∷ ls) h = omega arith
place-on d (suc i) (l ∷ ls) h = let z : suc i + 1 ≡ suc (i + 1) = omega arith in rw z (omega (arith, place-on d i ls (omega arith)))

pub count-is : (map : List ℕ) → (length map - 19) / 3 ≡ length (leaves_of map)
count-is map = sym (leaves-count map ((length map - 19) / 3) 19)

pub open-long : (map : List ℕ) → ((named : ℕ → Bool) × (fault_of named map ≡ [])) → 19 ≤ length map
open-long map opens = (opens-sizes opens.0 map opens.1).0

-- each leaf has at least one smallest cube, so there are at most 8^d leaves
few : (d : ℕ) (ls : List Leaf) → length ls ≤ place_at d (length ls) ls
unfolding place_at
few d [] = omega arith
few d (l ∷ ls) = omega (arith, few d ls, one-le-pow (d - l.level) 8 (zero-lt-suc 7))

-- leaf i is good at its own place
pub leaf-fine : (map : List ℕ) (opens : (named : ℕ → Bool) × (fault_of named map ≡ [])) (i : ℕ) → i < length (leaves_of map) → Fine opens.0 (root_of map).d (nth_place map i) (nth_leaf map i)
leaf-fine map opens i among =
    let z : 0 + nth_place map i ≡ nth_place map i = omega arith in
    rw z at (run_at (Fine opens.0 (root_of map).d) (root_of map).d 0 (8 ^ (root_of map).d) i (leaves_of map) (opens-run opens.0 (root_of map).d 0 19 (leaves_of map) (opens-parts opens.0 map opens.1).1) among)

-- all leaves end at 8^d
pub all_end : (map : List ℕ) → ((named : ℕ → Bool) × (fault_of named map ≡ [])) → nth_place map (length (leaves_of map)) ≡ 8 ^ (root_of map).d
all_end map opens =
    let d = (root_of map).d in
    omega (arith, run_end (Fine opens.0 d) d 0 (8 ^ d) (leaves_of map) (opens-run opens.0 d 0 19 (leaves_of map) (opens-parts opens.0 map opens.1).1))

pub leaves-small : (map : List ℕ) → ((named : ℕ → Bool) × (fault_of named map ≡ [])) → length (leaves_of map) ≤ 2 ^ 30
leaves-small map opens =
    let d = (root_of map).d in
    omega (arith, few d (leaves_of map), all_end map opens, power_below d (limits-sizes (root_of map) (opens-sizes opens.0 map opens.1).2).1)

pub open-few : (map : List ℕ) → ((named : ℕ → Bool) × (fault_of named map ≡ [])) → (n : ℕ) → n ≡ length (leaves_of map) → SFits w64 (pos n)
open-few map opens n e = record { sfits = omega (arith, leaves-small map opens) }

pub among-leaves : (map : List ℕ) (n i : ℕ) → n ≡ length (leaves_of map) → i < n → i < length (leaves_of map)
among-leaves map n i e h = omega arith

-- a walk starts at place 0
pub first-place : (map : List ℕ) → 0 ≡ nth_place map 0
unfolding place_at
first-place map = refl

-- and continues at the place after each leaf
pub next_place : (map : List ℕ) (i : ℕ) (met : Met) → met ≡ record { leaf = nth_leaf map i; cube = nth_cube map i; next = nth_place map (i + 1) } → met.next ≡ nth_place map (i + 1)
next_place map i met e = rw e

-- i is the number of the leaf, l what `leaf_at` returned, and `place` its place
module _ (map : List ℕ) (opens : (named : ℕ → Bool) × (fault_of named map ≡ [])) (root : Root) (is : root ≡ root_of map) (i : ℕ) (among : i < length (leaves_of map)) where
  pub met-room : 19 + 3 * i + 3 ≤ length map
  met-room = omega (arith, count-is map, (opens-sizes opens.0 map opens.1).0)

  pub met-within : in_limits root ≡ true
  met-within = rw is (opens-sizes opens.0 map opens.1).2

  fine : Fine opens.0 (root_of map).d (nth_place map i) (nth_leaf map i)
  fine = leaf-fine map opens i among

  module _ (l : Leaf) (e : l ≡ leaf_in map (19 + 3 * i)) where
    leaf-is : l ≡ nth_leaf map i
    leaf-is = e ∙ sym (leaf-bytes map i among)

    pub met-level : l.level ≤ root.d
    met-level = rw (leaf-is, is) (good-level opens.0 (root_of map).d (nth_place map i) (nth_leaf map i) fine)

    pub met-deep : root.d - l.level ≤ 10
    met-deep = omega (arith, (limits-sizes root met-within).1)

    module _ (place : ℕ) (there : place ≡ nth_place map i) where
      pub met-end : (size : ℕ) → size ≡ 8 ^ (root.d - l.level) → Fits w32 (place + size)
      met-end size g =
          let t : place + 8 ^ (root.d - l.level) ≤ 8 ^ root.d = rw (there, leaf-is, is) (good-place opens.0 (root_of map).d (nth_place map i) (nth_leaf map i) fine).1 in
          record { fits = omega (arith, power_below root.d (limits-sizes root met-within).1) }

      pub met-is : (q : Cube) (size : ℕ) → q ≡ cube_at root place l.level → size ≡ 8 ^ (root.d - l.level)
          → ◌≡◌ {A = Met} (record { leaf = l; cube = q; next = place + size }) (record { leaf = nth_leaf map i; cube = nth_cube map i; next = nth_place map (i + 1) })
      met-is q size f g =
          let next : place + size ≡ nth_place map (i + 1) = rw (there, g, leaf-is, is) (sym (place-on (root_of map).d i (leaves_of map) among)) in
          rw (f, next, there, is, leaf-is)

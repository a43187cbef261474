-- The walk from the root of a map: what it asks, and that it passes all leaves of the map.
use mathlib.Core.Path.{◌≡◌, sym, ap, ap₂, ◌∙◌}
use mathlib.Core.List.{List}
use Prim.Native.Nat.{ℕ, ◌+◌, ◌-◌, ◌*◌, ◌^◌}
use native.Mathlib.Nat.{zero-add, zero-mul}
use native.Mathlib.Omega.{arith}
use lib.ListN.{length}
use Rattle.cube.specs.declared.Root.{Root}
use Rattle.cube.specs.declared.Cube.{Cube}
use Rattle.cube.specs.Cubes.{root_cube, cube_at}
use Rattle.cube.proofs.Cubes.{root-cube}
use Rattle.colour.specs.declared.State.{State}
use Rattle.zonemap.specs.Opening.{root_of, leaves_of}
use Rattle.zonemap.specs.Leaves.{place_at}
use Rattle.replacing.specs.Replace.{replaced_at, refined_leaves}
use Rattle.replacing.specs.Walk.{Deeper, between, Along, Passed}
use Rattle.replacing.proofs.Pieces.{piece-all}
use Rattle.replacing.proofs.Places.{leaf_last}

module _ (map : List ℕ) (root : Root) (deeper : Deeper map root) where
  -- q is what `cube` returned
  module _ (q : Cube) (is : q ≡ root_cube root) where
    level-is : q.level ≡ 0
    unfolding root_cube
    level-is = ap (λ (x : Cube). x.level) is

    cube-is : q ≡ cube_at (root_of map) (0 * 8 ^ (root_of map).d) q.level
    unfolding root_cube
    cube-is =
        is ∙ ap root_cube deeper.same ∙ sym (root-cube (root_of map))
        ∙ ap₂ (cube_at (root_of map)) (sym (zero-mul (8 ^ (root_of map).d))) (sym level-is)

    pub walks : Along (q.level + root.d) map q 0
    unfolding place_at
    walks =
        let z : q.level + root.d ≡ root.d = omega (arith, level-is) in
        rw z
        (record {
          opens = deeper.opens;
          depth = deeper.depth;
          begins = record {
            below = (root_of map).d;
            number = 0;
            depth = omega (arith, level-is);
            place = sym (zero-mul (8 ^ (root_of map).d));
            cube = cube-is;
            end = omega arith;
            deep = omega (arith, level-is);
          };
        })

    module _ (over : Cube → State) where
      -- what all leaves are replaced by
      pub all-between : between over (q.level + root.d) map 0 (length (leaves_of map)) ≡ refined_leaves over root.d map
      unfolding refined_leaves
      all-between =
          let z : q.level + root.d ≡ root.d = omega (arith, level-is) in
          let y : length (leaves_of map) - 0 ≡ length (leaves_of map) = omega arith in
          rw (z, y) (piece-all (replaced_at over root.d map) (length (leaves_of map)))

      -- the leaf after those of the root is the one after the last
      pub passed-between : (j : ℕ) → Passed map q 0 j → between over (q.level + root.d) map 0 j ≡ refined_leaves over root.d map
      unfolding place_at
      passed-between j passed =
          let z : (root_of map).d - q.level ≡ (root_of map).d = omega (arith, level-is) in
          let last = leaf_last map deeper.opens j passed.among (passed.place ∙ zero-add _ ∙ ap (λ (n : ℕ). 8 ^ n) z) in
          ap (between over (q.level + root.d) map 0) last ∙ all-between

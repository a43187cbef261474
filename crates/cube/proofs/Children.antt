-- Child number = x half + 2 (y half) + 4 (z half): the child of that number is the one in these halves.
use mathlib.Core.Path.{◌≡◌}
use Prim.Native.Nat.{ℕ, ◌+◌, ◌*◌, ◌/◌, ◌%◌, ◌<◌}
use native.Mathlib.Omega.{arith}
use lib.IntN.{pos, ◌+ℤ◌}
use Rattle.cube.specs.declared.Cube.{Cube}
use Rattle.cube.specs.Cubes.{half, child_of}

module _ (x y z : ℕ) (hx : x < 2) (hy : y < 2) (hz : z < 2) where
  abbrev Number : ℕ
  Number = x + 2 * y + 4 * z

  pub child-in-halves : (q : Cube) →
      child_of q Number ≡ record { x = q.x +ℤ pos (x * (q.side / 2)); y = q.y +ℤ pos (y * (q.side / 2)); z = q.z +ℤ pos (z * (q.side / 2)); side = q.side / 2; level = q.level + 1 }
  unfolding child_of
  child-in-halves q =
      let a : half 0 Number ≡ x = omega arith in
      let b₁ : Number / 2 ≡ y + 2 * z = omega arith in
      let b₂ : (y + 2 * z) % 2 ≡ y = omega arith in
      let c₁ : Number / 4 ≡ z = omega arith in
      let c₂ : z % 2 ≡ z = omega arith in
      rw (a, b₁, b₂, c₁, c₂)

-- The tests of the header and of one leaf: what the proofs of these functions of `opening` need.
use Rattle.std.specs.Prelude.{Option, None, Some}
use mathlib.Core.Path.{◌≡◌}
use mathlib.Core.Bool.{Bool, true, false, cond}
use mathlib.Core.List.{List}
use Prim.Native.Nat.{ℕ, ◌+◌, ◌%◌, ◌^◌, ◌≤◌, ◌<◌}
use native.Mathlib.Omega.{arith}
use Rattle.std.proofs.lemmas.Bool.Decides.{nat_tests}
use lib.IntN.{ℤ}
use lib.ListN.{length, get_or}
use lib.Signed.{mag}
use mir.Syntax.{w32}
use mir.Val.{to_z, of_z}
use Rattle.integers.proofs.Machine.{again}
use Rattle.bigendian.specs.Numbers.{signed_at}
use Rattle.cube.specs.declared.Root.{Root}
use Rattle.zonemap.specs.declared.Leaf.{Leaf}
use Rattle.zonemap.specs.Opening.{length_good, root_of, size_of, leaf_good}
use Rattle.zonemap.proofs.Runs.{good-place}

-- ---- the bytes before the leaves
-- a good length is 19 + 3n
pub length-told : (s : List ℕ) → length_good s ≡ true → (19 ≤ length s) × (length s % 3 ≡ 1)
unfolding length_good
length-told s e =
    (grind (arith, nat_tests), grind (arith, nat_tests))

-- root: x, y and z are what `i32_at` returned
pub root_told : (s : List ℕ) (x y z : ℤ) → x ≡ signed_at s 5 → y ≡ signed_at s 9 → z ≡ signed_at s 13 → mag x < 2 ^ 31 → mag y < 2 ^ 31 → mag z < 2 ^ 31 →
    ◌≡◌ {A = Root} (record { x = to_z w32 (of_z w32 x); y = to_z w32 (of_z w32 y); z = to_z w32 (of_z w32 z); k = get_or s 17 0; d = get_or s 18 0 }) (root_of s)
unfolding root_of
root_told s x y z ex ey ez fx fy fz = rw (again w32 x (signed_at s 5) ex fx, again w32 y (signed_at s 9) ey fy, again w32 z (signed_at s 13) ez fz)

-- read_header
pub length_room : (s : List ℕ) → length_good s ≡ true → 19 ≤ length s
length_room s e = (length-told s e).0

-- ---- one leaf
-- what a size tells: o is what `good_size` returned
module _ (named : ℕ → Bool) (d p : ℕ) (l : Leaf) (o : Option ℕ) (e : o ≡ cond (leaf_good named d p l) (Some (size_of d l)) None) where
  pub sized-good : (r : ℕ) → o ≡ Some r → (leaf_good named d p l ≡ true) × (r ≡ size_of d l)
  sized-good r k = (grind (arith, nat_tests), grind (arith, nat_tests))

  pub sized-bad : o ≡ None → leaf_good named d p l ≡ false
  sized-bad k = grind (arith, nat_tests)

  pub sized-room : (r : ℕ) → o ≡ Some r → p + r ≤ 8 ^ d
  sized-room r k = let t = sized-good r k in omega (arith, t.1, (good-place named d p l t.0).1)

-- The byte at which each number of a map starts. `Trip` says that what was written is read back, but not where it is.
use mathlib.Core.Path.{◌≡◌, refl, ap, ◌∙◌}
use mathlib.Core.Bool.{true}
use mathlib.Core.List.{List, [], ◌∷◌, ◌++◌}
use Prim.Native.Nat.{ℕ, zero, suc, ◌+◌, ◌*◌, ◌^◌, ◌≤◌, ◌<◌}
use native.Mathlib.Omega.{arith}
use lib.ListN.{length, get_or}
use lib.Seq.{get_or-append-add}
use Rattle.bigendian.specs.Numbers.{bytes_of, unsigned_at, signed_at}
use Rattle.bigendian.proofs.Written.{unsigned_back}
use Rattle.cube.specs.declared.Root.{Root}
use Rattle.cube.specs.Limits.{in_limits}
use Rattle.zonemap.specs.declared.Leaf.{Leaf}
use Rattle.zonemap.specs.Map.{leaf_bytes, leaves_bytes, signed_bytes, corner_bytes, header_of, map_of}
use Rattle.zonemap.specs.Opening.{root_of}
use Rattle.zonemap.specs.Leaves.{nowhere}
use Rattle.zonemap.proofs.Bytes.{header-length}
use Rattle.zonemap.proofs.Trip.{root-back}

-- Bytes 0 to 3: how many bytes follow. Byte 4: version, 1. Then X, Y, Z, k, d. With n leaves the map has 19 + 3n bytes, so 15 + 3n follow the first four.
pub record Header (r : Root) (n : ℕ) (s : List ℕ) : Type 0 where
  pub follow : unsigned_at 4 s 0 ≡ 15 + 3 * n
  pub version : get_or s 4 0 ≡ 1
  pub x : signed_at s 5 ≡ r.x
  pub y : signed_at s 9 ≡ r.y
  pub z : signed_at s 13 ≡ r.z
  pub k : get_or s 17 0 ≡ r.k
  pub d : get_or s 18 0 ≡ r.d

pub header_is : (r : Root) (ls : List Leaf) → in_limits r ≡ true → length ls ≤ 2 ^ 30 → Header r (length ls) (map_of r ls)
unfolding root_of map_of header_of corner_bytes bytes_of
header_is r ls e h =
    let back = root-back r ls e in
    record {
      follow = unsigned_back 4 (15 + 3 * length ls) [] (1 ∷ signed_bytes r.x ++ signed_bytes r.y ++ signed_bytes r.z ++ r.k ∷ r.d ∷ leaves_bytes ls) (omega arith);
      version = refl;
      x = ap (λ (q : Root). q.x) back;
      y = ap (λ (q : Root). q.y) back;
      z = ap (λ (q : Root). q.z) back;
      k = refl;
      d = refl;
    }

-- then three bytes a leaf: level, class, face number
pub record LeafBytes (l : Leaf) (s : List ℕ) (at : ℕ) : Type 0 where
  pub level : get_or s at 0 ≡ l.level
  pub class : get_or s (at + 1) 0 ≡ l.class
  pub face : get_or s (at + 2) 0 ≡ l.face

next : (b c d : ℕ) (s : List ℕ) (i j : ℕ) → j ≡ 3 + i → get_or (b ∷ c ∷ d ∷ s) j 0 ≡ get_or s i 0
next b c d s i j e = let n : j ≡ suc (suc (suc i)) = omega arith in rw n

in_bytes : (ls : List Leaf) (i : ℕ) → i < length ls → LeafBytes (get_or ls i nowhere) (leaves_bytes ls) (3 * i)
unfolding leaves_bytes leaf_bytes
in_bytes [] i h = absurd (omega arith)
in_bytes (l ∷ ls) zero h = record { level = refl; class = refl; face = refl }
in_bytes (l ∷ ls) (suc i) h =
    let b = in_bytes ls i (omega arith) in
    record {
      level = next _ _ _ (leaves_bytes ls) (3 * i) (3 * suc i) (omega arith) ∙ b.level;
      class = next _ _ _ (leaves_bytes ls) (3 * i + 1) (3 * suc i + 1) (omega arith) ∙ b.class;
      face = next _ _ _ (leaves_bytes ls) (3 * i + 2) (3 * suc i + 2) (omega arith) ∙ b.face;
    }

pub leaf-bytes-are : (r : Root) (ls : List Leaf) (i : ℕ) → i < length ls → LeafBytes (get_or ls i nowhere) (map_of r ls) (19 + 3 * i)
unfolding map_of
leaf-bytes-are r ls i h =
    let b = in_bytes ls i h in
    record {
      level = moved (3 * i) (19 + 3 * i) (omega arith) ∙ b.level;
      class = moved (3 * i + 1) (19 + 3 * i + 1) (omega arith) ∙ b.class;
      face = moved (3 * i + 2) (19 + 3 * i + 2) (omega arith) ∙ b.face;
    }
  where
    moved : (j at : ℕ) → at ≡ 19 + j → get_or (header_of r (length ls) ++ leaves_bytes ls) at 0 ≡ get_or (leaves_bytes ls) j 0
    moved j at e =
        let f : at ≡ length (header_of r (length ls)) + j = omega (arith, header-length r (length ls)) in
        rw f (get_or-append-add (header_of r (length ls)) (leaves_bytes ls) j 0)

-- Opening a map: the tests of its bytes, the offset of the first fault, and the leaf that holds a place or a point.
use Rattle.std.specs.Prelude.{ℕ, zero, suc, ◌+◌, ◌-◌, ◌*◌, ◌/◌, ◌%◌, ◌^◌, Bool, true, cond, not, ◌&&◌, ◌||◌, List, [], ◌∷◌, eqb, leb, ltb, length, get_or, Err, Ok, Result}
use Rattle.integers.specs.First.{on_first}
use Rattle.bigendian.specs.Numbers.{unsigned_at, signed_at}
use Rattle.replies.specs.declared.Refusal.TheVariants.{Map}
use Rattle.replies.specs.Table.{Reply}
use Rattle.cube.specs.declared.Root.{Root}
use Rattle.cube.specs.declared.Point.{Point}
use Rattle.cube.specs.Limits.{in_limits}
use Rattle.cube.specs.Cubes.{root_cube}
use Rattle.cube.specs.Points.{holds_point, place_of}
use Rattle.zonemap.specs.declared.Leaf.{Leaf}
use Rattle.zonemap.specs.declared.Found.{Found}
use Rattle.zonemap.specs.Map.{map_version, header_size}

-- ---- the bytes
-- the length agrees and is 15 + 3n (15 is a multiple of 3)
unfoldable pub length_good : List ℕ → Bool
length_good s = eqb (unsigned_at 4 s 0 + 4) (length s) && leb 15 (unsigned_at 4 s 0) && eqb (unsigned_at 4 s 0 % 3) 0

-- X, Y, Z, k and d
unfoldable pub root_of : List ℕ → Root
root_of s = record { x = signed_at s 5; y = signed_at s 9; z = signed_at s 13; k = get_or s 17 0; d = get_or s 18 0 }

-- level, class, face number
unfoldable pub leaf_in : List ℕ → ℕ → Leaf
leaf_in s at = record { level = get_or s at 0; class = get_or s (at + 1) 0; face = get_or s (at + 2) 0 }

-- n leaves from `at` on
unfoldable pub leaves_in : List ℕ → ℕ → ℕ → List Leaf
leaves_in s zero at = []
leaves_in s (suc n) at = leaf_in s at ∷ leaves_in s n (at + 3)

-- the leaves from `at` to the end
abbrev pub leaves_from : List ℕ → ℕ → List Leaf
leaves_from s at = leaves_in s ((length s - at) / 3) at

-- the leaves of a map
abbrev pub leaves_of : List ℕ → List Leaf
leaves_of s = leaves_from s header_size

-- ---- one leaf
-- the number of smallest cubes in a leaf: 8^(d-level)
abbrev pub size_of : ℕ → Leaf → ℕ
size_of d l = 8 ^ (d - l.level)

-- level at most d, class at most 4, gray only at level d
unfoldable pub level_good : ℕ → Leaf → Bool
level_good d l = leb l.level d && leb l.class 4 && (not (eqb l.class 4) || eqb l.level d)

-- face 0 unless class 2 or 3, and then a face that may be named
unfoldable pub face_good : (ℕ → Bool) → Leaf → Bool
face_good named l = cond (eqb l.class 2 || eqb l.class 3) (named l.face) (eqb l.face 0)

-- the place is a multiple of the leaf's own 8^(d-level), and the leaf ends at or before 8^d
unfoldable pub place_good : ℕ → ℕ → Leaf → Bool
place_good d place l = eqb (place % size_of d l) 0 && leb (place + size_of d l) (8 ^ d)

unfoldable pub leaf_good : (ℕ → Bool) → ℕ → ℕ → Leaf → Bool
leaf_good named d place l = level_good d l && face_good named l && place_good d place l

-- ---- the first fault, if there is one
-- In the leaves from `at` on, the first of which is at `place`: a bad leaf's first byte, or the end if they stop short. The place of a leaf is the sum of
-- 8^(d-level) over earlier leaves, and the sum over all is exactly 8^d.
unfoldable pub leaves_fault : (ℕ → Bool) → ℕ → ℕ → ℕ → List Leaf → List ℕ
leaves_fault named d place at [] = cond (eqb place (8 ^ d)) [] (at ∷ [])
leaves_fault named d place at (l ∷ ls) = cond (leaf_good named d place l) (leaves_fault named d (place + size_of d l) (at + 3) ls) (at ∷ [])

-- 0 length, 4 version, 5 root or depth
unfoldable pub header_fault : List ℕ → List ℕ
header_fault s =
    cond (not (length_good s)) (0 ∷ [])
    (cond (not (eqb (get_or s 4 0) map_version)) (4 ∷ [])
    (cond (not (in_limits (root_of s))) (5 ∷ [])
    []))

-- in a whole map; `named` says which face numbers a terminal leaf may have
unfoldable pub fault_of : (ℕ → Bool) → List ℕ → List ℕ
fault_of named s = on_first (header_fault s) (λ at. at ∷ []) (leaves_fault named (root_of s).d 0 header_size (leaves_of s))

-- without a sheet, a terminal leaf may name any face
abbrev pub any_face : ℕ → Bool
any_face f = true

-- the number of leaves, or reply 9 without its sheet clause
unfoldable pub open_of : List ℕ → Reply
open_of s = on_first (fault_of any_face s) (λ at. Err (Map at)) (Ok (length (leaves_of s)))

-- ---- the leaf that holds a place
-- the number of the leaf, where the first is at place p
unfoldable pub leaf_at : ℕ → ℕ → ℕ → List Leaf → ℕ
leaf_at d m p [] = 0
leaf_at d m p (l ∷ ls) = cond (ltb m (p + size_of d l)) 0 (suc (leaf_at d m (p + size_of d l) ls))

-- its offset in the map
abbrev pub offset_at : List ℕ → ℕ → ℕ
offset_at s m = header_size + 3 * leaf_at (root_of s).d m 0 (leaves_of s)

-- ---- the leaf that holds a point
-- its place, or the first place for a point outside the root, which has none
unfoldable pub place_or_first : Root → Point → ℕ
place_or_first root p = cond (holds_point (root_cube root) p) (place_of root p) 0

-- the root of a map that opens, with the offset of that leaf, or the first fault
unfoldable pub found_of : (ℕ → Bool) → List ℕ → Point → Result Found ℕ
found_of named s p = on_first (fault_of named s) Err (Ok (record { root = root_of s; at = offset_at s (place_or_first (root_of s) p) }))

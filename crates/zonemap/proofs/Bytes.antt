-- The bytes of a map: their number, and that the stores, one after another, write them.
use mathlib.Core.Path.{◌≡◌, refl, ap, ◌∙◌}
use mathlib.Core.List.{List, [], ◌∷◌, ◌++◌}
use Prim.Native.Nat.{ℕ, suc, ◌+◌, ◌*◌}
use native.Mathlib.Omega.{arith}
use lib.ListN.{length, set, length-append}
use lib.Seq.{sets}
use Rattle.integers.proofs.Stores.{sets-append}
use mir.Syntax.{w32}
use mir.Val.{SFits, to_z, of_z}
use mir.Facts.{to_z-of_z}
use Rattle.bigendian.specs.Numbers.{bytes_of, unsigned32}
use Rattle.bigendian.proofs.Written.{bytes-length}
use Rattle.cube.specs.declared.Root.{Root}
use Rattle.zonemap.specs.declared.Leaf.{Leaf}
use Rattle.zonemap.specs.Map.{leaf_bytes, leaves_bytes, signed_bytes, corner_bytes, header_of, map_of}

-- ---- their number
pub leaves-bytes-length : (ls : List Leaf) → length (leaves_bytes ls) ≡ 3 * length ls
unfolding leaves_bytes leaf_bytes
leaves-bytes-length [] = refl
leaves-bytes-length (l ∷ ls) = omega (arith, leaves-bytes-length ls)

pub leaves-bytes-append : (a b : List Leaf) → leaves_bytes (a ++ b) ≡ leaves_bytes a ++ leaves_bytes b
unfolding leaves_bytes leaf_bytes
leaves-bytes-append [] b = refl
leaves-bytes-append (l ∷ a) b = rw (leaves-bytes-append a b)

corner-length : (r : Root) → length (corner_bytes r) ≡ 12
unfolding corner_bytes bytes_of
corner-length r = refl

pub header-length : (r : Root) (n : ℕ) → length (header_of r n) ≡ 19
unfolding header_of corner_bytes bytes_of
header-length r n = refl

pub map-length : (r : Root) (ls : List Leaf) → length (map_of r ls) ≡ 19 + 3 * length ls
unfolding map_of
map-length r ls = omega (arith, length-append (header_of r (length ls)) (leaves_bytes ls), header-length r (length ls), leaves-bytes-length ls)

-- ---- stores: put_leaf
pub leaf-stored : (d : List ℕ) (at : ℕ) (l : Leaf) → set (set (set d at l.level) (at + 1) l.class) (at + 2) l.face ≡ sets d at (leaf_bytes l)
unfolding leaf_bytes
leaf-stored d at l =
    let one : at + 1 ≡ suc at = omega arith in
    let two : at + 2 ≡ suc (suc at) = omega arith in
    rw (one, two)

-- put_corner: d₁, d₂ and d₃ are the buffer after each call
module _ (r : Root) (d d₁ d₂ d₃ : List ℕ) (fx : SFits w32 r.x) (fy : SFits w32 r.y) (fz : SFits w32 r.z) where
  pub corner-stored : d₁ ≡ sets d 5 (signed_bytes (to_z w32 (of_z w32 r.x))) → d₂ ≡ sets d₁ 9 (signed_bytes (to_z w32 (of_z w32 r.y))) → d₃ ≡ sets d₂ 13 (signed_bytes (to_z w32 (of_z w32 r.z))) →
      d₃ ≡ sets d 5 (corner_bytes r)
  unfolding corner_bytes
  corner-stored x y z =
      rw (rw (to_z-of_z fz) at z, rw (to_z-of_z fy) at y, rw (to_z-of_z fx) at x)
      (ap (λ (l : List ℕ). sets l 13 (signed_bytes r.z)) (sets-append d 5 9 (signed_bytes r.x) (signed_bytes r.y) (first (unsigned32 r.x)))
      ∙ sets-append d 5 13 (signed_bytes r.x ++ signed_bytes r.y) (signed_bytes r.z) (second (unsigned32 r.x) (unsigned32 r.y)))
    where
      first : (u : ℕ) → 9 ≡ 5 + length (bytes_of 4 u)
      first u = omega (arith, bytes-length 4 u)

      second : (u v : ℕ) → 13 ≡ 5 + length (bytes_of 4 u ++ bytes_of 4 v)
      second u v = omega (arith, length-append (bytes_of 4 u) (bytes_of 4 v), bytes-length 4 u, bytes-length 4 v)

-- put_header: d₁ and d₂ are the buffer after each call
module _ (r : Root) (n : ℕ) (d d₁ d₂ : List ℕ) where
  abbrev count : List ℕ
  count = bytes_of 4 (15 + 3 * n)

  pub header-stored : d₁ ≡ sets d 0 count → d₂ ≡ sets (set d₁ 4 1) 5 (corner_bytes r) → set (set d₂ 17 r.k) 18 r.d ≡ sets d 0 (header_of r n)
  unfolding header_of
  header-stored e f =
      rw (f, e)
      (ap (λ (l : List ℕ). sets (sets l 5 (corner_bytes r)) 17 (r.k ∷ r.d ∷ [])) (sets-append d 0 4 count (1 ∷ []) (omega (arith, bytes-length 4 (15 + 3 * n))))
      ∙ ap (λ (l : List ℕ). sets l 17 (r.k ∷ r.d ∷ [])) (sets-append d 0 5 (count ++ 1 ∷ []) (corner_bytes r) (omega (arith, length-append count (1 ∷ []), bytes-length 4 (15 + 3 * n))))
      ∙ sets-append d 0 17 (count ++ 1 ∷ [] ++ corner_bytes r) (r.k ∷ r.d ∷ [])
      (omega (arith, length-append (count ++ 1 ∷ []) (corner_bytes r), length-append count (1 ∷ []), bytes-length 4 (15 + 3 * n), corner-length r)))

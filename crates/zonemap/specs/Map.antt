-- The bytes of a zone map.
use Rattle.std.specs.Prelude.{ℕ, ◌+◌, ◌*◌, List, [], ◌∷◌, ◌++◌, ℤ, length}
use Rattle.bigendian.specs.Numbers.{bytes_of, unsigned32}
use Rattle.cube.specs.declared.Root.{Root}
use Rattle.zonemap.specs.declared.Leaf.{Leaf}

-- three bytes a leaf: level, class, face number
unfoldable pub leaf_bytes : Leaf → List ℕ
leaf_bytes l = l.level ∷ l.class ∷ l.face ∷ []

unfoldable pub leaves_bytes : List Leaf → List ℕ
leaves_bytes [] = []
leaves_bytes (l ∷ ls) = leaf_bytes l ++ leaves_bytes ls

abbrev pub map_version : ℕ
map_version = 1

-- With n leaves the map has 19 + 3n bytes: 19 come before the leaves.
abbrev pub header_size : ℕ
header_size = 19

-- a 32-bit signed number
abbrev pub signed_bytes : ℤ → List ℕ
signed_bytes z = bytes_of 4 (unsigned32 z)

unfoldable pub corner_bytes : Root → List ℕ
corner_bytes r = signed_bytes r.x ++ signed_bytes r.y ++ signed_bytes r.z

-- Bytes 0 to 3: how many bytes follow, which is 15 + 3n with n leaves. Byte 4: the version. Then X, Y, Z, k and d.
unfoldable pub header_of : Root → ℕ → List ℕ
header_of r n = bytes_of 4 (15 + 3 * n) ++ map_version ∷ [] ++ corner_bytes r ++ r.k ∷ r.d ∷ []

-- the map with these leaves, in their order
unfoldable pub map_of : Root → List Leaf → List ℕ
map_of r ls = header_of r (length ls) ++ leaves_bytes ls

-- The round trip: what is written is read back.
use mathlib.Core.Path.{◌≡◌, refl}
use mathlib.Core.Bool.{Bool, true}
use mathlib.Core.List.{List, [], ◌∷◌, ◌++◌, append_assoc}
use Prim.Native.Nat.{ℕ, ◌+◌, ◌-◌, ◌*◌, ◌/◌, ◌%◌, ◌^◌, ◌≤◌}
use native.Mathlib.Omega.{arith}
use borrow.Author.Tests.{eq-eqb, le-leb}
use lib.IntN.{ℤ, nat_abs}
use lib.ListN.{length, get_or, length-append}
use lib.Seq.{get_or-append-add}
use mir.Syntax.{w32}
use mir.Val.{SFits}
use Rattle.integers.proofs.Machine.{fits}
use Rattle.bigendian.specs.Numbers.{bytes_of, unsigned_at}
use Rattle.bigendian.proofs.Written.{unsigned_back, signed_back}
use Rattle.cube.specs.declared.Root.{Root}
use Rattle.cube.specs.Limits.{in_limits}
use Rattle.cube.proofs.Limits.{near-x, near-y, near-z}
use Rattle.zonemap.specs.declared.Leaf.{Leaf}
use Rattle.zonemap.specs.Map.{leaf_bytes, leaves_bytes, map_version, signed_bytes, corner_bytes, header_of, map_of}
use Rattle.zonemap.specs.Opening.{length_good, root_of, leaf_in, leaves_in, leaves_of, header_fault, fault_of}
use Rattle.zonemap.proofs.Bytes.{header-length, map-length}
use Rattle.zonemap.proofs.Runs.{Run, Fine, run-opens}

-- ---- the leaves
leaves_in_lem : (h : List ℕ) (ls : List Leaf) → leaves_in (h ++ leaves_bytes ls) (length ls) (length h) ≡ ls
unfolding leaves_in leaf_in leaves_bytes leaf_bytes
leaves_in_lem h [] = refl
leaves_in_lem h (l ∷ ls) =
    let w : List ℕ = l.level ∷ l.class ∷ l.face ∷ [] in
    let t : List ℕ = w ++ leaves_bytes ls in
    let z : length h + 0 ≡ length h = omega arith in
    let a : get_or (h ++ t) (length h) 0 ≡ l.level = rw z at (get_or-append-add h t 0 0) in
    let b : get_or (h ++ t) (length h + 1) 0 ≡ l.class = get_or-append-add h t 1 0 in
    let c : get_or (h ++ t) (length h + 2) 0 ≡ l.face = get_or-append-add h t 2 0 in
    let i : leaves_in (h ++ t) (length ls) (length h + 3) ≡ ls = rw (append_assoc h w (leaves_bytes ls), length-append h w) at (leaves_in_lem (h ++ w) ls) in
    let o : leaf_in (h ++ t) (length h) ≡ l = λ j. record { level = a j; class = b j; face = c j } in
    rw (o, i)

pub leaves-back : (r : Root) (ls : List Leaf) → leaves_of (map_of r ls) ≡ ls
unfolding map_of
leaves-back r ls =
    let n : (length (map_of r ls) - 19) / 3 ≡ length ls = omega (arith, map-length r ls) in
    let i : leaves_in (map_of r ls) (length ls) 19 ≡ ls = rw (header-length r (length ls)) at (leaves_in_lem (header_of r (length ls)) ls) in
    rw n i

-- ---- the bytes before them
near_fits : (a : ℤ) (side : ℕ) → nat_abs a + side ≤ 2 ^ 21 → SFits w32 a
near_fits a side h = fits w32 a (omega arith)

module _ (r : Root) (ls : List Leaf) where
  abbrev count : List ℕ
  count = bytes_of 4 (15 + 3 * length ls)

  abbrev sizes : List ℕ
  sizes = r.k ∷ r.d ∷ leaves_bytes ls

  count-back : length ls ≤ 2 ^ 30 → unsigned_at 4 (map_of r ls) 0 ≡ 15 + 3 * length ls
  unfolding map_of header_of corner_bytes bytes_of
  count-back h = unsigned_back 4 (15 + 3 * length ls) [] (map_version ∷ signed_bytes r.x ++ signed_bytes r.y ++ signed_bytes r.z ++ sizes) (omega arith)

  pub root-back : in_limits r ≡ true → root_of (map_of r ls) ≡ r
  unfolding root_of map_of header_of corner_bytes bytes_of
  root-back e = λ i. record {
    x = signed_back r.x (count ++ map_version ∷ []) (signed_bytes r.y ++ signed_bytes r.z ++ sizes) (near_fits r.x (2 ^ r.k) (near-x r e)) i;
    y = signed_back r.y (count ++ map_version ∷ signed_bytes r.x) (signed_bytes r.z ++ sizes) (near_fits r.y (2 ^ r.k) (near-y r e)) i;
    z = signed_back r.z (count ++ map_version ∷ signed_bytes r.x ++ signed_bytes r.y) sizes (near_fits r.z (2 ^ r.k) (near-z r e)) i;
    k = r.k;
    d = r.d;
  }

  version-back : get_or (map_of r ls) 4 0 ≡ map_version
  unfolding map_of header_of corner_bytes bytes_of
  version-back = refl

  length_back : length ls ≤ 2 ^ 30 → length_good (map_of r ls) ≡ true
  unfolding length_good
  length_back h =
      let n : ℕ = 15 + 3 * length ls in
      rw (count-back h, eq-eqb (n + 4) (length (map_of r ls)) (omega (arith, map-length r ls)), le-leb 15 n (omega arith), eq-eqb (n % 3) 0 (omega arith))

  pub header-back : in_limits r ≡ true → length ls ≤ 2 ^ 30 → header_fault (map_of r ls) ≡ []
  unfolding header_fault
  header-back e h = rw (length_back h, version-back, root-back e, e)

-- ---- the whole map
pub map-opens : (named : ℕ → Bool) (r : Root) (ls : List Leaf) → in_limits r ≡ true → length ls ≤ 2 ^ 30 → Run (Fine named r.d) r.d 0 ls (8 ^ r.d) → fault_of named (map_of r ls) ≡ []
unfolding fault_of
map-opens named r ls e h k = rw (header-back r ls e h, root-back r ls e, leaves-back r ls) (run-opens named r.d 0 19 ls k)

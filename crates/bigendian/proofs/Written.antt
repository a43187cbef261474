-- The bytes of a number, written and read back.
use mathlib.Core.Path.{◌≡◌, refl, sym, ap, ◌∙◌}
use mathlib.Core.List.{List, [], ◌∷◌, ◌++◌, append_assoc}
use Prim.Native.Nat.{ℕ, zero, suc, ◌+◌, ◌-◌, ◌/◌, ◌%◌, ◌<◌, ◌≤◌, ◌^◌}
use native.Mathlib.Omega.{arith}
use borrow.Author.Tests.{lt-ltb, le-ltb}
use lib.IntN.{ℤ, pos, negsuc}
use lib.ListN.{length, take, get_or, length-append}
use borrow.Rule.Slice.PartMut.{put_mid}
use Rattle.std.specs.Int.{to_be_bytes}
use Rattle.std.proofs.lemmas.List.Edits.{sets-eq, paste_all}
use Rattle.std.proofs.lemmas.Slice.{put_mid-paste}
use lib.Seq.{paste, sets, get_or-append-add, get_or_at}
use mir.Syntax.{w32}
use mir.Val.{SFits}
use Rattle.bigendian.specs.Numbers.{unsigned_at, signed32, signed_at, bytes_of, unsigned32}

pub bytes-length : (n u : ℕ) → length (bytes_of n u) ≡ n
unfolding bytes_of
bytes-length zero u = refl
bytes-length (suc n) u = omega (arith, length-append (bytes_of n (u / 256)) (u % 256 ∷ []), bytes-length n (u / 256))

-- ---- put_u32
bytes_stored : (out : List ℕ) (at k n : ℕ) → at + k ≤ length out → paste out at (bytes_of k n) k ≡ sets out at (bytes_of k n)
bytes_stored out at k n h = let l = bytes-length k n in paste_all out at (bytes_of k n) k (sym l) ∙ sym (rw l at (sets-eq (bytes_of k n) out at (rw l h)) ∙ append_assoc (take at out) _ _)

-- ys is what the part of `out` from `at` on holds, k bytes of it
pub four_stored : (out ys : List ℕ) (at k n : ℕ) → at + 4 ≤ length out → k ≡ 4 → ys ≡ to_be_bytes w32 n → put_mid at k out ys ≡ sets out at (bytes_of 4 n)
unfolding bytes_of
four_stored out ys at k n h e y =
    let a : n / 16777216 % 256 ≡ n / 256 / 256 / 256 % 256 = omega arith in
    let b : n / 65536 % 256 ≡ n / 256 / 256 % 256 = omega arith in
    let z : ys ≡ bytes_of 4 n = y ∙ rw (a, b) in
    put_mid-paste at k out ys (bytes_of 4 n) 4 z (omega arith) refl ∙ bytes_stored out at 4 n h

-- ---- read back
pub unsigned_back : (n u : ℕ) (h t : List ℕ) → u < 256 ^ n → unsigned_at n (h ++ (bytes_of n u ++ t)) (length h) ≡ u
unfolding unsigned_at bytes_of
unsigned_back zero u h t l = omega arith
unsigned_back (suc n) u h t l =
    let b = bytes_of n (u / 256) in
    let e : (b ++ u % 256 ∷ []) ++ t ≡ b ++ u % 256 ∷ t = append_assoc b (u % 256 ∷ []) t in
    let i : unsigned_at n (h ++ (b ++ u % 256 ∷ t)) (length h) ≡ u / 256 = unsigned_back n (u / 256) h (u % 256 ∷ t) (omega arith) in
    let g : get_or (h ++ (b ++ u % 256 ∷ t)) (length h + n) 0 ≡ u % 256 = get_or-append-add h (b ++ u % 256 ∷ t) n 0 ∙ get_or_at b (u % 256) t 0 n (bytes-length n (u / 256)) in
    rw (e, i, g) (omega arith)

both_ways : (z : ℤ) → SFits w32 z → signed32 (unsigned32 z) ≡ z
unfolding signed32 unsigned32
both_ways (pos n) f = rw (lt-ltb n (2 ^ 31) f.sfits)
both_ways (negsuc n) f =
    let e : 2 ^ 32 - suc (2 ^ 32 - suc n) ≡ n = omega (arith, f.sfits) in
    rw (le-ltb (2 ^ 32 - suc n) (2 ^ 31) (omega (arith, f.sfits))) (ap negsuc e)

unsigned-below : (z : ℤ) → SFits w32 z → unsigned32 z < 2 ^ 32
unfolding unsigned32
unsigned-below (pos n) f = omega (arith, f.sfits)
unsigned-below (negsuc n) f = omega arith

pub signed_back : (z : ℤ) (h t : List ℕ) → SFits w32 z → signed_at (h ++ (bytes_of 4 (unsigned32 z) ++ t)) (length h) ≡ z
signed_back z h t f = ap signed32 (unsigned_back 4 (unsigned32 z) h t (unsigned-below z f)) ∙ both_ways z f

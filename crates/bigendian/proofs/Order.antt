-- Which byte is most significant, and which bits a negative number has. The round trip (`Written`) shows neither.
use mathlib.Core.Path.{◌≡◌, refl}
use mathlib.Core.List.{List}
use Prim.Native.Nat.{ℕ, zero, suc, ◌+◌, ◌*◌, ◌^◌, ◌≤◌}
use native.Mathlib.Nat.{add-zero, add-suc}
use native.Mathlib.Omega.{arith}
use lib.IntN.{pos, negsuc}
use lib.ListN.{get_or}
use Rattle.bigendian.specs.Numbers.{unsigned_at, unsigned32}

-- one byte is its own number, and leading bytes are multiplied by 256 for each byte that follows them
pub one_byte : (s : List ℕ) (at : ℕ) → unsigned_at 1 s at ≡ get_or s at 0
unfolding unsigned_at
one_byte s at = rw (add-zero at) (omega arith)

pub first-count-most : (n m : ℕ) (s : List ℕ) (at : ℕ) → unsigned_at (n + m) s at ≡ unsigned_at n s at * 256 ^ m + unsigned_at m s (at + n)
unfolding unsigned_at
first-count-most n zero s at = rw (add-zero n) (omega arith)
first-count-most n (suc m) s at =
    let e : at + (n + m) ≡ at + n + m = omega arith in
    let p : 256 ^ suc m ≡ 256 * 256 ^ m = omega arith in
    rw (add-suc n m, first-count-most n m s at, e, p) (omega arith)

-- two's complement: a number that is not negative is its own bits, and the bits of -n are 2^32 - n
pub plain-bits : (n : ℕ) → unsigned32 (pos n) ≡ n
unfolding unsigned32
plain-bits n = refl

pub complement-bits : (n : ℕ) → suc n ≤ 2 ^ 31 → unsigned32 (negsuc n) + suc n ≡ 2 ^ 32
unfolding unsigned32
complement-bits n h = omega arith

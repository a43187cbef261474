-- Numbers of several bytes are big-endian; signed ones are two's complement.
use Rattle.std.specs.Prelude.{ℕ, zero, suc, ◌+◌, ◌*◌, ◌-◌, ◌/◌, ◌%◌, ◌^◌, cond, List, [], ◌∷◌, ◌++◌, ltb, ℤ, pos, negsuc, get_or}

-- the unsigned number in the n bytes of s from `at` on, most significant byte first
unfoldable pub unsigned_at : ℕ → List ℕ → ℕ → ℕ
unsigned_at zero s at = 0
unsigned_at (suc n) s at = 256 * unsigned_at n s at + get_or s (at + n) 0

-- the signed number with the 32 bits of u: u itself below 2^31, otherwise u - 2^32
unfoldable pub signed32 : ℕ → ℤ
signed32 u = cond (ltb u (2 ^ 31)) (pos u) (negsuc (2 ^ 32 - suc u))

-- the 32-bit signed number in the four bytes of s from `at` on
abbrev pub signed_at : List ℕ → ℕ → ℤ
signed_at s at = signed32 (unsigned_at 4 s at)

-- ---- the other way round
-- the n bytes of the number u, most significant byte first
unfoldable pub bytes_of : ℕ → ℕ → List ℕ
bytes_of zero u = []
bytes_of (suc n) u = bytes_of n (u / 256) ++ u % 256 ∷ []

-- the unsigned number with the 32 bits of a signed one: the number itself, plus 2^32 if it is negative
unfoldable pub unsigned32 : ℤ → ℕ
unsigned32 (pos n) = n
unsigned32 (negsuc n) = 2 ^ 32 - suc n

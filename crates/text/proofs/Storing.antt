-- Texts stored into a buffer one after the other.
use mathlib.Core.Path.{◌≡◌, refl, ap, ◌∙◌}
use mathlib.Core.Bool.{true, false}
use mathlib.Core.List.{List, [], ◌∷◌, ◌++◌}
use Prim.Native.Nat.{ℕ, ◌+◌, ◌/◌, ◌%◌, ◌≤◌, ◌<◌}
use native.Mathlib.Omega.{arith}
use lib.IntN.{ℤ, pos, nat_abs}
use lib.ListN.{length, length-append, set, length-set}
use lib.Seq.{length-sets}
use lib.Signed.{lt_z}
use Rattle.integers.proofs.Stores.{sets-append}
use mir.Syntax.{w64}
use mir.Val.{SFits, to_z, of_z}
use Rattle.buffers.specs.Counts.{IsPrefixLen}
use Rattle.buffers.proofs.Counting.{prefix_len_of_le}
use Rattle.text.specs.Text.{digit, decimal_of, signed_text, Puts}
use Rattle.text.proofs.Digits.{one-digit, more-digits}
use Rattle.text.proofs.Signs.{plain-text, less-text, signed-length}

-- ---- one byte
pub byte_put : (v at : ℕ) (d : List ℕ) → Puts (v ∷ []) at d (at + 1) (set d at v)
byte_put v at d = record { ends = refl; bytes = refl }

-- two texts, the second starting where the first ends
pub both-put : (vs ws : List ℕ) (at r q : ℕ) (d o p : List ℕ) → Puts vs at d r o → Puts ws r o q p → Puts (vs ++ ws) at d q p
both-put vs ws at r q d o p h k = record { ends = omega (arith, length-append vs ws, h, k); bytes = k.bytes ∙ rw h.bytes (sets-append d at r vs ws h.ends) }

-- ---- a number's digits, from its first to its last
pub first-room : (n at m : ℕ) → n < 10 → at + length (decimal_of n) ≤ m → at < m
first-room n at m h l = omega (arith, ap length (one-digit n h))

pub first-put : (n at : ℕ) (d : List ℕ) → n < 10 → Puts (decimal_of n) at d (at + 1) (set d at (digit n))
first-put n at d h = rw (one-digit n h) (byte_put (digit n) at d)

pub last-room : (n at m : ℕ) → 10 ≤ n → at + length (decimal_of n) ≤ m → at + length (decimal_of (n / 10)) < m
last-room n at m h l = omega (arith, ap length (more-digits n h), length-append (decimal_of (n / 10)) (digit (n % 10) ∷ []))

pub last-inside : (n at r : ℕ) (d o : List ℕ) → 10 ≤ n → at + length (decimal_of n) ≤ length d → Puts (decimal_of (n / 10)) at d r o → r < length o
last-inside n at r d o h l p = omega (arith, last-room n at (length d) h l, p.ends, ap length p.bytes ∙ length-sets d at (decimal_of (n / 10)))

pub last-put : (n at r : ℕ) (d o : List ℕ) → 10 ≤ n → Puts (decimal_of (n / 10)) at d r o → Puts (decimal_of n) at d (r + 1) (set o r (digit (n % 10)))
last-put n at r d o h p = rw (more-digits n h) (both-put _ _ _ _ _ _ _ _ p (byte_put (digit (n % 10)) r o))

-- ---- a number with its sign, which has at most 20 bytes
pub number_counts : (n : ℤ) (at r : ℕ) (d o : List ℕ) → SFits w64 n → at + 20 ≤ length d → Puts (signed_text n) at d r o → IsPrefixLen r o
number_counts n at r d o f l p = prefix_len_of_le r o (omega (arith, signed-length n f, p, ap length p.bytes ∙ length-sets d at (signed_text n)))

module _ (n : ℤ) (at : ℕ) (d : List ℕ) (m : ℕ) (f : SFits w64 n) (e : m ≡ nat_abs (to_z w64 (of_z w64 n))) where
  module _ (t : lt_z (to_z w64 (of_z w64 n)) (pos 0) ≡ false) where
    pub plain-room : at + 20 ≤ length d → at + length (decimal_of m) ≤ length d
    plain-room l = omega (arith, signed-length n f, ap length (plain-text n m f e t))

    pub plain-put : (r : ℕ) (o : List ℕ) → Puts (decimal_of m) at d r o → Puts (signed_text n) at d r o
    plain-put r o p = rw (plain-text n m f e t) p

  module _ (t : lt_z (to_z w64 (of_z w64 n)) (pos 0) ≡ true) where
    pub sign-room : at + 20 ≤ length d → (v : ℕ) → at + 1 + length (decimal_of m) ≤ length (set d at v)
    sign-room l v = omega (arith, signed-length n f, ap length (less-text n m f e t), length-set d at v)

    pub sign-put : (r : ℕ) (o : List ℕ) → Puts (decimal_of m) (at + 1) (set d at 45) r o → Puts (signed_text n) at d r o
    sign-put r o p = rw (less-text n m f e t) (both-put _ _ _ _ _ _ _ _ (byte_put 45 at d) p)

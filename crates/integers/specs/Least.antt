-- The lesser and the greater of two whole numbers, the least and the greatest of four.
use Rattle.std.specs.Prelude.{cond, ℤ}
use Rattle.std.specs.Int.Signed.{le_z}

unfoldable pub lesser_of : ℤ → ℤ → ℤ
lesser_of a b = cond (le_z a b) a b

unfoldable pub greater_of : ℤ → ℤ → ℤ
greater_of a b = cond (le_z a b) b a

abbrev pub least_of : ℤ → ℤ → ℤ → ℤ → ℤ
least_of p q r s = lesser_of (lesser_of p q) (lesser_of r s)

abbrev pub greatest_of : ℤ → ℤ → ℤ → ℤ → ℤ
greatest_of p q r s = greater_of (greater_of p q) (greater_of r s)

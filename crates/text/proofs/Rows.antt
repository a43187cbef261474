-- Worked rows, each by computation.
use mathlib.Core.Path.{◌≡◌, refl}
use mathlib.Core.List.{[], ◌∷◌}
use Prim.Native.Nat.{◌^◌}
use lib.IntN.{pos, neg_ℤ}
use Rattle.text.specs.Text.{digits_of, decimal_of, signed_text, line_of}

record Rows : Type 0 where
  zero : signed_text (pos 0) ≡ 48 ∷ []
  seven : signed_text (pos 7) ≡ 55 ∷ []
  ten : signed_text (pos 10) ≡ 49 ∷ 48 ∷ []
  minus_one : signed_text (neg_ℤ (pos 1)) ≡ 45 ∷ 49 ∷ []
  highest-corner : signed_text (pos 1048576) ≡ 49 ∷ 48 ∷ 52 ∷ 56 ∷ 53 ∷ 55 ∷ 54 ∷ []
  lowest-corner : signed_text (neg_ℤ (pos 1048576)) ≡ 45 ∷ 49 ∷ 48 ∷ 52 ∷ 56 ∷ 53 ∷ 55 ∷ 54 ∷ []
  largest-reply : signed_text (pos 3221225491) ≡ 51 ∷ 50 ∷ 50 ∷ 49 ∷ 50 ∷ 50 ∷ 53 ∷ 52 ∷ 57 ∷ 49 ∷ []
  least : signed_text (neg_ℤ (pos (2 ^ 63))) ≡ 45 ∷ 57 ∷ 50 ∷ 50 ∷ 51 ∷ 51 ∷ 55 ∷ 50 ∷ 48 ∷ 51 ∷ 54 ∷ 56 ∷ 53 ∷ 52 ∷ 55 ∷ 55 ∷ 53 ∷ 56 ∷ 48 ∷ 56 ∷ []
  line : line_of (pos 3 ∷ neg_ℤ (pos 12) ∷ pos 0 ∷ []) ≡ 51 ∷ 32 ∷ 45 ∷ 49 ∷ 50 ∷ 32 ∷ 48 ∷ 10 ∷ []

rows : Rows
unfolding digits_of decimal_of signed_text line_of
rows = record {
  zero = refl;
  seven = refl;
  ten = refl;
  minus_one = refl;
  highest-corner = refl;
  lowest-corner = refl;
  largest-reply = refl;
  least = refl;
  line = refl;
}

-- Numbers and lines of numbers as text, in ASCII: 45 is a minus sign, 32 a space, 10 a line feed, and 48 the digit 0.
use Rattle.std.specs.Prelude.{◌≡◌, List, [], ◌∷◌, ◌++◌, ℕ, zero, suc, ◌+◌, ◌/◌, ◌%◌, ℤ, pos, negsuc, length}
use Rattle.std.proofs.lemmas.List.Edits.{sets}

-- the byte of a digit
abbrev pub digit : ℕ → ℕ
digit d = 48 + d

-- the digits of n, or only the last k of them if it has more; 0 has none
unfoldable pub digits_of : ℕ → ℕ → List ℕ
digits_of zero n = []
digits_of (suc k) zero = []
digits_of (suc k) (suc n) = digits_of k (suc n / 10) ++ (digit (suc n % 10) ∷ [])

-- a number in decimal: the digits of a tenth of it, of which there are at most n, and its last digit
unfoldable pub decimal_of : ℕ → List ℕ
decimal_of n = digits_of n (n / 10) ++ (digit (n % 10) ∷ [])

-- a whole number in decimal, with a minus sign in front if it is below 0
unfoldable pub signed_text : ℤ → List ℕ
signed_text (pos n) = decimal_of n
signed_text (negsuc n) = 45 ∷ decimal_of (suc n)

-- the numbers in decimal with single spaces between them, and a line feed
unfoldable pub line_of : List ℤ → List ℕ
line_of [] = 10 ∷ []
line_of (n ∷ []) = signed_text n ++ (10 ∷ [])
line_of (n ∷ m ∷ ns) = signed_text n ++ 32 ∷ line_of (m ∷ ns)

-- the text is stored in the buffer from `at` to `end`, and the rest of the buffer is unchanged
pub record Puts (text : List ℕ) (at : ℕ) (before : List ℕ) (end : ℕ) (after : List ℕ) : Type 0 where
  pub ends : end ≡ at + length text
  pub bytes : after ≡ sets before at text

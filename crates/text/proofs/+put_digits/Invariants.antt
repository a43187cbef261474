-- The recursive function `text::put_digits` ends: each call takes a tenth of the number.
use Rattle.text.proofs.+put_digits.Given as goal

abbrev pub decreases-put_digits : goal.decreases-put_digits
decreases-put_digits l = l.n

-- `text::put_number` meets its contract: the digits of the magnitude follow the sign, and both have at most 20 bytes.
use native.Mathlib.Omega.{arith}
use borrow.Author.Rules.{rules}
use Rattle.text.proofs.Storing.{number_counts, plain-room, plain-put, sign-room, sign-put}
use Rattle.text.proofs.put_number.Goals as goal

pub put_digits-requires : goal.put_digits-requires
put_digits-requires c = sign-room _ _ _ _ c.ranges.n (omega (arith, c.unsigned_abs.ensures.value)) c.if-n-lt0.true c.requires _

pub returns-then-n-lt0-clause-puts : goal.returns-then-n-lt0-clause-puts
returns-then-n-lt0-clause-puts c = sign-put _ _ _ _ c.ranges.n (omega (arith, c.unsigned_abs.ensures.value)) c.if-n-lt0.true _ _ c.put_digits.ensures

pub returns-then-n-lt0-clause-prefix_len : goal.returns-then-n-lt0-clause-prefix_len
returns-then-n-lt0-clause-prefix_len c = number_counts _ _ _ _ _ c.ranges.n c.requires (returns-then-n-lt0-clause-puts c)

pub put_digits-requires-2 : goal.put_digits-requires-2
put_digits-requires-2 c = search (rules, plain-room)

pub returns-clause-puts : goal.returns-clause-puts
returns-clause-puts c = search (rules, plain-put)

pub returns-clause-prefix_len : goal.returns-clause-prefix_len
returns-clause-prefix_len c = search (rules, number_counts, plain-put)

-- The recursive function `text::put_digits` meets its contract: the digits of a tenth of the number, and its last digit.
use Rattle.std.proofs.Common.{arith}
use Rattle.text.proofs.Storing.{first-room, first-put, last-room, last-inside, last-put}
use Rattle.text.proofs.+put_digits.Goals as goal

pub bounds-out-at : goal.bounds-out-at
bounds-out-at t c = first-room _ _ _ c.if-n-lt10.true c.requires

pub returns-then-n-lt10 : goal.returns-then-n-lt10
returns-then-n-lt10 t c = first-put _ _ _ c.if-n-lt10.true

pub put_digits-last-requires : goal.put_digits-last-requires
put_digits-last-requires t c = (omega arith, omega (arith, last-room _ _ _ c.if-n-lt10.false c.requires))

pub bounds-out-last : goal.bounds-out-last
bounds-out-last t c = last-inside _ _ _ _ _ c.if-n-lt10.false c.requires c.put_digits-last.ensures

pub overflow_add-result-2 : goal.overflow_add-result-2
overflow_add-result-2 t c = omega (arith, last-room _ _ _ c.if-n-lt10.false c.requires)

pub returns : goal.returns
returns t c = last-put _ _ _ _ _ c.if-n-lt10.false c.put_digits-last.ensures

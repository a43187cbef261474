-- `tape::walking::start` meets its contract.
use borrow.Author.Rules.{rules, Fits-under}
use native.Mathlib.Omega.{arith}
use Rattle.tape.proofs.Placing.{lent}
use Rattle.tape.proofs.Starting.{start-some, start-few, start-works, start-states, starts}
use Rattle.tape.proofs.walking.start.Goals as goal

pub list-mid-requires-clause-room : goal.list-mid-requires-clause-room
list-mid-requires-clause-room c = start-works _ _ c.requires.good _ _ (omega (arith, c.requires.room))

pub list-to-requires-clause-room : goal.list-to-requires-clause-room
list-to-requires-clause-room c = start-states _ _ c.requires.good _ _ (omega (arith, c.requires.room)) _ _ c.list-mid.ensures

pub overflow_sub-solid : goal.overflow_sub-solid
overflow_sub-solid c = search (rules, start-some)

pub overflow_cast-solid : goal.overflow_cast-solid
overflow_cast-solid c = Fits-under _ _ 256 (search (rules, start-few)) tt

pub returns-clause-lent : goal.returns-clause-lent
returns-clause-lent c = lent _ _ _ c.place.ensures

pub returns-clause-starts : goal.returns-clause-starts
returns-clause-starts c = starts _ _ c.requires.good _ _ (omega (arith, c.requires.room)) _ _ c.list-mid.ensures _ _ c.list-to.ensures

-- `tape::listing::list` meets its contract. The invariant is `Putting`: the words of the first n records are done.
use borrow.Author.Rules.{rules}
use Rattle.records.proofs.Walking.{walking-stands}
use Rattle.tape.proofs.Putting.{putting-start, putting-none, putting-other, putting-room, putting-next, putting-end}
use Rattle.tape.proofs.listing.list.Goals as goal

pub loop-n-init : goal.loop-n-init
loop-n-init c = search (rules, putting-start)

pub record_at-r-requires : goal.record_at-r-requires
record_at-r-requires c = search (rules, walking-stands)

pub loop-n-preserved-in_default : goal.loop-n-preserved-in_default
loop-n-preserved-in_default c = search (rules, putting-none)

pub loop-n-preserved-then-is_logical-logical : goal.loop-n-preserved-then-is_logical-logical
loop-n-preserved-then-is_logical-logical c = search (rules, putting-other)

pub bounds-tape-to : goal.bounds-tape-to
bounds-tape-to c = search (rules, putting-room)

pub loop-n-preserved : goal.loop-n-preserved
loop-n-preserved c = search (rules, putting-next)

pub returns : goal.returns
returns c = search (rules, putting-end)

-- `zonemap::walking::leaf_count` meets its contract.
use Rattle.zonemap.proofs.Meeting.{count-is}
use borrow.Author.Rules.{rules}
use Rattle.zonemap.proofs.walking.leaf_count.Goals as goal

pub returns : goal.returns
returns c = search (rules, count-is)

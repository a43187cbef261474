-- `zonemap::opening::root` meets its contract: three numbers and two bytes.
use Rattle.zonemap.proofs.Tests.{root_told}
use borrow.Author.Rules.{rules}
use Rattle.zonemap.proofs.opening.root.Goals as goal

pub returns : goal.returns
returns c = search (rules, root_told)

-- `zonemap::opening::find` meets its contract: what it needs of the header for the scan.
use Rattle.zonemap.proofs.Opens.{root-within, root-deep, header-long, header-whole, first_below}
use borrow.Author.Rules.{rules}
use Rattle.zonemap.proofs.opening.find.Goals as goal

pub place_or_first-requires : goal.place_or_first-requires
place_or_first-requires c = search (rules, root-within)

pub scan-requires : goal.scan-requires
scan-requires c = search (rules, root-deep, header-long, header-whole, first_below)

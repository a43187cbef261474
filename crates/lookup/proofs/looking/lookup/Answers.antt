-- `lookup::looking::lookup` meets its contract: the sheet is checked and the map opened first.
use Rattle.pair.proofs.Openings.{not-shut, pair_is}
use borrow.Author.Rules.{rules}
use Rattle.lookup.proofs.looking.lookup.Goals as goal

pub over_root-requires : goal.over_root-requires
over_root-requires c = search (rules, not-shut, pair_is)

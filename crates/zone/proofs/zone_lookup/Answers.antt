-- `zone::zone_lookup` meets its contract: it is `lookup::lookup` with the reply by number.
use Rattle.zone.proofs.ByNumber.{looks-up}
use borrow.Author.Rules.{rules}
use Rattle.zone.proofs.zone_lookup.Goals as goal

pub returns : goal.returns
returns c = search (rules, looks-up)

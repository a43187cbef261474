-- `zone::zone_build` meets its contract: it is `building::build` with the reply by number.
use Rattle.zone.proofs.ByNumber.{builds}
use borrow.Author.Rules.{rules}
use Rattle.zone.proofs.zone_build.Goals as goal

pub returns : goal.returns
returns c = search (rules, builds)

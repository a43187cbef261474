-- `zonemap::put_corner` meets its contract: three numbers one after another.
use Rattle.zonemap.proofs.Bytes.{corner-stored}
use borrow.Author.Rules.{rules}
use Rattle.zonemap.proofs.put_corner.Goals as goal

pub returns : goal.returns
returns c = search (rules, corner-stored)

-- `zonemap::put_header` meets its contract: count, version, corner, k and d one after another.
use Rattle.zonemap.proofs.Bytes.{header-stored}
use borrow.Author.Rules.{rules}
use Rattle.zonemap.proofs.put_header.Goals as goal

pub returns : goal.returns
returns c = search (rules, header-stored)

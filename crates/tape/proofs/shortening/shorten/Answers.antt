-- `tape::shortening::shorten` meets its contract.
use borrow.Author.Rules.{rules}
use mathlib.Core.Path.{refl}
use Rattle.tape.proofs.Shortened.{shorten-told}
use Rattle.tape.proofs.shortening.shorten.Goals as goal

pub returns : goal.returns
returns c =
    shorten-told _ _ _ _ _ _ c.requires.parts c.requires.room _ _ _ c.own_twins-twins.ensures c.rename.ensures _ (refl, search rules, search rules) _ _ _ c.keep-m.ensures _ _ _ c.keep-f.ensures

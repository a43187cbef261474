-- `zonemap::put_leaf` meets its contract: three bytes one after another.
use mathlib.Core.Path.{refl}
use Rattle.zonemap.proofs.Bytes.{leaf-stored}
use Rattle.zonemap.proofs.put_leaf.Goals as goal

pub returns : goal.returns
returns c = (refl, leaf-stored _ _ _)

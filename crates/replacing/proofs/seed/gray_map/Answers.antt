-- `replacing::seed::gray_map` meets its contract: the header, and one leaf after it.
use Rattle.replacing.proofs.Grays.{gray-told}
use Rattle.replacing.proofs.seed.gray_map.Goals as goal

pub returns : goal.returns
returns c = gray-told _ _ c.at_depth-top.ensures _ _ _ c.requires c.put_header.ensures _ c.put_leaf-end.ensures

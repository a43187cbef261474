-- `replacing::along::replace` meets its contract.
use mathlib.Core.Path.{sym, ap, ◌∙◌}
use native.Mathlib.Omega.{arith}
use Rattle.sheet.specs.Records.{records_of}
use Rattle.tree.specs.Solid.{solid_state}
use Rattle.replacing.proofs.OneLeaf.{gray-is, stands-is}
use Rattle.replacing.proofs.along.replace.Goals as goal

pub give_leaves-requires-clause-room : goal.give_leaves-requires-clause-room
give_leaves-requires-clause-room g c = rw (gray-is (solid_state (records_of c.args.s.now)) c.args.left c.args.q c.args.leaf (omega arith)) at c.requires.room

pub put-requires : goal.put-requires
put-requires g c = rw (stands-is (solid_state (records_of c.args.s.now)) c.args.left c.args.q c.args.leaf (λ e. omega arith)) at c.requires.room

pub returns-then-leaf-eq4-clause-taken : goal.returns-then-leaf-eq4-clause-taken
returns-then-leaf-eq4-clause-taken g c = c.give_leaves.ensures.taken ∙ ap (g.S.Sink.after c.args.sink.now) (sym (gray-is _ _ _ _ (omega arith)))

pub returns-else-leaf-eq4-clause-taken : goal.returns-else-leaf-eq4-clause-taken
returns-else-leaf-eq4-clause-taken g c = c.put.ensures ∙ ap (g.S.Sink.after c.args.sink.now) (sym (stands-is _ _ _ _ (λ e. omega arith)))

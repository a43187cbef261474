-- `tape::working::fill_bounds` meets its contract. The invariant is `Bounding`.
use borrow.Author.Rules.{rules}
use mathlib.Core.Path.{refl, ◌∙◌}
use lib.ListN.{length-set}
use Rattle.tape.proofs.Filling.{bounding-start, bounding-never, bounding-next, bounding-small, bounding-end}
use Rattle.tape.proofs.working.fill_bounds.Goals as goal

pub loop-w-init : goal.loop-w-init
loop-w-init c = (search (rules, bounding-start), refl)

pub returns-in_default-clause-bounds : goal.returns-in_default-clause-bounds
returns-in_default-clause-bounds c = search (rules, bounding-never)

pub loop-w-preserved : goal.loop-w-preserved
loop-w-preserved c = (search (rules, bounding-next), search rules)

pub returns-clause-bounds : goal.returns-clause-bounds
returns-clause-bounds c = search (rules, bounding-end)

pub invariant_of-known : goal.invariant_of-known
invariant_of-known c =
    record {
      bounds_long = length-set c.loop-w.known.bounds _ _ ∙ c.loop-w.invariant.0.long;
      states_long = search rules;
      small = search (rules, bounding-small);
    }

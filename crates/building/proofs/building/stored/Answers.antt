-- `building::building::stored` meets its contract: the header and the leaves after it are the map.
use mathlib.Core.Path.{◌≡◌, sym, ap, ◌∙◌}
use mathlib.Core.List.{List}
use native.Mathlib.Nat.{zero-add}
use Prim.Native.Nat.{ℕ, ◌+◌}
use lib.ListN.{length}
use Rattle.zonemap.specs.declared.Leaf.{Leaf}
use Rattle.tape.specs.Lent.{work}
use Rattle.tree.specs.declared.sink.Counter.{Counter}
use Rattle.tree.specs.declared.sink.Writer.{Writer}
use Rattle.tree.specs.Sinks.{counted}
use Rattle.building.proofs.Outcomes.{ready-again, too_short, whole}
use borrow.Author.Rules.{rules}
use Rattle.building.proofs.building.stored.Goals as goal

-- what a new counter has counted
count-is : (c₀ : Counter) → c₀.leaves ≡ 0 → (ls : List Leaf) (c : Counter) → c ≡ counted c₀ ls → c.leaves ≡ length ls
count-is c₀ none ls c e = ap (λ (x : Counter). x.leaves) e ∙ ap (λ (n : ℕ). n + length ls) none ∙ zero-add (length ls)

pub returns-then-out-need : goal.returns-then-out-need
returns-then-out-need g c = too_short _ _ _ (count-is _ c.new-counter.ensures _ _ c.give.ensures.taken) _ c.if-out-need.true

pub give-requires-2-clause-ready : goal.give-requires-2-clause-ready
give-requires-2-clause-ready g c = ready-again _ _ _ _ _ (work c.give.new.words c.give.new.known) c.requires.ready c.give.ensures.work

pub returns : goal.returns
returns g c =
    let name = sym (ap (λ (w : Writer). w.out.ghost_name) c.give-2.ensures.taken) in
    let bytes = ap (λ (w : Writer). w.out.now) c.give-2.ensures.taken in
    whole _ _ _ (count-is _ c.new-counter.ensures _ _ c.give.ensures.taken) _ c.if-out-need.false _ c.put_header.ensures _ (search rules)

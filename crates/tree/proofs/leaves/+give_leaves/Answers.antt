-- `tree::leaves::give_leaves` meets its contract: a cube that is not split is one leaf; of one that is split, the sink takes the leaves of each child in turn.
use mathlib.Core.Path.{◌≡◌, refl, ap}
use native.Mathlib.Omega.{arith}
use lib.ListN.{length}
use borrow.Author.Rules.{rules}
use Rattle.sheet.specs.Records.{records_of}
use Rattle.tape.specs.Lent.{work}
use Rattle.tree.specs.Solid.{solid_state}
use Rattle.tree.proofs.Cubes.{leaves-end}
use Rattle.tree.proofs.Walking.{eight, room-one, took-one, took-none, took-all, room-child, took-child, left-as-is, state-is, split-here, one-leaf, ready-child, left_below, left-next}
use Rattle.tree.proofs.leaves.+give_leaves.Goals as goal
use Rattle.tree.proofs.leaves.+give_leaves.Goals.{else-left-eq0-via-else-left-eq0, else-left-eq0-via-then-left-eq0+else-take_unseen, else-left-eq1-via-else-left-eq1, else-left-eq1-via-then-left-eq1+else-take_unseen-2}

pub take_unseen-requires : goal.take_unseen-requires
take_unseen-requires g t c = room-one _ _ g.S.Sink.laws _ _ _ _ c.requires.room (leaves-end _ _ _ (omega arith))

pub returns-then-take_unseen-clause-taken : goal.returns-then-take_unseen-clause-taken
returns-then-take_unseen-clause-taken g t c =
    c.take_unseen.ensures.taken c.if-take_unseen.true _ (ap length (leaves-end (solid_state (records_of c.args.s.now)) c.args.left c.args.q (omega arith)))

pub put-requires : goal.put-requires
put-requires g t c =
    let same : c.else-left-eq0.sink ≡ c.args.sink.now =
    elim c.else-left-eq0.branch [ else-left-eq0-via-else-left-eq0 w ↦ search rules | else-left-eq0-via-then-left-eq0+else-take_unseen w ↦ search rules ] in
    let w = c.work_out-decided.ensures in
    rw same
    (room-one _ _ g.S.Sink.laws _ _ _ _ c.requires.room (one-leaf _ _ _ _ _ c.requires.ready c.work_out-decided.new.known.states w.stand _ c.state-state.ensures _ c.class-class.ensures (λ d e. omega (arith, d, e))))

pub returns-then-left-eq0-2-clause-taken : goal.returns-then-left-eq0-2-clause-taken
returns-then-left-eq0-2-clause-taken g t c =
    let same : c.else-left-eq0.sink ≡ c.args.sink.now =
    elim c.else-left-eq0.branch [ else-left-eq0-via-else-left-eq0 w ↦ search rules | else-left-eq0-via-then-left-eq0+else-take_unseen w ↦ search rules ] in
    let w = c.work_out-decided.ensures in
    took-one _ _ g.S.Sink.laws _ _ _ _ c.requires.room (one-leaf _ _ _ _ _ c.requires.ready c.work_out-decided.new.known.states w.stand _ c.state-state.ensures _ c.class-class.ensures (λ d e. omega (arith, d, e)))
    _ (state-is _ _ _ _ _ c.requires.ready c.work_out-decided.new.known.states w.stand _ c.state-state.ensures _ c.class-class.ensures) _ c.leaf.ensures _ (rw same at c.put.ensures)

pub take_unseen-requires-then-left-eq1 : goal.take_unseen-requires-then-left-eq1
take_unseen-requires-then-left-eq1 g t c =
    let same : c.else-left-eq0.sink ≡ c.args.sink.now =
    elim c.else-left-eq0.branch [ else-left-eq0-via-else-left-eq0 w ↦ search rules | else-left-eq0-via-then-left-eq0+else-take_unseen w ↦ search rules ] in
    let w = c.work_out-decided.ensures in
    let e = eight _ _ _ (split-here _ _ _ _ _ c.requires.ready c.work_out-decided.new.known.states w.stand _ c.state-state.ensures _ c.class-class.ensures (λ e. omega (arith, e)) (omega arith)) c.if-left-eq1.true in
    rw same (rw e at c.requires.room)

pub returns-then-take_unseen-2-clause-taken : goal.returns-then-take_unseen-2-clause-taken
returns-then-take_unseen-2-clause-taken g t c =
    let same : c.else-left-eq0.sink ≡ c.args.sink.now =
    elim c.else-left-eq0.branch [ else-left-eq0-via-else-left-eq0 w ↦ search rules | else-left-eq0-via-then-left-eq0+else-take_unseen w ↦ search rules ] in
    let w = c.work_out-decided.ensures in
    rw same
    at (c.take_unseen-then-left-eq1.ensures.taken c.if-take_unseen-2.true _ (eight _ _ _ (split-here _ _ _ _ _ c.requires.ready c.work_out-decided.new.known.states w.stand _ c.state-state.ensures _ c.class-class.ensures (λ e. omega (arith, e)) (omega arith)) c.if-left-eq1.true))

pub loop-k-init : goal.loop-k-init
loop-k-init g t c =
    let same : c.else-left-eq0.sink ≡ c.args.sink.now =
    elim c.else-left-eq0.branch [ else-left-eq0-via-else-left-eq0 w ↦ search rules | else-left-eq0-via-then-left-eq0+else-take_unseen w ↦ search rules ] in
    let same-2 : c.else-left-eq1.sink ≡ c.else-left-eq0.sink =
    elim c.else-left-eq1.branch [ else-left-eq1-via-else-left-eq1 w ↦ search rules | else-left-eq1-via-then-left-eq1+else-take_unseen-2 w ↦ search rules ] in
    let w = c.work_out-decided.ensures in (
      left-as-is _ _ (work c.carry-u.new.words c.work_out-decided.new.known) _ refl w.lent,
      rw (same-2, same) (took-none _ _ g.S.Sink.laws _ _ _ _ c.requires.room (split-here _ _ _ _ _ c.requires.ready c.work_out-decided.new.known.states w.stand _ c.state-state.ensures _ c.class-class.ensures (λ e. omega (arith, e)) (omega arith))),
    )

pub give_leaves-requires : goal.give_leaves-requires
give_leaves-requires g t c κs within =
    let same : c.else-left-eq0.sink ≡ c.args.sink.now =
    elim c.else-left-eq0.branch [ else-left-eq0-via-else-left-eq0 w ↦ search rules | else-left-eq0-via-then-left-eq0+else-take_unseen w ↦ search rules ] in
    let same-2 : c.else-left-eq1.sink ≡ c.else-left-eq0.sink =
    elim c.else-left-eq1.branch [ else-left-eq1-via-else-left-eq1 w ↦ search rules | else-left-eq1-via-then-left-eq1+else-take_unseen-2 w ↦ search rules ] in
    let w = c.work_out-decided.ensures in
    let u = c.carry-u.ensures in
    let split = split-here _ _ _ _ _ c.requires.ready c.work_out-decided.new.known.states w.stand _ c.state-state.ensures _ c.class-class.ensures (λ e. omega (arith, e)) (omega arith) in (
      omega (arith, c.decreases, split.deep),
      (
        within,
        (
          ready-child _ _ _ _ _ c.requires.ready (work c.carry-u.new.words c.work_out-decided.new.known) _ u.carries u.stays u.before _ c.loop-k.invariant.0 split.deep _ c.loop-k-test.true _ c.child.ensures,
          room-child _ _ g.S.Sink.laws _ _ _ _ c.requires.room split _ c.loop-k-test.true _ c.child.ensures _ (rw (same-2, same) at c.loop-k.invariant.1),
        ),
      ),
    )

pub loop-k-preserved : goal.loop-k-preserved
loop-k-preserved g t c =
    let same : c.else-left-eq0.sink ≡ c.args.sink.now =
    elim c.else-left-eq0.branch [ else-left-eq0-via-else-left-eq0 w ↦ search rules | else-left-eq0-via-then-left-eq0+else-take_unseen w ↦ search rules ] in
    let same-2 : c.else-left-eq1.sink ≡ c.else-left-eq0.sink =
    elim c.else-left-eq1.branch [ else-left-eq1-via-else-left-eq1 w ↦ search rules | else-left-eq1-via-then-left-eq1+else-take_unseen-2 w ↦ search rules ] in
    let w = c.work_out-decided.ensures in
    let split = split-here _ _ _ _ _ c.requires.ready c.work_out-decided.new.known.states w.stand _ c.state-state.ensures _ c.class-class.ensures (λ e. omega (arith, e)) (omega arith) in (
      left-next _ _ _ _ _ c.loop-k.invariant.0 c.give_leaves.ensures.work,
      rw (same-2, same) (took-child _ _ g.S.Sink.laws _ _ _ _ c.requires.room split _ c.loop-k-test.true _ c.child.ensures _ (rw (same-2, same) at c.loop-k.invariant.1) _ c.give_leaves.ensures.taken),
    )

pub returns-clause-work : goal.returns-clause-work
returns-clause-work g t c =
    let u = c.carry-u.ensures in
    left_below _ _ _ _ _ c.requires.ready (work c.carry-u.new.words c.work_out-decided.new.known) _ u.carries u.stays u.before _ c.loop-k.invariant.0

pub returns-clause-taken : goal.returns-clause-taken
returns-clause-taken g t c =
    let same : c.else-left-eq0.sink ≡ c.args.sink.now =
    elim c.else-left-eq0.branch [ else-left-eq0-via-else-left-eq0 w ↦ search rules | else-left-eq0-via-then-left-eq0+else-take_unseen w ↦ search rules ] in
    let same-2 : c.else-left-eq1.sink ≡ c.else-left-eq0.sink =
    elim c.else-left-eq1.branch [ else-left-eq1-via-else-left-eq1 w ↦ search rules | else-left-eq1-via-then-left-eq1+else-take_unseen-2 w ↦ search rules ] in
    let w = c.work_out-decided.ensures in
    took-all _ _ g.S.Sink.laws _ _ _ _ c.requires.room (split-here _ _ _ _ _ c.requires.ready c.work_out-decided.new.known.states w.stand _ c.state-state.ensures _ c.class-class.ensures (λ e. omega (arith, e)) (omega arith))
    _ (omega (arith, c.loop-k-test.false)) (omega (arith, c.loop-k.auto.k-end)) _ (rw (same-2, same) at c.loop-k.invariant.1)

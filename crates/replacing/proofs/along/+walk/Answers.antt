-- `replacing::along::walk` meets its contract.
use mathlib.Core.Path.{refl, sym, ap, ◌∙◌}
use native.Mathlib.Omega.{arith}
use lib.ListN.{length}
use Prim.Native.Nat.{◌+◌}
use Rattle.sheet.specs.Records.{records_of}
use Rattle.tape.specs.Lent.{work}
use Rattle.zonemap.specs.Opening.{leaves_of}
use Rattle.tree.specs.Solid.{solid_state}
use Rattle.tree.proofs.Cubes.{near-split}
use Rattle.tree.proofs.Walking.{left-as-is, left-next, ready-child, left_below}
use Rattle.replacing.proofs.Stepping.{took-nothing, took-more, room-more, room-less, leaf-three, leaf-offset, leaf-next, leaf_room, among-leaves, one-between, passed-leaf, inner-leaf, walked_start, left-some, along-child, same-between, walked_next, walked_all}
use Rattle.replacing.proofs.along.+walk.Goals as goal

pub overflow_mul-i : goal.overflow_mul-i
overflow_mul-i g t c = leaf-three _ _ _ _ c.requires.along c.requires.ready.near

pub overflow_add-i : goal.overflow_add-i
overflow_add-i g t c = leaf-offset _ _ _ _ c.requires.along c.requires.ready.near

pub leaf_at-leaf-requires : goal.leaf_at-leaf-requires
leaf_at-leaf-requires g t c = leaf_room _ _ _ _ c.requires.along c.requires.ready.near

pub replace-requires-clause-room : goal.replace-requires-clause-room
replace-requires-clause-room g t c =
    let one = one-between _ _ _ _ c.requires.along c.requires.ready.near _ c.leaf_at-leaf.ensures c.if-leaf-q.true (solid_state (records_of c.args.s.now)) in
    let less = room-less _ _ g.S.Sink.laws (solid_state (records_of c.args.s.now)) (c.args.q.level + c.args.left) c.args.map.now c.args.i (c.args.i + 1) (length (leaves_of c.args.map.now)) c.args.sink.now in
    rw one at (less (omega arith) (omega (arith, among-leaves _ _ _ _ c.requires.along c.requires.ready.near)) c.requires.room)

pub overflow_add-result : goal.overflow_add-result
overflow_add-result g t c = leaf-next _ _ _ _ c.requires.along c.requires.ready.near

pub returns-then-leaf-q-clause-passed : goal.returns-then-leaf-q-clause-passed
returns-then-leaf-q-clause-passed g t c = passed-leaf _ _ _ _ c.requires.along c.requires.ready.near _ c.leaf_at-leaf.ensures c.if-leaf-q.true

pub returns-then-leaf-q-clause-taken : goal.returns-then-leaf-q-clause-taken
returns-then-leaf-q-clause-taken g t c =
    let one = one-between _ _ _ _ c.requires.along c.requires.ready.near _ c.leaf_at-leaf.ensures c.if-leaf-q.true in
    c.replace.ensures.taken ∙ ap (g.S.Sink.after c.args.sink.now) (sym (one _))

pub loop-k-init : goal.loop-k-init
loop-k-init g t c = (
  walked_start _ _ _ _ c.requires.along c.requires.ready.near (inner-leaf _ _ _ _ c.requires.along c.requires.ready.near _ c.leaf_at-leaf.ensures c.if-leaf-q.false),
  left-as-is _ _ (work c.carry-u.new.words c.work_out-decided.new.known) _ refl c.work_out-decided.ensures.lent,
  took-nothing _ _ g.S.Sink.laws _ _ _ _ _,
)

pub child-requires-clause-near : goal.child-requires-clause-near
child-requires-clause-near g t c = near-split _ _ c.requires.ready.near (left-some _ _ _ _ c.requires.along c.requires.ready.near _ _ c.loop-k.invariant.0)

pub overflow_sub-left : goal.overflow_sub-left
overflow_sub-left g t c = left-some _ _ _ _ c.requires.along c.requires.ready.near _ _ c.loop-k.invariant.0

pub walk-next-requires : goal.walk-next-requires
walk-next-requires g t c κs within =
    let w = c.loop-k.invariant in
    let a = c.requires.along in
    let near = c.requires.ready.near in
    let u = c.carry-u.ensures in
    let deep = left-some _ _ _ _ a near _ _ w.0 in (
      omega (arith, c.decreases, deep),
      (
        within,
        (
          ready-child _ _ _ _ _ c.requires.ready (work c.carry-u.new.words c.work_out-decided.new.known) _ u.carries u.stays u.before _ w.1 deep _ c.loop-k-test.true _ c.child.ensures,
          (
            along-child _ _ _ _ a near _ _ w.0 c.loop-k-test.true _ c.child.ensures,
            rw (same-between _ _ _ _ a near _ _ w.0 c.loop-k-test.true _ c.child.ensures (solid_state (records_of c.args.s.now)) c.loop-k.next (length (leaves_of c.args.map.now)))
                (room-more _ _ g.S.Sink.laws _ _ _ _ _ _ _ w.2 w.0.later _ w.0.among c.requires.room),
          ),
        ),
      ),
    )

pub loop-k-preserved : goal.loop-k-preserved
loop-k-preserved g t c =
    let w = c.loop-k.invariant in
    let a = c.requires.along in
    let near = c.requires.ready.near in
    let e = c.walk-next.ensures in
    let same = same-between _ _ _ _ a near _ _ w.0 c.loop-k-test.true _ c.child.ensures (solid_state (records_of c.args.s.now)) c.loop-k.next c.walk-next.result in (
      walked_next _ _ _ _ a near _ _ w.0 c.loop-k-test.true _ c.child.ensures _ e.passed,
      left-next _ _ _ _ _ w.1 e.work,
      took-more _ _ g.S.Sink.laws _ _ _ _ _ _ _ w.2 w.0.later _ e.passed.later _ (rw same at e.taken),
    )

pub returns-clause-work : goal.returns-clause-work
returns-clause-work g t c =
    let u = c.carry-u.ensures in
    left_below _ _ _ _ _ c.requires.ready (work c.carry-u.new.words c.work_out-decided.new.known) _ u.carries u.stays u.before _ c.loop-k.invariant.1

pub returns-clause-passed : goal.returns-clause-passed
returns-clause-passed g t c = walked_all _ _ _ _ c.requires.along c.requires.ready.near _ _ c.loop-k.invariant.0 (omega (arith, c.loop-k-test.false))

pub returns-clause-taken : goal.returns-clause-taken
returns-clause-taken g t c = c.loop-k.invariant.2

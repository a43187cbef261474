-- `zonemap::opening::scan` meets its contract: the remaining leaves determine what the whole list does.
use mathlib.Core.Path.{◌≡◌}
use mathlib.Core.Bool.{cond}
use native.Mathlib.Omega.{arith}
use Rattle.std.proofs.lemmas.Bool.Decides.{nat_tests}
use lib.Dec.{leb}
use borrow.Author.Rules.{rules}
use Rattle.zonemap.proofs.Scan.{scan-start, scan-less, scan-fits, scan-bad, scan-on, scan_good, scan-short}
use Rattle.zonemap.proofs.opening.scan.Goals as goal
use Rattle.zonemap.proofs.opening.scan.Goals.{then-place-m, else-place-m}

pub loop-at-init : goal.loop-at-init
loop-at-init c = search (rules, scan-start)

pub leaf_at-requires : goal.leaf_at-requires
leaf_at-requires c = omega (arith, c.loop-at-test.true, c.loop-at.invariant.beat, c.loop-at.invariant.whole)

pub returns-in_err-size : goal.returns-in_err-size
returns-in_err-size c = search (rules, scan-bad)

pub overflow_add-place : goal.overflow_add-place
overflow_add-place c = search (rules, scan-fits)

pub loop-at-smaller : goal.loop-at-smaller
loop-at-smaller c = search (rules, scan-less)

pub loop-at-preserved : goal.loop-at-preserved
loop-at-preserved c =
    let last : c.if-place-m.found ≡ cond (leb c.loop-at.place c.args.m) c.loop-at.at c.loop-at.found =
    elim c.if-place-m.branch [
      | then-place-m w ↦ grind (arith, nat_tests)
      | else-place-m w ↦ grind (arith, nat_tests)
    ] in
    scan-on _ _ _ _ _ _ _ c.loop-at.invariant _ c.leaf_at.ensures _ c.good_size.ensures c.loop-at-test.true _ _ c.in_ok-size.ensures.ok_part last

pub returns-then-place-eight_to : goal.returns-then-place-eight_to
returns-then-place-eight_to c = search (rules, scan-short)

pub returns : goal.returns
returns c = search (rules, scan_good)

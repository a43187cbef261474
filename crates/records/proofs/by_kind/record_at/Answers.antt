-- `records::by_kind::record_at` meets its contract: the kind determines how many bytes follow it, and which record they make.
use native.Mathlib.Omega.{arith}
use Rattle.records.proofs.ByKind.{kind-room, record-room, first-room, second-room, version-room, record-as, record-face, record-constant, complement-room, complement-is}
use borrow.Author.Rules.{rules}
use Rattle.records.proofs.by_kind.record_at.Goals as goal

pub bounds-s-at : goal.bounds-s-at
bounds-s-at c = search (rules, kind-room)

pub i32_at-requires : goal.i32_at-requires
i32_at-requires c = omega (arith, record-room _ _ c.requires 1 c.in-1.is)

pub bounds-s-at-in-5 : goal.bounds-s-at-in-5
bounds-s-at-in-5 c = search (rules, first-room)

pub bounds-s-at-in-5-2 : goal.bounds-s-at-in-5-2
bounds-s-at-in-5-2 c = search (rules, second-room)

pub bounds-s-at-in-6 : goal.bounds-s-at-in-6
bounds-s-at-in-6 c = search (rules, first-room)

pub bounds-s-at-in-6-2 : goal.bounds-s-at-in-6-2
bounds-s-at-in-6-2 c = search (rules, second-room)

pub bounds-s-at-in-7 : goal.bounds-s-at-in-7
bounds-s-at-in-7 c = search (rules, first-room)

pub bounds-s-at-in-7-2 : goal.bounds-s-at-in-7-2
bounds-s-at-in-7-2 c = search (rules, second-room)

pub bounds-s-at-in-8 : goal.bounds-s-at-in-8
bounds-s-at-in-8 c = search (rules, first-room)

pub bounds-s-2 : goal.bounds-s-2
bounds-s-2 c = search (rules, version-room)

pub bounds-s-at-in-16 : goal.bounds-s-at-in-16
bounds-s-at-in-16 c = search (rules, first-room)

pub bounds-s-at-in-17 : goal.bounds-s-at-in-17
bounds-s-at-in-17 c = search (rules, first-room)

pub bounds-s-at-in-17-2 : goal.bounds-s-at-in-17-2
bounds-s-at-in-17-2 c = search (rules, second-room)

pub bounds-s-at-in-18 : goal.bounds-s-at-in-18
bounds-s-at-in-18 c = search (rules, first-room)

pub bounds-s-at-in-18-2 : goal.bounds-s-at-in-18-2
bounds-s-at-in-18-2 c = search (rules, second-room)

pub bounds-s-at-in_default : goal.bounds-s-at-in_default
bounds-s-at-in_default c = search (rules, complement-room)

pub returns-in-1 : goal.returns-in-1
returns-in-1 c = search (rules, record-constant)

pub returns-in-2 : goal.returns-in-2
returns-in-2 c = search (rules, record-as)

pub returns-in-3 : goal.returns-in-3
returns-in-3 c = search (rules, record-as)

pub returns-in-4 : goal.returns-in-4
returns-in-4 c = search (rules, record-as)

pub returns-in-5 : goal.returns-in-5
returns-in-5 c = search (rules, record-as)

pub returns-in-6 : goal.returns-in-6
returns-in-6 c = search (rules, record-as)

pub returns-in-7 : goal.returns-in-7
returns-in-7 c = search (rules, record-as)

pub returns-in-8 : goal.returns-in-8
returns-in-8 c = search (rules, record-as)

pub returns-in-16 : goal.returns-in-16
returns-in-16 c = search (rules, record-face)

pub returns-in-17 : goal.returns-in-17
returns-in-17 c = search (rules, record-as)

pub returns-in-18 : goal.returns-in-18
returns-in-18 c = search (rules, record-as)

pub returns-in_default : goal.returns-in_default
returns-in_default c = search (rules, complement-is)

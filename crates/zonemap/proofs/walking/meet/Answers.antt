-- `zonemap::walking::meet` meets its contract: a leaf of a map that opens is in place.
use Rattle.zonemap.proofs.Meeting.{met-room, met-within, met-level, met-deep, met-end, met-is}
use native.Mathlib.Omega.{arith}
use borrow.Author.Rules.{rules}
use Rattle.zonemap.proofs.walking.meet.Goals as goal

pub overflow_mul-i : goal.overflow_mul-i
overflow_mul-i c = record { fits = omega (arith, met-room _ c.requires.opens _ c.requires.its_root _ c.requires.among) }

pub overflow_add-i : goal.overflow_add-i
overflow_add-i c = record { fits = omega (arith, met-room _ c.requires.opens _ c.requires.its_root _ c.requires.among) }

pub leaf_at-leaf-requires : goal.leaf_at-leaf-requires
leaf_at-leaf-requires c = search (rules, met-room)

pub cube_at-requires : goal.cube_at-requires
cube_at-requires c = search (rules, met-within, met-level)

pub overflow_sub-root : goal.overflow_sub-root
overflow_sub-root c = search (rules, met-level)

pub eight_to-requires : goal.eight_to-requires
eight_to-requires c = search (rules, met-deep)

pub overflow_add-result : goal.overflow_add-result
overflow_add-result c = search (rules, met-end)

pub returns : goal.returns
returns c = search (rules, met-is)

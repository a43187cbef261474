-- `tape::working::fill_states` meets its contract. The invariant is `Stating`; the bounds stay, and no more words are decided than were met.
use mathlib.Core.Path.{◌≡◌}
use Prim.Native.Nat.{◌≤◌}
use Rattle.tape.specs.Memory.{bounds_in}
use Rattle.tape.proofs.Filling.{Stating}
use Rattle.tape.proofs.working.fill_states.Given as goal

abbrev pub invariant-loop-w : goal.invariant-loop-w
invariant-loop-w l = record {
  stating : Stating l.words (bounds_in l.initial.known.bounds) l.initial.known.states l.known.states l.w-index;
  bounds : l.known.bounds ≡ l.initial.known.bounds;
  few : l.decided ≤ l.w-index;
}

-- `tape::working::fill_bounds` meets its contract. The invariant is `Bounding`; the states stay.
use mathlib.Core.Path.{◌≡◌}
use Rattle.tape.proofs.Filling.{Bounding}
use Rattle.tape.proofs.working.fill_bounds.Given as goal

abbrev pub invariant-loop-w : goal.invariant-loop-w
invariant-loop-w l = Bounding l.words l.q l.initial.known.bounds l.known.bounds l.w-index × (l.known.states ≡ l.initial.known.states)

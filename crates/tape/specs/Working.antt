-- A tape worked out over a cube in two loops: the bounds of its arithmetic records, then the states of its logical ones. Only inner contracts cite this.
use Rattle.std.specs.Prelude.{ℕ, ◌≡◌, Bool, List, [], ◌∷◌}
use Rattle.interval.specs.declared.Interval.{Interval}
use Rattle.interval.specs.Limit.{SmallEnds}
use Rattle.sheet.specs.declared.Record.{Record}
use Rattle.sheet.specs.Operands.{sort_of, first_of, second_of}
use Rattle.cube.specs.declared.Cube.{Cube}
use Rattle.colour.specs.declared.State.{State}
use Rattle.colour.specs.Bounds.{bounds_of}
use Rattle.colour.specs.States.{state_of}
use Rattle.carried.specs.Words.{Word, put, is_logical}
use Rattle.tape.specs.Memory.{bounds_in, state_in}

-- a record of this sort: `true` is logical
abbrev pub OfSort : Bool → Record → Type 0
OfSort logical r = is_logical (sort_of r) ≡ logical

-- ---- bounds
-- what a word makes of bounds
unfoldable pub bounds_word : Cube → (ℕ → Interval) → Word → Interval
bounds_word q b w = bounds_of q (b (first_of w.what)) (b (second_of w.what)) w.what

unfoldable pub run_bounds : Cube → (ℕ → Interval) → List Word → ℕ → Interval
run_bounds q b [] = b
run_bounds q b (w ∷ ws) = run_bounds q (put b w.number (bounds_word q b w)) ws

-- none passes the limit on the way
abbrev pub AllSmall : Cube → (ℕ → Interval) → List Word → Type 0
AllSmall q b [] = Unit {0}
AllSmall q b (w ∷ ws) = SmallEnds (bounds_word q b w) × AllSmall q (put b w.number (bounds_word q b w)) ws

-- what the first loop leaves
pub record Filled (q : Cube) (ws : List Word) (bounds₀ bounds : List Interval) : Type 0 where
  pub each : (a : ℕ) → bounds_in bounds a ≡ run_bounds q (bounds_in bounds₀) ws a

-- ---- states
-- what a word makes of bounds and states
unfoldable pub state_word : (ℕ → Interval) → (ℕ → State) → Word → State
state_word b s w = state_of w.number (b (first_of w.what)) (s (first_of w.what)) (s (second_of w.what)) w.what

unfoldable pub run_states : (ℕ → Interval) → (ℕ → State) → List Word → ℕ → State
run_states b s [] = s
run_states b s (w ∷ ws) = run_states b (put s w.number (state_word b s w)) ws

-- what the second loop leaves
pub record Stated (b : ℕ → Interval) (ws : List Word) (colours₀ colours : List State) : Type 0 where
  pub each : (a : ℕ) → state_in colours a ≡ run_states b (state_in colours₀) ws a

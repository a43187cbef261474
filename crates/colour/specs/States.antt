-- Colour of a cube: the state of one logical record, and the class and face of a state.
use Rattle.std.specs.Prelude.{ℕ, Bool, true, false, cond, not, ◌&&◌, ◌||◌, eqb, ℤ, pos}
use Rattle.std.specs.Int.Signed.{le_z, lt_z}
use Rattle.interval.specs.declared.Interval.{Interval}
use Rattle.sheet.specs.declared.Comparison.{Comparison}
use Rattle.sheet.specs.declared.Comparison.TheVariants.{AtMost, LessThan}
use Rattle.sheet.specs.declared.Record.{Record}
use Rattle.sheet.specs.declared.Record.TheVariants.{Constant, X, Y, Z, Sum, Difference, Product, Square, Face, Both, Either, Complement}
use Rattle.colour.specs.declared.State.{State}
use Rattle.colour.specs.declared.State.TheVariants.{Out, In, Single, Comp, Mixed}

abbrev pub is_in : State → Bool
is_in Out = false
is_in In = true
is_in (Single f) = false
is_in (Comp f) = false
is_in Mixed = false

abbrev pub is_out : State → Bool
is_out Out = true
is_out In = false
is_out (Single f) = false
is_out (Comp f) = false
is_out Mixed = false

-- The solid's state gives the class: Out white 0, In black 1, Single terminal 2, Comp terminal 3, Mixed gray 4.
abbrev pub class_of : State → ℕ
class_of Out = 0
class_of In = 1
class_of (Single f) = 2
class_of (Comp f) = 3
class_of Mixed = 4

-- face number: 0 unless class 2 or 3
abbrev pub face_of : State → ℕ
face_of Out = 0
face_of In = 0
face_of (Single f) = f
face_of (Comp f) = f
face_of Mixed = 0

-- whether two states are the same: they have one class and name one face
unfoldable pub is_same : State → State → Bool
is_same s t = eqb (class_of s) (class_of t) && eqb (face_of s) (face_of t)

-- Whether a number meets a face's comparison with 0. (The two versions of a sheet differ in this alone.)
unfoldable pub meets : Comparison → ℤ → Bool
meets AtMost v = le_z v (pos 0)
meets LessThan v = lt_z v (pos 0)

-- Face with bounds [a,b]: In if b meets its comparison; Out if a does not; else Single(that face). So in version 1 it is In if b <= 0 and Out if a > 0; in version
-- 2, by request 2026-07, "In if b < 0, Out if a >= 0, otherwise Single".
unfoldable pub face_state : Comparison → Interval → ℕ → State
face_state by i f = cond (meets by i.high) In (cond (not (meets by i.low)) Out (Single f))

-- complement: In and Out change places; Single(f) and Comp(f) change places; Mixed stays
abbrev pub complement_of : State → State
complement_of Out = In
complement_of In = Out
complement_of (Single f) = Comp f
complement_of (Comp f) = Single f
complement_of Mixed = Mixed

-- What both and either give where neither state decides and neither leaves it to the other. Request 2026-03: "both or either of Single(f) with Single(f) is
-- Single(f), and likewise Comp(f); both of Single(f) with Comp(f), in either order, is Out, and either of them is In. Different faces stay Mixed." So a state with
-- itself is that state (Mixed stays Mixed), and with its complement it is `decided`: Out for both, In for either.
unfoldable pub otherwise_of : State → State → State → State
otherwise_of decided s t = cond (is_same s t) s (cond (is_same s (complement_of t)) decided Mixed)

-- The rules that follow are over `otherwise`, which is that rule today. Before request 2026-03 it gave Mixed of any two states, and maps of that time are in use.
module _ (otherwise : State → State → State → State) where
  -- Both and either join two states by one rule: `decided` if either decides; otherwise if one leaves it to the other, the other's state; otherwise `otherwise`.
  unfoldable pub joined_by : (State → Bool) → State → (State → Bool) → State → State → State
  joined_by decides decided leaves s t = cond (decides s || decides t) decided (cond (leaves s) t (cond (leaves t) s (otherwise decided s t)))

  -- both: Out if either is Out; otherwise if one is In, the other's state
  abbrev pub both_with : State → State → State
  both_with s t = joined_by is_out Out is_in s t

  -- either: In if either is In; otherwise if one is Out, the other's state
  abbrev pub either_with : State → State → State
  either_with s t = joined_by is_in In is_out s t

  -- the state of record n, where a face is coloured by the bounds i, and s and t are the states of the operands; an arithmetic record says nothing
  unfoldable pub state_with : ℕ → Interval → State → State → Record → State
  state_with n i s t (Constant c) = Mixed
  state_with n i s t X = Mixed
  state_with n i s t Y = Mixed
  state_with n i s t Z = Mixed
  state_with n i s t (Sum a b) = Mixed
  state_with n i s t (Difference a b) = Mixed
  state_with n i s t (Product a b) = Mixed
  state_with n i s t (Square a) = Mixed
  state_with n i s t (Face by a) = face_state by i n
  state_with n i s t (Both a b) = both_with s t
  state_with n i s t (Either a b) = either_with s t
  state_with n i s t (Complement a) = complement_of s

-- both: Out if either is Out; otherwise if one is In, the other's state; otherwise of Single(f) with Single(f) it is Single(f), and likewise Comp(f); of Single(f)
-- with Comp(f), in either order, Out; of any other two Mixed
abbrev pub both_of : State → State → State
both_of = both_with otherwise_of

-- either: In if either is In; otherwise if one is Out, the other's state; otherwise of Single(f) with Single(f) it is Single(f), and likewise Comp(f); of
-- Single(f) with Comp(f), in either order, In; of any other two Mixed
abbrev pub either_of : State → State → State
either_of = either_with otherwise_of

-- the state of record n, by these rules
abbrev pub state_of : ℕ → Interval → State → State → Record → State
state_of = state_with otherwise_of

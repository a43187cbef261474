-- Rules that look sensible and are wrong: for each, a sheet, a cube and a point of the cube where the state that the rule gives is not true.
use mathlib.Core.Path.{◌≡◌, sym, ap}
use mathlib.Core.Bool.{Bool, true, false, cond, ◌&&◌, ◌||◌, true≢false}
use mathlib.Core.List.{List, [], ◌∷◌}
use Prim.Native.Nat.{ℕ, zero, suc, ◌*◌}
use native.Mathlib.Nat.{zero-lt-suc}
use lib.IntN.{ℤ, pos, negsuc, ◌+ℤ◌}
use lib.ListN.{get_or}
use lib.Signed.{le_z, lt_z}
use Rattle.integers.specs.Least.{lesser_of, greater_of}
use Rattle.interval.specs.declared.Interval.{Interval}
use Rattle.interval.specs.Rules.{from, only, difference, span, product, square}
use Rattle.sheet.specs.declared.Comparison.TheVariants.{AtMost, LessThan}
use Rattle.sheet.specs.declared.Record.{Record}
use Rattle.sheet.specs.declared.Record.TheVariants.{Constant, X, Y, Difference, Face, Both}
use Rattle.sheet.specs.Along.{along, onward}
use Rattle.cube.specs.declared.Cube.{Cube}
use Rattle.cube.specs.Cubes.{half}
use Rattle.colour.specs.declared.State.{State}
use Rattle.colour.specs.declared.State.TheVariants.{Out, In, Single, Mixed}
use Rattle.colour.specs.Bounds.{across, bounds_of}
use Rattle.colour.specs.States.{is_in, is_out, meets, face_state, state_with}
use Rattle.colour.specs.Entries.{blank, face_bounds, entry_with, entries}
use Rattle.meaning.specs.Fractions.{FractionalPoint, InClosed}
use Rattle.meaning.specs.Truth.{value_of, holds_of, meaning_of, holds_at, in_solid}
use Rattle.meaning.proofs.Closed.{lies}
use Rattle.soundness.specs.Claims.{Sound}

-- a state of the solid over a cube that is not sound at a point of the closed cube
record Unsound (rs : List Record) (q : Cube) (s : State) : Type 0 where
  point : FractionalPoint
  closed : InClosed q point
  wrong : Sound (λ f. holds_at rs f point) s (in_solid rs point) → ⊥

-- the cube with x and y from `low` on, and z from 0 on
abbrev cube : ℤ → ℕ → Cube
cube low side = record { x = low; y = low; z = pos 0; side = side; level = 0 }

-- the point x/n, y/n, 0 with n = m + 1
abbrev at : ℤ → ℤ → ℕ → FractionalPoint
at x y m = record { x = x; y = y; z = pos 0; n = suc m; positive = zero-lt-suc m }

-- ---- corners sampled: In if all eight corners are inside, Out if none is
abbrev corner : Cube → ℕ → FractionalPoint
corner q k = record {
  x = q.x +ℤ pos (half 0 k * q.side);
  y = q.y +ℤ pos (half 1 k * q.side);
  z = q.z +ℤ pos (half 2 k * q.side);
  n = 1;
  positive = zero-lt-suc 0;
}

all_of : (ℕ → Bool) → ℕ → Bool
all_of holds zero = true
all_of holds (suc n) = all_of holds n && holds n

any_of : (ℕ → Bool) → ℕ → Bool
any_of holds zero = false
any_of holds (suc n) = any_of holds n || holds n

sampled : List Record → Cube → State
sampled rs q = let inside : ℕ → Bool = λ k. in_solid rs (corner q k) in cond (all_of inside 8) In (cond (any_of inside 8) Mixed Out)

-- the strip with x from 1 to 2 misses every corner of a cube with x from 0 to 4
abbrev strip : List Record
strip = X ∷ Constant (pos 1) ∷ Constant (pos 2) ∷ Difference 1 0 ∷ Difference 0 2 ∷ Face AtMost 3 ∷ Face AtMost 4 ∷ Both 5 6 ∷ []

corners-sampled : Unsound strip (cube (pos 0) 4) (sampled strip (cube (pos 0) 4))
unfolding sampled all_of any_of Sound in_solid holds_at along onward meaning_of value_of holds_of
corners-sampled = record {
  point = at (pos 3) (pos 0) 1;
  closed = record { x = lies tt tt; y = lies tt tt; z = lies tt tt };
  wrong = true≢false;
}

-- ---- a coordinate by its low corner alone
-- x is at most 1
abbrev wall : List Record
wall = X ∷ Constant (pos 1) ∷ Difference 0 1 ∷ Face AtMost 2 ∷ []

low-corner : Unsound wall (cube (pos 0) 4) (face_state AtMost (difference (only (pos 0)) (only (pos 1))) 3)
unfolding meets face_state difference Sound in_solid holds_at along onward meaning_of value_of holds_of
low-corner = record {
  point = at (pos 4) (pos 0) 0;
  closed = record { x = lies tt tt; y = lies tt tt; z = lies tt tt };
  wrong = λ e. true≢false (sym e);
}

-- ---- [0, 2] called Out: white at x from 1 to 3 would then touch black at x from 0 to 1
out_at_zero : Interval → ℕ → State
out_at_zero i f = cond (le_z i.high (pos 0)) In (cond (le_z (pos 0) i.low) Out (Single f))

called-out : Unsound wall (cube (pos 1) 2) (out_at_zero (get_or (entries (cube (pos 1) 2) wall) 2 blank).bounds 3)
unfolding out_at_zero entry_with bounds_of state_with across difference Sound in_solid holds_at along onward meaning_of value_of holds_of
called-out = record {
  point = at (pos 1) (pos 1) 0;
  closed = record { x = lies tt tt; y = lies tt tt; z = lies tt tt };
  wrong = true≢false;
}

-- ---- [-1, 0] called In in a version 2 sheet: black at x from 0 to 1 would then hold the wall's own face
-- x is less than 1
abbrev strict_wall : List Record
strict_wall = X ∷ Constant (pos 1) ∷ Difference 0 1 ∷ Face LessThan 2 ∷ []

called-in : Unsound strict_wall (cube (pos 0) 1) (face_state AtMost (get_or (entries (cube (pos 0) 1) strict_wall) 2 blank).bounds 3)
unfolding meets face_state entry_with bounds_of state_with across difference Sound in_solid holds_at along onward meaning_of value_of holds_of
called-in = record {
  point = at (pos 1) (pos 0) 0;
  closed = record { x = lies tt tt; y = lies tt tt; z = lies tt tt };
  wrong = λ e. true≢false (sym e);
}

-- ---- Single kept through both of two faces
kept_of : State → State → State
kept_of s t = cond (is_out s || is_out t) Out (cond (is_in s) t s)

-- x and y are at most 0
abbrev edge : List Record
edge = X ∷ Y ∷ Face AtMost 0 ∷ Face AtMost 1 ∷ Both 2 3 ∷ []

abbrev edge_state : ℕ → State
edge_state n = (get_or (entries (cube (negsuc 0) 2) edge) n blank).state

single-kept : Unsound edge (cube (negsuc 0) 2) (kept_of (edge_state 2) (edge_state 3))
unfolding kept_of entry_with face_bounds bounds_of state_with across meets face_state Sound in_solid holds_at along onward meaning_of value_of holds_of
single-kept = record {
  point = at (pos 0) (pos 1) 0;
  closed = record { x = lies tt tt; y = lies tt tt; z = lies tt tt };
  wrong = λ e. true≢false (sym e);
}

-- ---- Sound, and still not the rule
-- a square worked out as a product of two unrelated intervals
square-as-product : product (from (negsuc 2) (pos 2)) (from (negsuc 2) (pos 2)) ≡ square (from (negsuc 2) (pos 2)) → ⊥
unfolding product span square lesser_of greater_of
square-as-product e = true≢false (sym (ap (λ (i : Interval). le_z (pos 0) i.low) e))

-- [-2, 0] called undecided because zero is in it
undecided : Interval → ℕ → State
undecided i f = cond (lt_z i.high (pos 0)) In (cond (lt_z (pos 0) i.low) Out (Single f))

called-undecided : (f : ℕ) → undecided (from (negsuc 1) (pos 0)) f ≡ face_state AtMost (from (negsuc 1) (pos 0)) f → ⊥
unfolding undecided meets face_state
called-undecided f e = true≢false (sym (ap is_in e))

-- [0, 2] called undecided in a version 2 sheet because zero is in it
strict-undecided : (f : ℕ) → face_state AtMost (from (pos 0) (pos 2)) f ≡ face_state LessThan (from (pos 0) (pos 2)) f → ⊥
unfolding meets face_state
strict-undecided f e = true≢false (sym (ap is_out e))

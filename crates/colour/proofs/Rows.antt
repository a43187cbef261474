-- Document 01's worked rows of bounds and states, computed from the definitions.
use mathlib.Core.Path.{◌≡◌, refl}
use mathlib.Core.List.{List, [], ◌∷◌}
use lib.IntN.{pos, negsuc}
use lib.ListN.{get_or}
use Rattle.integers.specs.Least.{lesser_of, greater_of}
use Rattle.interval.specs.Rules.{from, only, difference, span, product, square}
use Rattle.sheet.specs.declared.Comparison.TheVariants.{AtMost, LessThan}
use Rattle.sheet.specs.declared.Record.{Record}
use Rattle.sheet.specs.declared.Record.TheVariants.{Constant, X, Difference, Product, Square}
use Rattle.sheet.specs.Along.{along, onward}
use Rattle.cube.specs.declared.Cube.{Cube}
use Rattle.colour.specs.declared.State.TheVariants.{In, Out, Single, Comp, Mixed}
use Rattle.colour.specs.Bounds.{across, bounds_of}
use Rattle.colour.specs.States.{is_same, meets, face_state, complement_of, otherwise_of, joined_by, both_of, either_of, state_with}
use Rattle.colour.specs.Entries.{blank, entry_with, entries}

-- x(10-x) over x from 4 to 6: [16, 36]
pub product-row : (get_or (entries (record { x = pos 4; y = pos 0; z = pos 0; side = 2; level = 0 }) (X ∷ Constant (pos 10) ∷ Difference 1 0 ∷ Product 0 2 ∷ [])) 3 blank).bounds ≡ from (pos 16) (pos 36)
unfolding along onward entry_with bounds_of state_with across difference product span lesser_of greater_of
product-row = refl

-- the records x, x squared and x times x, over x from -3 to 2
abbrev folded : List Record
folded = X ∷ Square 0 ∷ Product 0 0 ∷ []

abbrev around : Cube
around = record { x = negsuc 2; y = pos 0; z = pos 0; side = 5; level = 0 }

-- square over [-3, 2]: [0, 9]
pub square-row : (get_or (entries around folded) 1 blank).bounds ≡ from (pos 0) (pos 9)
unfolding along onward entry_with bounds_of state_with across square product span lesser_of greater_of
square-row = refl

-- the product of x by itself there: [-6, 9]
pub unrelated-row : (get_or (entries around folded) 2 blank).bounds ≡ from (negsuc 5) (pos 9)
unfolding along onward entry_with bounds_of state_with across square product span lesser_of greater_of
unrelated-row = refl

-- Bounds [-2, 0]: In. Bounds [0, 2]: Single.
pub in_row : face_state AtMost (from (negsuc 1) (pos 0)) 5 ≡ In
unfolding meets face_state
in_row = refl

pub single-row : face_state AtMost (from (pos 0) (pos 2)) 5 ≡ Single 5
unfolding meets face_state
single-row = refl

-- and just above 0: Out
pub out-row : face_state AtMost (from (pos 1) (pos 2)) 5 ≡ Out
unfolding meets face_state
out-row = refl

-- In a version 2 sheet, bounds [-2, 0]: Single. Bounds [0, 0] and [0, 2]: Out. Bounds [-2, -1]: In.
pub strict-single-row : face_state LessThan (from (negsuc 1) (pos 0)) 5 ≡ Single 5
unfolding meets face_state
strict-single-row = refl

pub strict-point-row : face_state LessThan (only (pos 0)) 5 ≡ Out
unfolding meets face_state
strict-point-row = refl

pub strict-out-row : face_state LessThan (from (pos 0) (pos 2)) 5 ≡ Out
unfolding meets face_state
strict-out-row = refl

pub strict-in-row : face_state LessThan (from (negsuc 1) (negsuc 0)) 5 ≡ In
unfolding meets face_state
strict-in-row = refl

-- The faces left in the cube count, not those of the whole sheet: a face that holds all over the cube leaves the other alone.
pub left-row : both_of In (Single 6) ≡ Single 6
unfolding joined_by
left-row = refl

-- both or either of Single(f) with Single(f) is Single(f), and likewise Comp(f); both of Single(f) with Comp(f), in either order, is Out
pub both-twice-row : both_of (Single 5) (Single 5) ∷ both_of (Comp 5) (Comp 5) ∷ both_of (Single 5) (Comp 5) ∷ both_of (Comp 5) (Single 5) ∷ [] ≡ Single 5 ∷ Comp 5 ∷ Out ∷ Out ∷ []
unfolding joined_by otherwise_of is_same
both-twice-row = refl

-- and either of them is In
pub either-twice-row : either_of (Single 5) (Single 5) ∷ either_of (Comp 5) (Comp 5) ∷ either_of (Single 5) (Comp 5) ∷ either_of (Comp 5) (Single 5) ∷ [] ≡ Single 5 ∷ Comp 5 ∷ In ∷ In ∷ []
unfolding joined_by otherwise_of is_same
either-twice-row = refl

-- Different faces stay Mixed: neither alone says what both do. And nothing is known of Mixed, with itself too.
pub different-row : both_of (Single 5) (Single 6) ∷ both_of (Single 5) (Comp 6) ∷ both_of (Comp 5) (Single 6) ∷ either_of (Comp 5) (Comp 6) ∷ either_of Mixed (Single 5) ∷ both_of Mixed Mixed ∷ [] ≡ Mixed ∷ Mixed ∷ Mixed ∷ Mixed ∷ Mixed ∷ Mixed ∷ []
unfolding joined_by otherwise_of is_same
different-row = refl

-- In and Out change places; Single(f) and Comp(f) change places
pub complement-in-row : complement_of In ≡ Out
complement-in-row = refl

pub complement-single-row : complement_of (Single 5) ≡ Comp 5
complement-single-row = refl

-- a face that holds nowhere in the cube leaves the other alone
pub either-left-row : either_of Out (Single 6) ≡ Single 6
unfolding joined_by
either-left-row = refl

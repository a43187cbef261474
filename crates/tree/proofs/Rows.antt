-- Document 01's worked rows of the leaves of a sheet, computed from the definitions.
use mathlib.Core.Path.{◌≡◌, refl, sym, ap, ◌∙◌}
use mathlib.Core.Bool.{false}
use mathlib.Core.List.{List, [], ◌∷◌, ◌++◌}
use Prim.Native.Nat.{ℕ, ◌-◌}
use native.Mathlib.Omega.{arith}
use lib.ListN.{length, get_or, length-append}
use Rattle.integers.proofs.Order.{by-test}
use Rattle.interval.specs.declared.Interval.{Interval}
use Rattle.interval.specs.Rules.{sum, difference}
use Rattle.sheet.specs.declared.Comparison.{Comparison}
use Rattle.sheet.specs.declared.Comparison.TheVariants.{AtMost, LessThan}
use Rattle.sheet.specs.declared.Record.{Record}
use Rattle.sheet.specs.declared.Record.TheVariants.{Face}
use Rattle.sheet.specs.Along.{along, onward}
use Rattle.sheet.proofs.Along.{length-along, entry}
use Rattle.sheet.specs.StepRoom.{step_records_by, step_records, strict_records}
use Rattle.cube.specs.declared.Root.{Root}
use Rattle.cube.specs.declared.Cube.{Cube}
use Rattle.cube.specs.Cubes.{root_cube, child_of}
use Rattle.colour.specs.Bounds.{across, bounds_of}
use Rattle.colour.specs.declared.State.TheVariants.{In, Out, Single}
use Rattle.colour.specs.States.{is_same, meets, face_state, otherwise_of, joined_by, state_with}
use Rattle.colour.specs.Entries.{Entry, blank, face_bounds, entry_with, entry_of, entries}
use Rattle.zonemap.specs.declared.Leaf.{Leaf}
use Rattle.zonemap.specs.StepRoom.{step_root}
use Rattle.tree.specs.Visit.{upto, visit}
use Rattle.tree.specs.Solid.{solid_state, is_gray, leaf_of, leaves_below}
use Rattle.tree.proofs.Cubes.{leaves-flat}

abbrev pub leaf : ℕ → ℕ → ℕ → Leaf
leaf level class face = record { level = level; class = class; face = face }

-- S at d 0: one leaf, level 0, gray, in version 1 and in version 2
pub depth-0 : (by : Comparison) → leaves_below (solid_state (step_records_by by)) 0 (root_cube (step_root 0)) ≡ leaf 0 4 0 ∷ []
unfolding leaves_below visit is_gray leaf_of solid_state along onward entry_with face_bounds bounds_of state_with across sum difference meets face_state joined_by otherwise_of is_same root_cube
depth-0 AtMost = refl
depth-0 LessThan = refl

-- S at d 1: 8 leaves
pub depth-1 : leaves_below (solid_state step_records) 1 (root_cube (step_root 1)) ≡ leaf 1 1 0 ∷ leaf 1 2 5 ∷ leaf 1 2 6 ∷ leaf 1 4 0 ∷ leaf 1 1 0 ∷ leaf 1 2 5 ∷ leaf 1 2 6 ∷ leaf 1 4 0 ∷ []
unfolding leaves_below visit upto is_gray leaf_of solid_state along onward entry_with face_bounds bounds_of state_with across sum difference meets face_state joined_by otherwise_of is_same root_cube child_of
depth-1 = refl

-- S at d 2: 22 leaves; each gray cube becomes gray, white, white, white, twice
pub depth-2 :
    leaves_below (solid_state step_records) 2 (root_cube (step_root 2))
    ≡ leaf 1 1 0 ∷ leaf 1 2 5 ∷ leaf 1 2 6 ∷ leaf 2 4 0 ∷ leaf 2 0 0 ∷ leaf 2 0 0 ∷ leaf 2 0 0 ∷ leaf 2 4 0 ∷ leaf 2 0 0 ∷ leaf 2 0 0 ∷ leaf 2 0 0 ∷ leaf 1 1 0 ∷ leaf 1 2 5 ∷ leaf 1 2 6 ∷ leaf 2 4 0 ∷ leaf 2 0 0 ∷ leaf 2 0 0 ∷ leaf 2 0 0 ∷ leaf 2 4 0 ∷ leaf 2 0 0 ∷ leaf 2 0 0 ∷ leaf 2 0 0 ∷ []
unfolding leaves_below visit upto is_gray leaf_of solid_state along onward entry_with face_bounds bounds_of state_with across sum difference meets face_state joined_by otherwise_of is_same root_cube child_of
depth-2 = refl

-- in version 2, at d 1: gray, white, white, white, twice
pub strict-1 : leaves_below (solid_state strict_records) 1 (root_cube (step_root 1)) ≡ leaf 1 4 0 ∷ leaf 1 0 0 ∷ leaf 1 0 0 ∷ leaf 1 0 0 ∷ leaf 1 4 0 ∷ leaf 1 0 0 ∷ leaf 1 0 0 ∷ leaf 1 0 0 ∷ []
unfolding leaves_below visit upto is_gray leaf_of solid_state along onward entry_with face_bounds bounds_of state_with across sum difference meets face_state joined_by otherwise_of is_same root_cube child_of
strict-1 = refl

-- at d 2 each gray cube becomes black, face 5, face 6, gray, twice
pub strict-2 :
    leaves_below (solid_state strict_records) 2 (root_cube (step_root 2))
    ≡ leaf 2 1 0 ∷ leaf 2 2 5 ∷ leaf 2 2 6 ∷ leaf 2 4 0 ∷ leaf 2 1 0 ∷ leaf 2 2 5 ∷ leaf 2 2 6 ∷ leaf 2 4 0 ∷ leaf 1 0 0 ∷ leaf 1 0 0 ∷ leaf 1 0 0 ∷ leaf 2 1 0 ∷ leaf 2 2 5 ∷ leaf 2 2 6 ∷ leaf 2 4 0 ∷ leaf 2 1 0 ∷ leaf 2 2 5 ∷ leaf 2 2 6 ∷ leaf 2 4 0 ∷ leaf 1 0 0 ∷ leaf 1 0 0 ∷ leaf 1 0 0 ∷ []
unfolding leaves_below visit upto is_gray leaf_of solid_state along onward entry_with face_bounds bounds_of state_with across sum difference meets face_state joined_by otherwise_of is_same root_cube child_of
strict-2 = refl

-- ---- a sheet whose last record is a face
module _ (rs : List Record) (by : Comparison) (a : ℕ) where
  abbrev faced : List Record
  faced = rs ++ Face by a ∷ []

  -- the solid's state is the face's
  solid-face : (q : Cube) → solid_state faced q ≡ face_state by (face_bounds q (get_or (entries q rs) a blank)) (length rs)
  unfolding solid_state entry_with state_with
  solid-face q =
      let n : length faced - 1 ≡ length rs = omega (arith, length-append rs (Face by a ∷ [])) in
      ap (λ (k : ℕ). (get_or (entries q faced) k blank).state) n
      ∙ ap (λ (e : Entry). e.state) (entry (entry_of q) rs (Face by a) [] blank)
      ∙ ap (face_state by (face_bounds q (get_or (entries q rs) a blank))) (length-along (entry_of q) rs)

  -- if a face's state is Single, it names that face
  own-number : (i : Interval) (n f : ℕ) → face_state by i n ≡ Single f → f ≡ n
  unfolding face_state
  own-number i n f e =
      by-test (meets by i.high) (λ t. let z : In ≡ Single f = rw t at e in let y : ◌≡◌ {A = ℕ} 0 1 = cc in absurd (omega arith))
      (λ t. by-test (meets by i.low) (λ u. let z : Single n ≡ Single f = rw (t, u) at e in cc)
      (λ u. let z : Out ≡ Single f = rw (t, u) at e in let y : ◌≡◌ {A = ℕ} 0 1 = cc in absurd (omega arith)))

  -- Single over the root, it gives one leaf at any depth: level 0, class 2, that face
  pub one-face : (root : Root) (f : ℕ) → solid_state faced (root_cube root) ≡ Single f → leaves_below (solid_state faced) root.d (root_cube root) ≡ leaf 0 2 (length rs) ∷ []
  unfolding is_gray leaf_of root_cube
  one-face root f s =
      let g : is_gray (solid_state faced) (root_cube root) ≡ false = rw s in
      let k : f ≡ length rs = own-number _ _ f (sym (solid-face (root_cube root)) ∙ s) in
      leaves-flat (solid_state faced) root.d (root_cube root) g ∙ rw (s, k)

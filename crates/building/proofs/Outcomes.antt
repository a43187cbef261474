-- The outcome at each test, and what the functions on the way require.
use Rattle.std.specs.Prelude.{Err, Ok, Result}
use mathlib.Core.Path.{◌≡◌, refl, sym, ap, ◌∙◌}
use mathlib.Core.Bool.{Bool, true, false}
use mathlib.Core.List.{List, []}
use Prim.Native.Nat.{ℕ, ◌+◌, ◌-◌, ◌*◌, ◌≤◌, ◌<◌}
use native.Mathlib.Nat.{zero-add}
use native.Mathlib.Omega.{arith}
use borrow.Author.Tests.{lt-ltb, le-ltb}
use lib.IntN.{ℤ}
use mir.Syntax.{w8, w32}
use mir.Val.{Fits, SFits}
use lib.ListN.{length}
use lib.Seq.{sets, sets-eq}
use Rattle.integers.proofs.Stores.{sets-append}
use Rattle.replies.specs.declared.Refusal.{Refusal}
use Rattle.replies.specs.declared.Over.{Over}
use Rattle.replies.specs.declared.Refusal.TheVariants.{Limits, OverRoot, Short}
use Rattle.replies.specs.Table.{Reply}
use Rattle.sheet.specs.declared.Record.{Record}
use Rattle.sheet.specs.Records.{records_of}
use Rattle.sheet.specs.Check.{check_of}
use Rattle.sheet.proofs.Good.{records-few, good-count, good-some}
use Rattle.cube.specs.declared.Root.{Root}
use Rattle.cube.specs.declared.Cube.{Cube}
use Rattle.cube.specs.Limits.{in_limits}
use Rattle.cube.specs.Cubes.{root_cube}
use Rattle.cube.proofs.Passed.{passed_root, same-root}
use Rattle.cube.proofs.Cubes.{near-all, inside-itself}
use Rattle.tape.specs.declared.Tape.{Tape}
use Rattle.tape.specs.Lent.{Work, LentTo, Starts}
use Rattle.tape.proofs.Carrying.{carries-inner}
use Rattle.colour.specs.declared.State.{State}
use Rattle.colour.specs.Entries.{judged_of, first_past}
use Rattle.colour.proofs.Told.{known-none, past_first}
use Rattle.zonemap.specs.declared.Leaf.{Leaf}
use Rattle.zonemap.specs.Map.{header_of, leaves_bytes, map_of}
use Rattle.zonemap.proofs.Bytes.{header-length, map-length}
use Rattle.tree.specs.Solid.{solid_state, leaves_below}
use Rattle.tree.specs.Walk.{Ready, Left}
use Rattle.building.specs.Build.{Outcome, outcome, map_by, stored_of, over_root_with, build_with, build_of}

-- ---- a good sheet's number of records
module _ (s : List ℕ) (n : ℕ) (good : check_of s ≡ Ok n) where
  pub checked-count : n ≡ length (records_of s)
  checked-count = good-count s (check_of s) refl n good

  pub checked-few : n ≤ 256
  checked-few = omega (arith, checked-count, records-few s)

  pub checked-some : 0 < n
  checked-some = good-some s (check_of s) refl n good

  -- the number of the last record
  pub last_fits : Fits w8 (n - 1)
  last_fits = record { fits = omega (arith, checked-some, checked-few) }

-- ---- replies 1 to 5: r is what `check` returned
module _ (s : List ℕ) (r : Reply) (e : r ≡ check_of s) where
  pub bad-sheet : (why : Refusal) → r ≡ Err why → (root : Root) (d : List ℕ) → outcome (Err why) d ≡ build_of s root d
  unfolding build_with
  bad-sheet why h root d = rw (sym e ∙ h)

  pub good-sheet : (n : ℕ) → r ≡ Ok n → (x y z : ℤ) → SFits w32 x → SFits w32 y → SFits w32 z → (k depth : ℕ) (d : List ℕ) (o : Outcome)
      → o ≡ over_root_with (λ rs root. map_of root (leaves_below (solid_state rs) root.d (root_cube root))) (records_of s) (passed_root x y z k depth) d
      → o ≡ build_of s (record { x = x; y = y; z = z; k = k; d = depth }) d
  unfolding build_with map_by
  good-sheet n h x y z fx fy fz k depth d o g = rw (sym e ∙ h) (rw (same-root x y z fx fy fz k depth) at g)

-- ---- reply 6: b is what `is_within` returned
module _ (root : Root) (b : Bool) (e : b ≡ in_limits root) where
  pub outside : b ≡ false → (map_over : List Record → Root → List ℕ) (rs : List Record) (d : List ℕ) → outcome (Err Limits) d ≡ over_root_with map_over rs root d
  unfolding over_root_with
  outside t map_over rs d = rw (sym e ∙ t)

  pub within : b ≡ true → in_limits root ≡ true
  within t = sym e ∙ t

-- ---- reply 7: q is what `cube` returned, and j what `judge` did
module _ (map_over : List Record → Root → List ℕ) (root : Root) (w : in_limits root ≡ true) (q : Cube) (is : q ≡ root_cube root) (rs : List Record) (solid : ℕ)
    (j : Result State Over) (e : j ≡ judged_of rs q solid) where
  pub over_root_lem : (o : Over) → j ≡ Err o → (d : List ℕ) → outcome (Err (OverRoot o)) d ≡ over_root_with map_over rs root d
  unfolding over_root_with
  over_root_lem o h d = rw (w, past_first rs (root_cube root) q is solid j e o h)

  pub under-limit : (state : State) → j ≡ Ok state → (d : List ℕ) (o : Outcome) → o ≡ stored_of (map_over rs root) d → o ≡ over_root_with map_over rs root d
  unfolding over_root_with
  under-limit state h d o k = rw (w, known-none rs (root_cube root) q is solid j e state h) k

-- ---- the root is ready for a walk, and is so again after one
module _ (rs : List Record) where
  pub ready-root : (root : Root) → in_limits root ≡ true → first_past rs (root_cube root) ≡ [] → (w : Work) (t : Tape) → LentTo rs w → Starts rs w.words t → Ready rs root.d (root_cube root) w t
  ready-root root within none w t lent starts = record { near = near-all root within (root_cube root) refl; none = none; carries = starts (root_cube root); lent = lent }

  pub ready-again : (left : ℕ) (q : Cube) (t : Tape) (w₀ w : Work) → Ready rs left q w₀ t → Left rs t w₀ w → Ready rs left q w t
  ready-again left q t w₀ w ready left-it =
      record { near = ready.near; none = ready.none; carries = carries-inner rs q w₀.words t ready.carries q (inside-itself q) w.words left-it.stays; lent = left-it.lent }

-- ---- reply 8, or the map of n leaves
module _ (root : Root) (ls : List Leaf) (n : ℕ) (is : n ≡ length ls) (d : List ℕ) where
  length-is : length (map_of root ls) ≡ 19 + 3 * n
  length-is = map-length root ls ∙ rw is

  pub too_short : length d < 19 + 3 * n → outcome (Err (Short (19 + 3 * n))) d ≡ stored_of (map_of root ls) d
  unfolding stored_of
  too_short h = rw (length-is, lt-ltb (length d) (19 + 3 * n) h)

  module _ (room : 19 + 3 * n ≤ length d) (d₁ : List ℕ) (header : d₁ ≡ sets d 0 (header_of root n)) (d₂ : List ℕ) (leaves : d₂ ≡ sets d₁ 19 (leaves_bytes ls)) where
    stored : d₂ ≡ sets d 0 (map_of root ls)
    unfolding map_of
    stored =
        leaves
        ∙ ap (λ (x : List ℕ). sets x 19 (leaves_bytes ls)) header
        ∙ sets-append d 0 19 (header_of root n) (leaves_bytes ls) (omega (arith, header-length root n))
        ∙ rw is

    pub whole : outcome (Ok (19 + 3 * n)) d₂ ≡ stored_of (map_of root ls) d
    unfolding stored_of
    whole =
        rw (length-is, le-ltb (length d) (19 + 3 * n) room)
        (ap (outcome (Ok (19 + 3 * n))) (stored ∙ sets-eq (map_of root ls) d 0 (omega (arith, length-is)) ∙ rw (zero-add, length-is)))

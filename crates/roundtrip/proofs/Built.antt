-- The leaves of a built map run from the root's first place to its last: each is good at its own place, and is the leaf of the cube there. So a built map
-- opens, with these leaves.
use mathlib.Core.Path.{◌≡◌, refl, sym, ap, ◌∙◌}
use mathlib.Core.Bool.{Bool, true, false, ◌||◌, not}
use mathlib.Core.Logic.{⊎_elim}
use mathlib.Core.List.{List, [], ◌∷◌}
use Prim.Native.Nat.{ℕ, zero, suc, ◌+◌, ◌-◌, ◌*◌, ◌%◌, ◌^◌, ◌≤◌, ◌<◌}
use native.Mathlib.Nat.{mul-mod_left, mul-le-mul_right, one-le-pow, zero-lt-suc, eq-or-lt_of_le}
use native.Mathlib.Omega.{arith}
use borrow.Author.Tests.{eq-eqb, le-leb}
use lib.Dec.{eqb, leb}
use lib.ListN.{length, get_or}
use Rattle.integers.proofs.Order.{by-test}
use Rattle.sheet.specs.declared.Record.{Record}
use Rattle.records.specs.Faces.{has_face}
use Rattle.cube.specs.declared.Root.{Root}
use Rattle.cube.specs.declared.Cube.{Cube}
use Rattle.cube.specs.Limits.{in_limits}
use Rattle.cube.specs.Cubes.{root_cube, child_of, cube_at, cube_around}
use Rattle.cube.proofs.Limits.{limits-sizes}
use Rattle.cube.proofs.Corners.{times_eight}
use Rattle.cube.proofs.Cubes.{child-cube, root-cube}
use Rattle.cube.proofs.Around.{around-is, around-child}
use Rattle.zonemap.specs.declared.Leaf.{Leaf}
use Rattle.zonemap.specs.Opening.{root_of, level_good, face_good, place_good, leaf_good, fault_of, leaves_of}
use Rattle.zonemap.specs.Leaves.{place_at, nowhere}
use Rattle.zonemap.proofs.Runs.{Run, Fine, run-append, run-map, run_at}
use Rattle.zonemap.proofs.Trip.{leaves-back, root-back, map-opens}
use Rattle.colour.specs.declared.State.{State}
use Rattle.colour.specs.declared.State.TheVariants.{Out, In, Single, Comp, Mixed}
use Rattle.colour.specs.States.{class_of}
use Rattle.tree.specs.Visit.{upto}
use Rattle.tree.specs.Solid.{solid_state, is_gray, leaf_by, leaf_of, leaves_below}
use Rattle.building.specs.Build.{map_by, built_map}
use Rattle.tree.proofs.Cubes.{kid_leaves, kid-leaves, leaves-split, leaves-end, leaves-flat, leaves-few}
use Rattle.roundtrip.proofs.Named.{solid-good}

-- n runs of one size, one after the other
pub run-upto : (Each : ℕ → Leaf → Type 0) (d p s n : ℕ) (f : ℕ → List Leaf) → ((k : ℕ) → k < n → Run Each d (p + k * s) (f k) (p + k * s + s)) → Run Each d p (upto f n) (p + n * s)
unfolding Run upto
run-upto Each d p s zero f h = omega arith
run-upto Each d p s (suc n) f h =
    let e : p + suc n * s ≡ p + n * s + s = omega arith in
    rw e (run-append Each d p (p + n * s) (p + n * s + s) (upto f n) (f n) (run-upto Each d p s n f (λ k l. h k (omega arith))) (h n (omega arith)))

-- ---- one leaf
class-few : (s : State) → leb (class_of s) 4 ≡ true
class-few Out = refl
class-few In = refl
class-few (Single f) = refl
class-few (Comp f) = refl
class-few Mixed = refl

-- gray only at level d: at the last level, or not gray
level-good : (d level : ℕ) (s : State) → level ≤ d → (not (eqb (class_of s) 4) || eqb level d) ≡ true → level_good d (leaf_by level s) ≡ true
unfolding level_good
level-good d level s h g = rw (le-leb level d h, class-few s, g)

last-level : (b : Bool) (level d : ℕ) → level ≡ d → (not b || eqb level d) ≡ true
last-level true level d e = eq-eqb level d e
last-level false level d e = refl

not-gray : (b c : Bool) → b ≡ false → (not b || c) ≡ true
not-gray b c e = rw e

-- the leaves of a root
abbrev pub all_leaves : (Cube → State) → Root → List Leaf
all_leaves over root = leaves_below over root.d (root_cube root)

pub tree-root : (over : Cube → State) (root : Root) → in_limits root ≡ true → root_of (map_by over root) ≡ root
unfolding map_by
tree-root over root within = root-back root (all_leaves over root) within

pub tree-leaves : (over : Cube → State) (root : Root) → leaves_of (map_by over root) ≡ all_leaves over root
unfolding map_by
tree-leaves over root = leaves-back root (all_leaves over root)

-- ---- the map of a root in its limits, given the state of each cube and which numbers a terminal leaf may name
module _ (named : ℕ → Bool) (over : Cube → State) (good : (level : ℕ) (q : Cube) → face_good named (leaf_by level (over q)) ≡ true) (root : Root) (within : in_limits root ≡ true) where
  abbrev d : ℕ
  d = root.d

  -- all cubes above a cube of a level at a place, from the level `top` on, are gray, and so were split
  abbrev pub Above : ℕ → ℕ → ℕ → Type 0
  Above top p level = (j : ℕ) → top ≤ j → j < level → is_gray over (cube_around root p j) ≡ true

  -- what building from that level on writes for a place: a leaf that is good there, and is the leaf of the cube there
  abbrev pub BuiltAt : ℕ → ℕ → Leaf → Type 0
  BuiltAt top p l = (leaf_good named d p l ≡ true) × (l ≡ leaf_of over (cube_at root p l.level)) × Above top p l.level

  module _ (top n level c : ℕ) (e : level + n ≡ d) (h : c * 8 ^ n + 8 ^ n ≤ 8 ^ d) where
    abbrev here : Cube
    here = cube_at root (c * 8 ^ n) level

    place-good : place_good d (c * 8 ^ n) (leaf_of over here) ≡ true
    unfolding place_good leaf_of cube_at
    place-good =
        let w : d - level ≡ n = omega arith in
        rw (w, eq-eqb (c * 8 ^ n % 8 ^ n) 0 (mul-mod_left c (8 ^ n)), le-leb (c * 8 ^ n + 8 ^ n) (8 ^ d) h)

    single : Above top (c * 8 ^ n) level → (not (is_gray over here) || eqb level d) ≡ true → Run (BuiltAt top) d (c * 8 ^ n) (leaf_of over here ∷ []) (c * 8 ^ n + 8 ^ n)
    unfolding Run leaf_good leaf_of is_gray cube_at
    single up g =
        let w : d - level ≡ n = omega arith in
        let v : c * 8 ^ n + 8 ^ (d - level) ≡ c * 8 ^ n + 8 ^ n = ap (λ (k : ℕ). c * 8 ^ n + 8 ^ k) w in
        ((rw (level-good d level (over here) (omega arith) g, good level here, place-good), refl, up), v)

  -- child k of the cube at a place
  part : (c n k : ℕ) → (c * 8 + k) * 8 ^ n ≡ c * 8 ^ suc n + k * 8 ^ n
  part c n k = omega (arith, times_eight c n)

  -- if a cube is gray, all cubes above its children are
  child-above : (top n level c k : ℕ) → level + suc n ≡ d → k < 8 → is_gray over (cube_at root (c * 8 ^ suc n) level) ≡ true → Above top (c * 8 ^ suc n) level
      → Above top ((c * 8 + k) * 8 ^ n) (level + 1)
  child-above top n level c k e l t up j from below =
      let size : 8 ^ suc n ≡ 8 * 8 ^ n = omega arith in
      rw (part c n k, around-child root n c k j (omega arith) l)
      (⊎_elim
      (λ (same : j ≡ level). rw (same, around-is root (suc n) level c (c * 8 ^ suc n) e (omega arith) (omega (arith, one-le-pow n 8 (zero-lt-suc 7)))) t)
      (λ (less : j < level). up j from less)
      (eq-or-lt_of_le (let most : j ≤ level = omega arith in most)))

  pub leaves_run : (top n level c : ℕ) → level + n ≡ d → c * 8 ^ n + 8 ^ n ≤ 8 ^ d → Above top (c * 8 ^ n) level
      → Run (BuiltAt top) d (c * 8 ^ n) (leaves_below over n (cube_at root (c * 8 ^ n) level)) (c * 8 ^ n + 8 ^ n)
  leaves_run top zero level c e h up =
      rw (leaves-end over 0 _ refl) (single top zero level c e h up (last-level (is_gray over (cube_at root (c * 8 ^ 0) level)) level d (omega arith)))
  leaves_run top (suc n) level c e h up =
      let q : Cube = cube_at root (c * 8 ^ suc n) level in
      by-test (is_gray over q)
      (λ t.
      let z : c * 8 ^ suc n + 8 ^ suc n ≡ c * 8 ^ suc n + 8 * 8 ^ n = omega arith in
      rw (leaves-split over (suc n) q (omega arith) t, z)
      (run-upto (BuiltAt top) d (c * 8 ^ suc n) (8 ^ n) 8 (kid_leaves over (suc n) q)
      (λ k l.
      let m : suc n - 1 ≡ n = omega arith in
      let kid : kid_leaves over (suc n) q k ≡ leaves_below over n (cube_at root ((c * 8 + k) * 8 ^ n) (level + 1)) =
      kid-leaves over (suc n) q k ∙ ap (λ (i : ℕ). leaves_below over i (child_of q k)) m ∙ ap (leaves_below over n) (child-cube root (limits-sizes root within).2 n level c k e l ∙ ap (λ (i : ℕ). cube_at root i (level + 1)) (sym (part c n k))) in
      rw (kid, ← part c n k)
      (leaves_run top n (level + 1) (c * 8 + k) (omega arith)
      (let b : k ≤ 7 = omega arith in omega (arith, part c n k, mul-le-mul_right (8 ^ n) b))
      (child-above top n level c k e l t up)))))
      (λ t. rw (leaves-flat over (suc n) q t) (single top (suc n) level c e h up (not-gray (is_gray over q) (eqb level d) t)))

  -- the leaves of the root
  abbrev all : List Leaf
  all = all_leaves over root

  root-run : Run (BuiltAt 0) d 0 all (8 ^ d)
  root-run =
      let r = leaves_run 0 d 0 0 (omega arith) (omega arith) (λ j from l. absurd (omega arith)) in
      let z : 0 * 8 ^ d ≡ 0 = omega arith in
      let y : 0 + 8 ^ d ≡ 8 ^ d = omega arith in
      rw (z, y, root-cube root) at r

  all-few : length all ≤ 2 ^ 30
  all-few = leaves-few over d (root_cube root) (limits-sizes root within).1

  -- THE ROUND TRIP: the map opens (and it has that root and those leaves, as above)
  pub tree_opens : fault_of named (map_by over root) ≡ []
  unfolding map_by
  tree_opens = map-opens named root all within all-few (run-map (BuiltAt 0) d (Fine named d) (λ p l t. t.0) 0 (8 ^ d) all root-run)

  -- each leaf is that of the cube at its own place, and all cubes above it are gray
  at_its_place : (i : ℕ) → i < length all → BuiltAt 0 (place_at d i all) (get_or all i nowhere)
  at_its_place i h =
      let z : 0 + place_at d i all ≡ place_at d i all = omega arith in
      rw z at (run_at (BuiltAt 0) d 0 (8 ^ d) i all root-run h)

  pub tree-leaf : (i : ℕ) → i < length all → get_or all i nowhere ≡ leaf_of over (cube_at root (place_at d i all) (get_or all i nowhere).level)
  tree-leaf i h = (at_its_place i h).1

  pub tree-above : (i : ℕ) → i < length all → (j : ℕ) → j < (get_or all i nowhere).level → is_gray over (cube_around root (place_at d i all) j) ≡ true
  tree-above i h j = (at_its_place i h).2 j (omega arith)

-- ---- the map built from a sheet
module _ (rs : List Record) (root : Root) (within : in_limits root ≡ true) where
  pub built-opens : fault_of (has_face rs) (built_map rs root) ≡ []
  built-opens = tree_opens (has_face rs) (solid_state rs) (solid-good rs) root within

  pub built-root : root_of (built_map rs root) ≡ root
  built-root = tree-root (solid_state rs) root within

-- The leaves of a refined map run from the root's first place to its last: those that stand, at places of the new depth, and those that are built for the gray
-- ones. So a refined map opens, and refining it again is refining the old map at once.
use mathlib.Core.Path.{◌≡◌, refl, sym, ap, ap₂, ◌∙◌}
use mathlib.Core.Bool.{Bool, true, false}
use mathlib.Core.List.{List, [], ◌∷◌, ◌++◌, append-nil}
use Prim.Native.Nat.{ℕ, zero, suc, ◌+◌, ◌-◌, ◌*◌, ◌/◌, ◌%◌, ◌^◌, ◌≤◌, ◌<◌}
use native.Mathlib.Nat.{zero-mul, mul-mod_left, mul-le-mul_right, div-add-mod'}
use native.Mathlib.Omega.{arith}
use borrow.Author.Tests.{eqb-true, eqb-false, eq-eqb, ne_eqb, le-leb, leb-true, leb-false, ltb-true, ltb-false}
use lib.Dec.{eqb, leb, ltb}
use lib.Pow.{pow-add}
use lib.ListN.{length, get_or}
use Rattle.integers.proofs.Order.{by-test}
use Rattle.cube.specs.declared.Root.{Root}
use Rattle.cube.specs.declared.Cube.{Cube}
use Rattle.cube.specs.Limits.{in_limits, at_depth}
use Rattle.cube.specs.Cubes.{cube_at}
use Rattle.cube.proofs.Limits.{limits-sizes}
use Rattle.cube.proofs.Corners.{times_eight}
use Rattle.cube.proofs.Cubes.{child-cube, deeper-cube}
use Rattle.zonemap.specs.declared.Leaf.{Leaf}
use Rattle.zonemap.specs.Opening.{root_of, level_good, face_good, place_good, leaf_good, size_of, leaves_of, fault_of, leaf_at}
use Rattle.zonemap.specs.Leaves.{place_at, nowhere, nth_leaf, nth_place, nth_cube}
use Rattle.zonemap.proofs.Runs.{Run, Fine, run-append, run-map, run-between, at-run, run_at, level-told, leaf-parts, good-level, good-place, opens-run}
use Rattle.zonemap.proofs.Finding.{opens-parts, holds-one, leaf-holds}
use Rattle.zonemap.proofs.Meeting.{leaf-fine, all_end}
use Rattle.zonemap.proofs.Trip.{leaves-back, root-back, map-opens}
use Rattle.colour.specs.declared.State.{State}
use Rattle.tree.specs.Solid.{is_gray, leaf_by, leaf_of, leaves_below}
use Rattle.tree.proofs.Visits.{upto-same}
use Rattle.tree.proofs.Cubes.{kid_leaves, kid-leaves, leaves-split, leaves-end, leaves-flat}
use Rattle.replacing.specs.Replace.{replaced, refined_leaves, refined_map}
use Rattle.replacing.proofs.Places.{size-some, few-before}
use Rattle.replacing.proofs.Grays.{refined-grown}
use Rattle.roundtrip.proofs.Built.{BuiltAt, leaves_run}
use Rattle.roundtrip.proofs.Folding.{folded, at-folded, folded-append, folded-upto}

-- what a leaf at a place is replaced by at depth d
abbrev pub rep : (Cube → State) → ℕ → Root → ℕ → Leaf → List Leaf
rep over d r p l = replaced over (d - l.level) (cube_at r p l.level) l

module _ (over : Cube → State) where
  gray-leaf : (left : ℕ) (q : Cube) (l : Leaf) → l.class ≡ 4 → replaced over left q l ≡ leaves_below over left q
  unfolding replaced
  gray-leaf left q l e = rw (eq-eqb l.class 4 e)

  other-leaf : (left : ℕ) (q : Cube) (l : Leaf) → (l.class ≡ 4 → ⊥) → replaced over left q l ≡ l ∷ []
  unfolding replaced
  other-leaf left q l n = rw (ne_eqb l.class 4 n)

  -- all leaves, as a fold
  pub refined-folded : (d : ℕ) (map : List ℕ) → refined_leaves over d map ≡ folded (rep over d (root_of map)) (root_of map).d 0 (leaves_of map)
  refined-folded d map =
      refined-grown over d map
      ∙ upto-same _ _ (length (leaves_of map)) (λ i h. let z : place_at (root_of map).d i (leaves_of map) ≡ 0 + place_at (root_of map).d i (leaves_of map) = omega arith in ap (λ (n : ℕ). rep over d (root_of map) n (get_or (leaves_of map) i nowhere)) z)
      ∙ at-folded (rep over d (root_of map)) (root_of map).d 0 (leaves_of map)

-- ---- a root, and the same root e levels deeper
module _ (named : ℕ → Bool) (over : Cube → State) (good : (level : ℕ) (q : Cube) → face_good named (leaf_by level (over q)) ≡ true)
    (r : Root) (e : ℕ) (within : in_limits (at_depth (r.d + e) r) ≡ true) where
  abbrev d : ℕ
  d = r.d

  abbrev deep : ℕ
  deep = r.d + e

  abbrev r' : Root
  r' = at_depth deep r

  same-cube : (p level : ℕ) → cube_at r p level ≡ cube_at r' (p * 8 ^ e) level
  same-cube p level = sym (deeper-cube r e p level (limits-sizes r' within).2)

  size-deeper : (level : ℕ) → level ≤ d → 8 ^ (deep - level) ≡ 8 ^ (d - level) * 8 ^ e
  size-deeper level h = let z : deep - level ≡ d - level + e = omega arith in ap (λ (n : ℕ). 8 ^ n) z ∙ pow-add 8 (d - level) e

  module _ (p : ℕ) (l : Leaf) (fine : Fine named d p l) where
    level : l.level ≤ d
    level = good-level named d p l fine

    end-deeper : (p + size_of d l) * 8 ^ e ≤ 8 ^ deep
    end-deeper = rw (pow-add 8 d e) (mul-le-mul_right (8 ^ e) (good-place named d p l fine).1)

    -- a leaf that stands is good at its place of the new depth
    stands-place : place_good deep (p * 8 ^ e) l ≡ true
    unfolding place_good
    stands-place =
        let s = size-deeper l.level level in
        let t = p / size_of d l in
        let w : t * size_of d l ≡ p = omega (arith, div-add-mod' p (size_of d l), (good-place named d p l fine).0) in
        let v : t * (size_of d l * 8 ^ e) ≡ p * 8 ^ e = omega (arith, ap (λ (n : ℕ). n * 8 ^ e) w) in
        rw (s, ← v, eq-eqb (t * (size_of d l * 8 ^ e) % (size_of d l * 8 ^ e)) 0 (mul-mod_left t (size_of d l * 8 ^ e)))
        (le-leb (t * (size_of d l * 8 ^ e) + size_of d l * 8 ^ e) (8 ^ deep) (omega (arith, v, end-deeper)))

    stands_good : (l.class ≡ 4 → ⊥) → leaf_good named deep (p * 8 ^ e) l ≡ true
    unfolding leaf_good level_good
    stands_good other =
        let t = leaf-parts named d p l fine in
        let u = level-told d l t.0 in
        rw (le-leb l.level deep (omega arith), le-leb l.class 4 u.1, ne_eqb l.class 4 other, t.1, stands-place)

  -- ---- the new leaves, at their places
  module _ (From Each : ℕ → Leaf → Type 0) (fine : (p : ℕ) (l : Leaf) → From p l → Fine named d p l)
      (stand : (p : ℕ) (l : Leaf) → From p l → (l.class ≡ 4 → ⊥) → leaf_good named deep (p * 8 ^ e) l ≡ true → Each (p * 8 ^ e) l)
      (build : (g : ℕ) (gray : Leaf) → From g gray → gray.class ≡ 4 → (p : ℕ) (l : Leaf) → BuiltAt named over good r' within d p l → g * 8 ^ e ≤ p → p + size_of deep l ≤ g * 8 ^ e + 8 ^ e → Each p l) where
    piece-run : (p : ℕ) (l : Leaf) → From p l → Run Each deep (p * 8 ^ e) (rep over deep r p l) ((p + size_of d l) * 8 ^ e)
    unfolding Run
    piece-run p l from =
        let f = fine p l from in
        by-test (eqb l.class 4)
        (λ t.
        let gray = eqb-true l.class 4 t in
        let last : l.level ≡ d = (level-told d l (leaf-parts named d p l f).0).2 gray in
        let z : deep - l.level ≡ e = omega arith in
        let one : size_of d l ≡ 1 = let y : d - l.level ≡ 0 = omega arith in ap (λ (n : ℕ). 8 ^ n) y in
        let end : (p + size_of d l) * 8 ^ e ≡ p * 8 ^ e + 8 ^ e = ap (λ (n : ℕ). (p + n) * 8 ^ e) one ∙ omega arith in
        let is : rep over deep r p l ≡ leaves_below over e (cube_at r' (p * 8 ^ e) d) = gray-leaf over _ _ l gray ∙ ap₂ (leaves_below over) z (ap (cube_at r p) last ∙ same-cube p d) in
        rw (is, end)
        (run-map (λ q x. BuiltAt named over good r' within d q x × (p * 8 ^ e ≤ q) × (q + size_of deep x ≤ p * 8 ^ e + 8 ^ e)) deep Each (λ q x b. build p l from gray q x b.0 b.1 b.2) (p * 8 ^ e) (p * 8 ^ e + 8 ^ e) (leaves_below over e (cube_at r' (p * 8 ^ e) d))
        (run-between (BuiltAt named over good r' within d) deep (p * 8 ^ e) (p * 8 ^ e + 8 ^ e) (leaves_below over e (cube_at r' (p * 8 ^ e) d))
        (leaves_run named over good r' within d e d p refl (omega (arith, end, end-deeper p l f)) (λ j from' below. absurd (omega arith))))))
        (λ t.
        let other = eqb-false l.class 4 t in
        rw (other-leaf over (deep - l.level) (cube_at r p l.level) l other)
        (stand p l from other (stands_good p l f other), omega (arith, size-deeper l.level (level p l f))))

    pub refined-run : (p end : ℕ) (ls : List Leaf) → Run From d p ls end → Run Each deep (p * 8 ^ e) (folded (rep over deep r) d p ls) (end * 8 ^ e)
    unfolding Run folded
    refined-run p end [] run = ap (λ (n : ℕ). n * 8 ^ e) run
    refined-run p end (l ∷ ls) run =
        run-append Each deep (p * 8 ^ e) ((p + size_of d l) * 8 ^ e) (end * 8 ^ e) (rep over deep r p l) (folded (rep over deep r) d (p + size_of d l) ls)
        (piece-run p l run.0) (refined-run (p + size_of d l) end ls run.1)

  -- ---- refining again, m levels deeper: to refine what a cube was replaced by is to replace it at that depth
  module _ (m : ℕ) where
    abbrev again : ℕ → List Leaf → List Leaf
    again = folded (rep over (deep + m) r') deep

    part : (c n k : ℕ) → (c * 8 + k) * 8 ^ n ≡ c * 8 ^ suc n + k * 8 ^ n
    part c n k = omega (arith, times_eight c n)

    -- a leaf of the new map
    leaf-again : (p level : ℕ) → again p (leaf_of over (cube_at r' p level) ∷ []) ≡ replaced over (deep + m - level) (cube_at r' p level) (leaf_of over (cube_at r' p level))
    unfolding folded leaf_of cube_at
    leaf-again p l = append-nil _

    flat-again : (p level left : ℕ) → is_gray over (cube_at r' p level) ≡ false → again p (leaf_of over (cube_at r' p level) ∷ []) ≡ leaves_below over left (cube_at r' p level)
    unfolding is_gray leaf_of
    flat-again p level left t =
        leaf-again p level
        ∙ other-leaf over (deep + m - level) (cube_at r' p level) (leaf_of over (cube_at r' p level)) (eqb-false _ _ t)
        ∙ sym (leaves-flat over left (cube_at r' p level) t)

    gray-again : (p level left : ℕ) → deep + m - level ≡ left → is_gray over (cube_at r' p level) ≡ true → again p (leaf_of over (cube_at r' p level) ∷ []) ≡ leaves_below over left (cube_at r' p level)
    unfolding is_gray leaf_of
    gray-again p level left z t =
        leaf-again p level
        ∙ gray-leaf over (deep + m - level) (cube_at r' p level) (leaf_of over (cube_at r' p level)) (eqb-true _ _ t)
        ∙ ap (λ (n : ℕ). leaves_below over n (cube_at r' p level)) z

    -- child k of a cube
    kid_is : (left n level c k : ℕ) → level + suc n ≡ deep → k < 8
        → kid_leaves over (suc left) (cube_at r' (c * 8 ^ suc n) level) k ≡ leaves_below over left (cube_at r' ((c * 8 + k) * 8 ^ n) (level + 1))
    kid_is left n level c k h l =
        let z : suc left - 1 ≡ left = omega arith in
        kid-leaves over (suc left) (cube_at r' (c * 8 ^ suc n) level) k
        ∙ ap₂ (leaves_below over) z (child-cube r' (limits-sizes r' within).2 n level c k h l ∙ ap (λ (i : ℕ). cube_at r' i (level + 1)) (sym (part c n k)))

    below_again : (n level c : ℕ) → level + n ≡ deep → c * 8 ^ n + 8 ^ n ≤ 8 ^ deep
        → again (c * 8 ^ n) (leaves_below over n (cube_at r' (c * 8 ^ n) level)) ≡ leaves_below over (n + m) (cube_at r' (c * 8 ^ n) level)
    below_again zero level c h end =
        let q : Cube = cube_at r' (c * 8 ^ 0) level in
        rw (leaves-end over 0 q refl)
        (by-test (is_gray over q) (λ t. gray-again (c * 8 ^ 0) level (0 + m) (omega arith) t) (λ t. flat-again (c * 8 ^ 0) level (0 + m) t))
    below_again (suc n) level c h end =
        let P : ℕ = c * 8 ^ suc n in
        let q : Cube = cube_at r' P level in
        let z : suc n + m ≡ suc (n + m) = omega arith in
        by-test (is_gray over q)
        (λ t.
        ap (again P) (leaves-split over (suc n) q (omega arith) t)
        ∙ folded-upto (rep over (deep + m) r') deep (BuiltAt named over good r' within (level + 1)) P (8 ^ n) 8 (kid_leaves over (suc n) q)
        (λ k l.
        rw (kid_is n n level c k h l, ← part c n k)
        (leaves_run named over good r' within (level + 1) n (level + 1) (c * 8 + k) (omega arith) (ends n c k end l) (λ j from below. absurd (omega arith))))
        ∙ upto-same _ _ 8
        (λ k l.
        ap₂ again (sym (part c n k)) (kid_is n n level c k h l)
        ∙ below_again n (level + 1) (c * 8 + k) (omega arith) (ends n c k end l)
        ∙ sym (kid_is (n + m) n level c k h l))
        ∙ sym (leaves-split over (suc (n + m)) q (omega arith) t)
        ∙ ap (λ (i : ℕ). leaves_below over i q) (sym z))
        (λ t. rw (leaves-flat over (suc n) q t) (flat-again P level (suc n + m) t))
      where
        ends : (n c k : ℕ) → c * 8 ^ suc n + 8 ^ suc n ≤ 8 ^ deep → k < 8 → (c * 8 + k) * 8 ^ n + 8 ^ n ≤ 8 ^ deep
        ends n c k end l = let b : k ≤ 7 = omega arith in omega (arith, part c n k, mul-le-mul_right (8 ^ n) b)

    -- what a leaf of the old map was replaced by
    piece-again : (p : ℕ) (l : Leaf) → Fine named d p l → again (p * 8 ^ e) (rep over deep r p l) ≡ rep over (deep + m) r p l
    unfolding folded
    piece-again p l f =
        by-test (eqb l.class 4)
        (λ t.
        let gray = eqb-true l.class 4 t in
        let last : l.level ≡ d = (level-told d l (leaf-parts named d p l f).0).2 gray in
        let z : deep - l.level ≡ e = omega arith in
        let y : deep + m - l.level ≡ e + m = omega arith in
        let there : cube_at r p l.level ≡ cube_at r' (p * 8 ^ e) d = ap (cube_at r p) last ∙ same-cube p d in
        let one : size_of d l ≡ 1 = let x : d - l.level ≡ 0 = omega arith in ap (λ (n : ℕ). 8 ^ n) x in
        let end : (p + size_of d l) * 8 ^ e ≡ p * 8 ^ e + 8 ^ e = ap (λ (n : ℕ). (p + n) * 8 ^ e) one ∙ omega arith in
        ap (again (p * 8 ^ e)) (gray-leaf over _ _ l gray ∙ ap₂ (leaves_below over) z there)
        ∙ below_again e d p refl (omega (arith, end, end-deeper p l f))
        ∙ sym (gray-leaf over _ _ l gray ∙ ap₂ (leaves_below over) y there))
        (λ t.
        let other = eqb-false l.class 4 t in
        ap (again (p * 8 ^ e)) (other-leaf over (deep - l.level) (cube_at r p l.level) l other)
        ∙ append-nil _
        ∙ other-leaf over (deep + m - l.level) (cube_at r' (p * 8 ^ e) l.level) l other
        ∙ sym (other-leaf over (deep + m - l.level) (cube_at r p l.level) l other))

    pub folded-again : (p end : ℕ) (ls : List Leaf) → Run (Fine named d) d p ls end → again (p * 8 ^ e) (folded (rep over deep r) d p ls) ≡ folded (rep over (deep + m) r) d p ls
    unfolding folded Run
    folded-again p end [] run = refl
    folded-again p end (l ∷ ls) run =
        folded-append (rep over (deep + m) r') deep (λ _ _. Unit {0}) (p * 8 ^ e) ((p + size_of d l) * 8 ^ e) (rep over deep r p l) (folded (rep over deep r) d (p + size_of d l) ls)
        (piece-run (Fine named d) (λ _ _. Unit {0}) (λ p l f. f) (λ p l f other g. tt) (λ g gray f c p l b low high. tt) p l run.0)
        ∙ ap₂ (λ (x y : List Leaf). x ++ y) (piece-again p l run.0) (folded-again (p + size_of d l) end ls run.1)

-- ---- order by a common factor
at_most : (a b c : ℕ) → 1 ≤ c → a * c ≤ b * c → a ≤ b
at_most a b c some h = by-test (leb a b) (leb-true a b) (λ t. let less : b + 1 ≤ a = omega (arith, leb-false a b t) in absurd (omega (arith, mul-le-mul_right c less)))

below : (a b c : ℕ) → a * c < b * c → a < b
below a b c h = by-test (ltb a b) (ltb-true a b) (λ t. absurd (omega (arith, mul-le-mul_right c (ltb-false a b t))))

-- ---- a map that opens, refined to a depth in limits
module _ (named : ℕ → Bool) (over : Cube → State) (good : (level : ℕ) (q : Cube) → face_good named (leaf_by level (over q)) ≡ true)
    (map : List ℕ) (opens : fault_of named map ≡ []) where
  abbrev old : Root
  old = root_of map

  old-run : Run (Fine named old.d) old.d 0 (leaves_of map) (8 ^ old.d)
  old-run = opens-run named old.d 0 19 (leaves_of map) (opens-parts named map opens).1

  module _ (deeper : ℕ) (more : old.d ≤ deeper) (inside : in_limits (at_depth deeper old) ≡ true) where
    abbrev new : Root
    new = at_depth deeper old

    abbrev made : List ℕ
    made = refined_map over map new

    pub refined-root : root_of made ≡ new
    unfolding refined_map
    refined-root = root-back new (refined_leaves over deeper map) inside

    pub refined-leaves : leaves_of made ≡ refined_leaves over deeper map
    unfolding refined_map
    refined-leaves = leaves-back new (refined_leaves over deeper map)

    -- the levels between the depths
    abbrev e : ℕ
    e = deeper - old.d

    steps : old.d + e ≡ deeper
    steps = omega arith

    within' : in_limits (at_depth (old.d + e) old) ≡ true
    within' = rw steps inside

    -- the cube of a leaf that stands
    pub same_place : (p level : ℕ) → cube_at new (p * 8 ^ e) level ≡ cube_at old p level
    same_place p level = rw steps at (deeper-cube old e p level (rw steps (limits-sizes new inside).2))

    all : 8 ^ old.d * 8 ^ e ≡ 8 ^ deeper
    all = sym (pow-add 8 old.d e) ∙ ap (λ (n : ℕ). 8 ^ n) steps

    few : length (refined_leaves over deeper map) ≤ 2 ^ 30
    unfolding refined_leaves
    few = few-before map (named, opens) over deeper more (limits-sizes new inside).1 (length (leaves_of map)) (omega arith)

    -- the new leaves run over all places of the root
    module _ (From Each : ℕ → Leaf → Type 0) (from : Run From old.d 0 (leaves_of map) (8 ^ old.d)) (fine : (p : ℕ) (l : Leaf) → From p l → Fine named old.d p l)
        (stand : (p : ℕ) (l : Leaf) → From p l → (l.class ≡ 4 → ⊥) → leaf_good named deeper (p * 8 ^ e) l ≡ true → Each (p * 8 ^ e) l)
        (build : (g : ℕ) (gray : Leaf) → From g gray → gray.class ≡ 4 → (p : ℕ) (l : Leaf) → leaf_good named deeper p l ≡ true → l ≡ leaf_of over (cube_at new p l.level)
        → g * 8 ^ e ≤ p → p + size_of deeper l ≤ g * 8 ^ e + 8 ^ e → Each p l) where
      pub new-run : Run Each deeper 0 (refined_leaves over deeper map) (8 ^ deeper)
      new-run =
          let run = refined-run named over good old e within' From Each fine (λ p l f other g. stand p l f other (rw steps at g)) (λ g gray f c p l b low high. build g gray f c p l (rw steps at b.0) (rw steps at b.1) low (rw steps at high)) 0 (8 ^ old.d) (leaves_of map) from in
          rw (refined-folded over deeper map, ← all) (rw (steps, zero-mul (8 ^ e)) at run)

    -- THE ROUND TRIP: the refined map opens, with that root and those leaves
    pub refined-opens : fault_of named made ≡ []
    unfolding refined_map
    refined-opens =
        map-opens named new (refined_leaves over deeper map) inside few
        (new-run (Fine named old.d) (Fine named deeper) old-run (λ p l f. f) (λ p l f other g. g) (λ g gray f c p l good is low high. good))

    -- refining it again is refining the old map at once
    pub refined-again : (deepest : ℕ) → deeper ≤ deepest → refined_leaves over deepest made ≡ refined_leaves over deepest map
    refined-again deepest further =
        let steps' : deeper + (deepest - deeper) ≡ deepest = omega arith in
        let both = folded-again named over good old e within' (deepest - deeper) 0 (8 ^ old.d) (leaves_of map) old-run in
        refined-folded over deepest made
        ∙ ap₂ (λ (r : Root) (ls : List Leaf). folded (rep over deepest r) r.d 0 ls) refined-root (refined-leaves ∙ refined-folded over deeper map)
        ∙ (rw (steps, zero-mul (8 ^ e), steps') at both)
        ∙ sym (refined-folded over deepest map)

    -- ---- a leaf that is not gray is a leaf of the new map too, of the same cube
    module _ (i : ℕ) (among : i < length (leaves_of map)) (other : (nth_leaf map i).class ≡ 4 → ⊥) where
      -- its place at the new depth
      abbrev m : ℕ
      m = nth_place map i * 8 ^ e

      -- if a leaf of the new map holds that place, it is this one
      abbrev This : ℕ → Leaf → Type 0
      This p l = p ≤ m → m < p + size_of deeper l → (l ≡ nth_leaf map i) × (p ≡ m)

      abbrev Nth : ℕ → Leaf → Type 0
      Nth p l = Fine named old.d p l × ((k : ℕ) × (k < length (leaves_of map)) × (p ≡ nth_place map k) × (l ≡ nth_leaf map k))

      nth-run : Run Nth old.d 0 (leaves_of map) (8 ^ old.d)
      nth-run =
          at-run Nth old.d 0 (8 ^ old.d) (leaves_of map)
          (λ k h. let z : 0 + nth_place map k ≡ nth_place map k = omega arith in rw z (leaf-fine map (named, opens) k h, (k, h, refl, refl)))
          (omega (arith, all_end map (named, opens)))

      holding : (k : ℕ) → k < length (leaves_of map) → nth_place map k ≤ nth_place map i → nth_place map i < nth_place map k + size_of old.d (nth_leaf map k) → k ≡ i
      holding k h from till =
          holds-one old.d (nth_place map i) 0 k (leaves_of map) (record { among = h; from = omega arith; till = omega arith })
          ∙ sym (holds-one old.d (nth_place map i) 0 i (leaves_of map) (record { among = among; from = omega arith; till = omega (arith, size-some (old.d - (nth_leaf map i).level)) }))

      sizes : (l : Leaf) → l.level ≤ old.d → size_of deeper l ≡ size_of old.d l * 8 ^ e
      sizes l h = let z : deeper - l.level ≡ old.d - l.level + e = omega arith in ap (λ (n : ℕ). 8 ^ n) z ∙ pow-add 8 (old.d - l.level) e

      stood : (p : ℕ) (l : Leaf) → Nth p l → (l.class ≡ 4 → ⊥) → leaf_good named deeper (p * 8 ^ e) l ≡ true → This (p * 8 ^ e) l
      stood p l from _ _ low high =
          let size = sizes l (good-level named old.d p l from.0) in
          let same : from.1.0 ≡ i =
          holding from.1.0 from.1.1
          (rw from.1.2 at (at_most p (nth_place map i) (8 ^ e) (size-some e) low))
          (rw (from.1.2, from.1.3) at (below (nth_place map i) (p + size_of old.d l) (8 ^ e) (omega (arith, size)))) in
          (from.1.3 ∙ ap (nth_leaf map) same, ap (λ (n : ℕ). n * 8 ^ e) (from.1.2 ∙ ap (nth_place map) same))

      grew : (g : ℕ) (gray : Leaf) → Nth g gray → gray.class ≡ 4 → (p : ℕ) (l : Leaf) → leaf_good named deeper p l ≡ true → l ≡ leaf_of over (cube_at new p l.level)
          → g * 8 ^ e ≤ p → p + size_of deeper l ≤ g * 8 ^ e + 8 ^ e → This p l
      grew g gray from c p l _ _ first last low high =
          let level : gray.level ≡ old.d = (level-told old.d gray (leaf-parts named old.d g gray from.0).0).2 c in
          let one : size_of old.d gray ≡ 1 = let z : old.d - gray.level ≡ 0 = omega arith in ap (λ (n : ℕ). 8 ^ n) z in
          let same : from.1.0 ≡ i =
          holding from.1.0 from.1.1
          (rw from.1.2 at (at_most g (nth_place map i) (8 ^ e) (size-some e) (omega arith)))
          (rw (from.1.2, from.1.3) at (below (nth_place map i) (g + size_of old.d gray) (8 ^ e) (rw one (omega arith)))) in
          absurd (other (ap (λ (k : ℕ). (nth_leaf map k).class) (sym same) ∙ ap (λ (x : Leaf). x.class) (sym from.1.3) ∙ c))

      this-run : Run This deeper 0 (refined_leaves over deeper map) (8 ^ deeper)
      this-run = new-run Nth This nth-run (λ p l f. f.0) stood grew

      pub stands : (j : ℕ) × ((j < length (leaves_of made)) × (nth_leaf made j ≡ nth_leaf map i) × (nth_cube made j ≡ nth_cube map i))
      stands =
          let ls = refined_leaves over deeper map in
          let place = (good-place named old.d (nth_place map i) (nth_leaf map i) (leaf-fine map (named, opens) i among)).1 in
          let inner : m < 8 ^ deeper = omega (arith, all, mul-le-mul_right (8 ^ e) place, mul-le-mul_right (8 ^ e) (size-some (old.d - (nth_leaf map i).level)), size-some e) in
          let held = leaf-holds This deeper m 0 (8 ^ deeper) ls this-run (omega arith) inner in
          let j = leaf_at deeper m 0 ls in
          let is = run_at This deeper 0 (8 ^ deeper) j ls this-run held.among held.from held.till in
          let z : 0 + place_at deeper j ls ≡ place_at deeper j ls = omega arith in
          let there : place_at deeper j ls ≡ m = sym z ∙ is.1 in (
            j,
            (
              rw refined-leaves held.among,
              rw refined-leaves is.0,
              rw (refined-root, refined-leaves, there, is.0) (same_place (nth_place map i) (nth_leaf map i).level),
            ),
          )

-- The walk along a map's tree: at a leaf, from child to child, and after the last.
use mathlib.Core.Path.{◌≡◌, sym, ap, ap₂, ◌∙◌}
use mathlib.Core.Logic.{⊎_elim}
use mathlib.Core.List.{List}
use Prim.Native.Nat.{ℕ, suc, ◌+◌, ◌-◌, ◌*◌, ◌^◌, ◌≤◌, ◌<◌}
use native.Mathlib.Nat.{mul-le-mul_right, eq-or-lt_of_le}
use native.Mathlib.Omega.{arith}
use lib.ListN.{length, length-append}
use mir.Syntax.{w64}
use mir.Val.{Fits}
use Rattle.cube.specs.declared.Cube.{Cube}
use Rattle.cube.specs.Limits.{Near}
use Rattle.cube.specs.Cubes.{child_of, cube_at}
use Rattle.cube.proofs.Limits.{limits-sizes}
use Rattle.cube.proofs.Corners.{times_eight}
use Rattle.cube.proofs.Cubes.{child-cube}
use Rattle.colour.specs.declared.State.{State}
use Rattle.zonemap.specs.declared.Leaf.{Leaf}
use Rattle.zonemap.specs.Opening.{root_of, leaf_in, leaves_of}
use Rattle.zonemap.specs.Leaves.{nth_leaf, nth_place, nth_cube}
use Rattle.zonemap.proofs.Finding.{leaf-bytes, opens-sizes}
use Rattle.zonemap.proofs.Meeting.{count-is, leaves-small}
use Rattle.tree.specs.Sinks.{SinkLaws}
use Rattle.replacing.specs.Replace.{replaced, replaced_at}
use Rattle.replacing.specs.Walk.{between, Along, Passed}
use Rattle.replacing.proofs.Pieces.{piece-none, piece-one, piece-next}
use Rattle.replacing.proofs.Places.{size-some, leaf-among, level-most, place-next, not-larger}

-- the invariant of the loop: k of the children were passed, and leaf j is the next one
pub record Walked (map : List ℕ) (q : Cube) (i j k : ℕ) : Type 0 where
  pub few : k ≤ 8
  pub split : q.level < (root_of map).d
  pub later : i ≤ j
  pub among : j ≤ length (leaves_of map)
  pub place : nth_place map j ≡ nth_place map i + k * 8 ^ ((root_of map).d - q.level - 1)
  pub inner : k < 8 → q.level < (nth_leaf map j).level

-- ---- what a sink takes, in pieces
module _ {S : Type 0} (after : S → List Leaf → S) (room : S → ℕ → Type 0) (laws : SinkLaws after room) (over : Cube → State) (deep : ℕ) (map : List ℕ) where
  abbrev f : ℕ → List Leaf
  f = replaced_at over deep map

  pub took-nothing : (i : ℕ) (s : S) → s ≡ after s (between over deep map i i)
  took-nothing i s = sym (laws.nothing s) ∙ ap (after s) (sym (piece-none f i))

  module _ (i j : ℕ) (s at : S) (e : at ≡ after s (between over deep map i j)) (h : i ≤ j) where
    pub took-more : (l : ℕ) → j ≤ l → (s' : S) → s' ≡ after at (between over deep map j l) → s' ≡ after s (between over deep map i l)
    took-more l m s' t = t ∙ rw e (laws.more s (between over deep map i j) (between over deep map j l)) ∙ ap (after s) (piece-next f i j l h m)

    pub room-more : (l : ℕ) → j ≤ l → room s (length (between over deep map i l)) → room at (length (between over deep map j l))
    room-more l m has =
        rw e (laws.later s (between over deep map i j) (length (between over deep map j l))
        (rw (ap length (sym (piece-next f i j l h m)) ∙ length-append (between over deep map i j) (between over deep map j l)) at has))

  pub room-less : (i j l : ℕ) (s : S) → i ≤ j → j ≤ l → room s (length (between over deep map i l)) → room s (length (between over deep map i j))
  room-less i j l s h m has =
      laws.fewer s _ _ (omega (arith, ap length (sym (piece-next f i j l h m)), length-append (between over deep map i j) (between over deep map j l))) has

module _ (left : ℕ) (map : List ℕ) (q : Cube) (i : ℕ) (a : Along (q.level + left) map q i) (near : Near left q) where
  abbrev deep : ℕ
  deep = q.level + left

  abbrev d : ℕ
  d = (root_of map).d

  pub among-leaves : i < length (leaves_of map)
  among-leaves = leaf-among map a.opens i (omega (arith, a.begins.place, a.begins.end, size-some a.begins.below))

  -- ---- the next leaf: l is what `leaf_at` returned
  pub leaf-three : Fits w64 (3 * i)
  leaf-three = record { fits = omega (arith, among-leaves, leaves-small map a.opens) }

  pub leaf-offset : Fits w64 (19 + 3 * i)
  leaf-offset = record { fits = omega (arith, among-leaves, leaves-small map a.opens) }

  pub leaf-next : Fits w64 (i + 1)
  leaf-next = record { fits = omega (arith, among-leaves, leaves-small map a.opens) }

  pub leaf_room : 19 + 3 * i + 3 ≤ length map
  leaf_room = omega (arith, among-leaves, count-is map, (opens-sizes a.opens.0 map a.opens.1).0)

  module _ (l : Leaf) (e : l ≡ leaf_in map (19 + 3 * i)) where
    leaf-is : l ≡ nth_leaf map i
    leaf-is = e ∙ sym (leaf-bytes map i among-leaves)

    level-is : l.level ≡ (nth_leaf map i).level
    level-is = ap (λ (x : Leaf). x.level) leaf-is

    -- the cube is a leaf
    module _ (same : l.level ≡ q.level) where
      cube-is : nth_cube map i ≡ q
      cube-is = ap₂ (cube_at (root_of map)) a.begins.place (sym level-is ∙ same) ∙ sym a.begins.cube

      pub one-between : (over : Cube → State) → between over deep map i (i + 1) ≡ replaced over left q l
      one-between over =
          let z : deep - (nth_leaf map i).level ≡ left = omega (arith, level-is) in
          piece-one (replaced_at over deep map) i ∙ ap (λ (n : ℕ). replaced over n (nth_cube map i) (nth_leaf map i)) z ∙ ap₂ (replaced over left) cube-is (sym leaf-is)

      pub passed-leaf : Passed map q i (i + 1)
      passed-leaf =
          record {
            later = omega arith;
            among = omega (arith, among-leaves);
            place = place-next map a.opens i among-leaves ∙ ap (λ (n : ℕ). nth_place map i + 8 ^ (d - n)) (sym level-is ∙ same);
          }

    -- the cube is split
    pub inner-leaf : (l.level ≡ q.level → ⊥) → q.level < (nth_leaf map i).level
    inner-leaf other =
        ⊎_elim (λ (s : q.level ≡ (nth_leaf map i).level). absurd (other (level-is ∙ sym s))) (λ (s : q.level < (nth_leaf map i).level). s) (eq-or-lt_of_le a.begins.deep)

  pub walked_start : q.level < (nth_leaf map i).level → Walked map q i i 0
  walked_start inner =
      record {
        few = omega arith;
        split = omega (arith, inner, level-most map a.opens i among-leaves);
        later = omega arith;
        among = omega (arith, among-leaves);
        place = omega arith;
        inner = λ _. inner;
      }

  -- ---- from child to child
  module _ (j k : ℕ) (w : Walked map q i j k) where
    abbrev m : ℕ
    m = d - q.level - 1

    abbrev c : ℕ
    c = a.begins.number

    levels : q.level + suc m ≡ d
    levels = omega (arith, w.split)

    below-is : a.begins.below ≡ suc m
    below-is = omega (arith, w.split, a.begins.depth)

    pub left-some : 0 < left
    left-some = omega (arith, w.split, a.depth)

    size : 8 ^ suc m ≡ 8 * 8 ^ m
    size = omega arith

    -- the places of the children
    start_is : nth_place map i ≡ c * 8 ^ suc m
    start_is = a.begins.place ∙ ap (λ (n : ℕ). c * 8 ^ n) below-is

    end_is : c * 8 ^ suc m + 8 ^ suc m ≤ 8 ^ d
    end_is = rw below-is at a.begins.end

    part : (j : ℕ) → c * 8 ^ suc m + j * 8 ^ m ≡ (c * 8 + j) * 8 ^ m
    part j = omega (arith, times_eight c m)

    place_is : nth_place map j ≡ (c * 8 + k) * 8 ^ m
    place_is = w.place ∙ ap (λ (n : ℕ). n + k * 8 ^ m) start_is ∙ part k

    part-ends : (j : ℕ) → j < 8 → (c * 8 + j) * 8 ^ m + 8 ^ m ≤ 8 ^ d
    part-ends j l = let most : j ≤ 7 = omega arith in omega (arith, sym (part j), end_is, size, mul-le-mul_right (8 ^ m) most)

    module _ (l : k < 8) (child : Cube) (is : child ≡ child_of q k) where
      level-child : child.level ≡ q.level + 1
      unfolding child_of
      level-child = ap (λ (x : Cube). x.level) is

      same-depth : child.level + (left - 1) ≡ deep
      same-depth = omega (arith, level-child, left-some)

      child-is : child ≡ cube_at (root_of map) ((c * 8 + k) * 8 ^ m) child.level
      child-is =
          is ∙ ap (λ (x : Cube). child_of x k) (a.begins.cube ∙ ap (λ (n : ℕ). cube_at (root_of map) (c * 8 ^ n) q.level) below-is)
          ∙ child-cube (root_of map) (limits-sizes (root_of map) (opens-sizes a.opens.0 map a.opens.1).2).2 m q.level c k levels l
          ∙ ap₂ (cube_at (root_of map)) (part k) (sym level-child)

      pub along-child : Along (child.level + (left - 1)) map child j
      along-child =
          rw same-depth
          (record {
            opens = a.opens;
            depth = a.depth;
            begins = record {
              below = m;
              number = c * 8 + k;
              depth = omega (arith, level-child, levels);
              place = place_is;
              cube = child-is;
              end = part-ends k l;
              deep = omega (arith, level-child, w.inner l);
            };
          })

      pub same-between : (over : Cube → State) (n m : ℕ) → between over (child.level + (left - 1)) map n m ≡ between over deep map n m
      same-between over n m = ap (λ (x : ℕ). between over x map n m) same-depth

      module _ (j' : ℕ) (passed : Passed map child j j') where
        place_after_lem : nth_place map j' ≡ nth_place map i + (k + 1) * 8 ^ m
        place_after_lem =
            let z : d - child.level ≡ m = omega (arith, level-child) in
            passed.place ∙ ap (λ (n : ℕ). nth_place map j + 8 ^ n) z ∙ ap (λ (n : ℕ). n + 8 ^ m) w.place ∙ omega arith

        -- a later child has a leaf of its own
        inner-after : k + 1 < 8 → q.level < (nth_leaf map j').level
        inner-after more =
            let there : nth_place map j' ≡ (c * 8 + (k + 1)) * 8 ^ m = place_after_lem ∙ ap (λ (n : ℕ). n + (k + 1) * 8 ^ m) start_is ∙ part (k + 1) in
            let one = leaf-among map a.opens j' (omega (arith, there, part-ends (k + 1) more, size-some m)) in
            omega (arith, not-larger map a.opens j' one c (k + 1) m there (omega arith) more, level-most map a.opens j' one, levels)

        pub walked_next : Walked map q i j' (k + 1)
        walked_next =
            record {
              few = omega arith;
              split = w.split;
              later = omega (arith, w.later, passed.later);
              among = passed.among;
              place = place_after_lem;
              inner = inner-after;
            }

    -- ---- after the last
    pub walked_all : 8 ≤ k → Passed map q i j
    walked_all last =
        let e : k ≡ 8 = omega (arith, w.few) in
        let z : d - q.level ≡ suc m = omega (arith, w.split) in
        record {
          later = w.later;
          among = w.among;
          place = w.place ∙ ap (λ (n : ℕ). nth_place map i + n) (ap (λ (n : ℕ). n * 8 ^ m) e ∙ sym size ∙ ap (λ (n : ℕ). 8 ^ n) (sym z));
        }

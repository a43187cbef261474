-- What a cube and its children contribute; and if no record passes the limit over a cube, none does over a smaller one.
use mathlib.Core.Path.{◌≡◌, refl}
use mathlib.Core.Bool.{true, false, not}
use mathlib.Core.List.{List, [], ◌∷◌}
use Prim.Native.Nat.{ℕ, zero, suc, ◌-◌, ◌^◌, ◌≤◌, ◌<◌}
use native.Mathlib.Nat.{zero-lt-suc, le_trans, pow-le-pow_right}
use native.Mathlib.Omega.{arith}
use borrow.Author.Tests.{not-true, not-false, eqb-true, eqb-false, ne_eqb}
use lib.Dec.{eqb}
use lib.ListN.{length}
use Rattle.integers.proofs.Order.{by-test}
use Rattle.sheet.specs.declared.Record.{Record}
use Rattle.cube.specs.declared.Cube.{Cube}
use Rattle.cube.specs.Limits.{Near}
use Rattle.cube.specs.Cubes.{child_of}
use Rattle.zonemap.specs.declared.Leaf.{Leaf}
use Rattle.cube.proofs.Cubes.{near-fewer, child-near, child-inside}
use Rattle.colour.specs.declared.State.{State}
use Rattle.colour.specs.Entries.{first_past}
use Rattle.colour.specs.States.{class_of}
use Rattle.colour.proofs.Smaller.{none-smaller}
use Rattle.tree.specs.Visit.{upto, visit}
use Rattle.tree.specs.Solid.{is_gray, leaf_of, leaves_below}
use Rattle.tree.specs.Walk.{Split}
use Rattle.tree.proofs.Visits.{upto-length, upto-fewer, kid, visit-end, visit-flat, visit-gray, visit-most}

module _ (over : Cube → State) where
  -- the leaves of child k
  abbrev pub kid_leaves : ℕ → Cube → ℕ → List Leaf
  kid_leaves = kid (is_gray over) (λ q. leaf_of over q ∷ [])

  module _ (left : ℕ) (q : Cube) where
    pub kid-leaves : (k : ℕ) → kid_leaves left q k ≡ leaves_below over (left - 1) (child_of q k)
    unfolding leaves_below
    kid-leaves k = refl

    -- a cube that is split
    module _ (l : 0 < left) (g : is_gray over q ≡ true) where
      pub leaves-split : leaves_below over left q ≡ upto (kid_leaves left q) 8
      unfolding leaves_below
      leaves-split = visit-gray (is_gray over) (λ q. leaf_of over q ∷ []) left q l g

    -- a cube that is not split
    pub leaves-end : left ≡ 0 → leaves_below over left q ≡ leaf_of over q ∷ []
    unfolding leaves_below
    leaves-end e = visit-end (is_gray over) (λ q. leaf_of over q ∷ []) left q e

    pub leaves-flat : is_gray over q ≡ false → leaves_below over left q ≡ leaf_of over q ∷ []
    unfolding leaves_below
    leaves-flat e = visit-flat (is_gray over) (λ q. leaf_of over q ∷ []) left q e

    pub leaves-most : length (leaves_below over left q) ≤ 8 ^ left
    unfolding leaves_below
    leaves-most = visit-most (is_gray over) (λ q. leaf_of over q ∷ []) (λ q. refl) left q

    pub leaves-few : left ≤ 10 → length (leaves_below over left q) ≤ 2 ^ 30
    leaves-few h = le_trans leaves-most (pow-le-pow_right (zero-lt-suc 7) h)

  -- its class says whether it is split
  module _ (q : Cube) (state : State) (is : state ≡ over q) (class : ℕ) (of : class ≡ class_of state) (left : ℕ) where
    pub split-is : (left ≡ 0 → ⊥) → class ≡ 4 → Split over left q
    unfolding is_gray
    split-is deep h = record { deep = omega arith; gray = rw (← is, ← of, h) }

    pub split-else : (left ≡ 0 → ⊥) → not (eqb class 4) ≡ false → Split over left q
    split-else deep h = split-is deep (eqb-true class 4 (not-false _ h))

    pub flat-is : (class ≡ 4 → ⊥) → leaves_below over left q ≡ leaf_of over q ∷ []
    unfolding is_gray
    flat-is h = leaves-flat left q (rw (← is, ← of) (ne_eqb class 4 h))

    pub flat-else : not (eqb class 4) ≡ true → leaves_below over left q ≡ leaf_of over q ∷ []
    flat-else h = flat-is (eqb-false class 4 (not-true _ h))

-- ---- two trees, one of which has no gray cube that is not gray in the other: it has no more leaves
leaves-some : (over : Cube → State) (left : ℕ) (q : Cube) → 1 ≤ length (leaves_below over left q)
unfolding leaves_below visit
leaves-some over zero q = omega arith
leaves-some over (suc left) q =
    let f : ℕ → List Leaf = λ k. visit (is_gray over) (λ q. leaf_of over q ∷ []) left (child_of q k) in
    by-test (is_gray over q) (λ t. rw t (omega (arith, upto-length f 7, leaves-some over left (child_of q 7)))) (λ t. rw t (omega arith))

pub leaves-fewer : (one other : Cube → State) → ((q : Cube) → is_gray one q ≡ true → is_gray other q ≡ true) → (left : ℕ) (q : Cube)
    → length (leaves_below one left q) ≤ length (leaves_below other left q)
unfolding leaves_below visit
leaves-fewer one other gray zero q = omega arith
leaves-fewer one other gray (suc left) q =
    by-test (is_gray one q) (λ t. rw (t, gray q t) (upto-fewer _ _ (λ k. leaves-fewer one other gray left (child_of q k)) 8)) (λ t. rw t (leaves-some other (suc left) q))

-- ---- the solid of a sheet
module _ (rs : List Record) where
  -- the limit
  pub child-none : (q : Cube) → first_past rs q ≡ [] → (k : ℕ) → first_past rs (child_of q k) ≡ []
  child-none q none k = none-smaller (child_of q k) q (child-inside q k) rs none

-- ---- what the recursion requires of the cube and of its children
module _ (left : ℕ) (q : Cube) (near : Near left q) where
  pub near-judged : Near 0 q
  near-judged = near-fewer left 0 q near (omega arith)

  module _ (deep : 0 < left) where
    pub near-split : Near 1 q
    near-split = near-fewer left 1 q near deep

    pub near-child : (k : ℕ) → k < 8 → (child : Cube) → child ≡ child_of q k → Near (left - 1) child
    near-child k l child is = rw is (child-near left q k near deep l)

pub none-child : (rs : List Record) (q : Cube) → first_past rs q ≡ [] → (k : ℕ) (child : Cube) → child ≡ child_of q k → first_past rs child ≡ []
none-child rs q none k child is = rw is (child-none rs q none k)

-- A walk over a tree of cubes with what is carried down: what is asked at each cube, what the sink takes, and what is left there.
use mathlib.Core.Path.{◌≡◌, refl, sym, ap, ◌∙◌}
use mathlib.Core.List.{List, [], ◌∷◌}
use Prim.Native.Nat.{ℕ, zero, suc, ◌+◌, ◌-◌, ◌≤◌, ◌<◌}
use native.Mathlib.Omega.{arith}
use lib.Dec.{eqb}
use lib.ListN.{length, length-append}
use borrow.Author.Tests.{eqb-true, eqb-false}
use Rattle.integers.proofs.Order.{by-test}
use Rattle.sheet.specs.declared.Record.{Record}
use Rattle.cube.specs.declared.Cube.{Cube}
use Rattle.cube.specs.Cubes.{child_of}
use Rattle.cube.proofs.Cubes.{child-inside}
use Rattle.colour.specs.declared.State.{State}
use Rattle.colour.specs.States.{class_of}
use Rattle.zonemap.specs.declared.Leaf.{Leaf}
use Rattle.tape.specs.declared.Tape.{Tape}
use Rattle.tape.specs.Memory.{state_in}
use Rattle.tape.specs.Lent.{Work, LentTo, Carries, Stand, Stays}
use Rattle.tape.proofs.Carrying.{carries-inner, solid-stands, stays_same, stays_on, stays-later}
use Rattle.tree.specs.Visit.{upto}
use Rattle.tree.specs.Solid.{solid_state, leaf_by, leaf_of, leaves_below}
use Rattle.tree.specs.Sinks.{SinkLaws}
use Rattle.tree.specs.Walk.{Split, Ready, Left}
use Rattle.tree.proofs.Visits.{upto-none, upto-more, upto-length, upto-most}
use Rattle.tree.proofs.Cubes.{kid_leaves, kid-leaves, leaves-split, leaves-end, flat-is, split-is, near-child, none-child}

-- ---- at the last level but one there are eight leaves
upto-ones : {A : Type 0} (f : ℕ → List A) → ((k : ℕ) → length (f k) ≡ 1) → (n : ℕ) → length (upto f n) ≡ n
unfolding upto
upto-ones f h zero = refl
upto-ones f h (suc n) = omega (arith, length-append (upto f n) (f n), upto-ones f h n, h n)

pub eight : (over : Cube → State) (left : ℕ) (q : Cube) → Split over left q → left ≡ 1 → length (leaves_below over left q) ≡ 8
eight over left q split e =
    ap length (leaves-split over left q split.deep split.gray)
    ∙ upto-ones (kid_leaves over left q) (λ k. ap length (kid-leaves over left q k ∙ leaves-end over (left - 1) (child_of q k) (omega arith))) 8

-- ---- what the sink takes
module _ {S : Type 0} (after : S → List Leaf → S) (room : S → ℕ → Type 0) (laws : SinkLaws after room) (over : Cube → State) (left : ℕ) (q : Cube) (s : S)
    (has : room s (length (leaves_below over left q))) where
  -- the leaves of the first k children
  abbrev first_kids : ℕ → List Leaf
  first_kids k = upto (kid_leaves over left q) k

  -- a cube that is one leaf
  module _ (one : leaves_below over left q ≡ leaf_of over q ∷ []) where
    pub room-one : room s 1
    room-one = rw one at has

    pub took-one : (state : State) → state ≡ over q → (leaf : Leaf) → leaf ≡ leaf_by q.level state → (s' : S) → s' ≡ after s (leaf ∷ []) → s' ≡ after s (leaves_below over left q)
    unfolding leaf_of
    took-one state is leaf of s' h = rw (h, one, of, is)

  -- a cube that is split: the first k children were taken
  module _ (split : Split over left q) where
    all : leaves_below over left q ≡ first_kids 8
    all = leaves-split over left q split.deep split.gray

    pub took-none : s ≡ after s (first_kids 0)
    took-none = sym (laws.nothing s) ∙ ap (after s) (sym (upto-none (kid_leaves over left q)))

    pub took-all : (k : ℕ) → 8 ≤ k → k ≤ 8 → (s' : S) → s' ≡ after s (first_kids k) → s' ≡ after s (leaves_below over left q)
    took-all k h l s' e = let z : k ≡ 8 = omega arith in rw all (rw z at e)

    module _ (k : ℕ) (more : k < 8) (child : Cube) (is : child ≡ child_of q k) (at : S) (e : at ≡ after s (first_kids k)) where
      kid-is : leaves_below over (left - 1) child ≡ kid_leaves over left q k
      kid-is = ap (leaves_below over (left - 1)) is ∙ sym (kid-leaves over left q k)

      pub room-child : room at (length (leaves_below over (left - 1) child))
      room-child =
          rw (e, kid-is) (laws.later s (first_kids k) (length (kid_leaves over left q k))
          (laws.fewer s _ _ (omega (arith, upto-length (kid_leaves over left q) k, upto-most (kid_leaves over left q) (k + 1) 8 (omega arith), ap length all)) has))

      pub took-child : (s' : S) → s' ≡ after at (leaves_below over (left - 1) child) → s' ≡ after s (first_kids (k + 1))
      took-child s' h =
          h
          ∙ rw (e, kid-is) (laws.more s (first_kids k) (kid_leaves over left q k))
          ∙ ap (after s) (sym (upto-more (kid_leaves over left q) k))

module _ (rs : List Record) where
  -- a walk that comes to its end leaves the tape as it is
  pub left-as-is : (t : Tape) (w₀ w : Work) → w.words ≡ w₀.words → LentTo rs w → Left rs t w₀ w
  left-as-is t w₀ w same lent = record { stays = rw same (stays_same t.from w₀.words); lent = lent }

  module _ (left : ℕ) (q : Cube) (w₀ : Work) (t : Tape) (ready : Ready rs left q w₀ t) where
    -- the same cube, after its tape was worked out: `state` is what was read from the solid's place
    module _ (colours : List State) (stand : Stand rs q w₀.words t colours) (state : State) (e : state ≡ state_in colours t.solid) (class : ℕ) (f : class ≡ class_of state) where
      pub state-is : state ≡ solid_state rs q
      unfolding solid_state
      state-is = e ∙ solid-stands rs q w₀.words t ready.carries colours stand

      pub split-here : (left ≡ 0 → ⊥) → class ≡ 4 → Split (solid_state rs) left q
      split-here deep h = split-is (solid_state rs) q state state-is class f left deep h

      pub one-leaf : ((left ≡ 0 → ⊥) → class ≡ 4 → ⊥) → leaves_below (solid_state rs) left q ≡ leaf_of (solid_state rs) q ∷ []
      one-leaf h =
          by-test (eqb left 0)
          (λ t. leaves-end (solid_state rs) left q (eqb-true left 0 t))
          (λ t. flat-is (solid_state rs) q state state-is class f left (h (eqb-false left 0 t)))

    -- a child, with the tape that is carried down, after the children before it
    module _ (w₁ : Work) (u : Tape) (carries : Carries rs q w₁.words u) (stays : Stays t.from w₀.words w₁.words) (below : u.from ≤ t.from) (w : Work) (before : Left rs u w₁ w) where
      pub ready-child : 0 < left → (k : ℕ) → k < 8 → (child : Cube) → child ≡ child_of q k → Ready rs (left - 1) child w u
      ready-child deep k few child is =
          record {
            near = near-child left q ready.near deep k few child is;
            none = none-child rs q ready.none k child is;
            carries = rw is (carries-inner rs q w₁.words u carries (child_of q k) (child-inside q k) w.words before.stays);
            lent = before.lent;
          }

      -- what all children leave, whose tape lies before that of the cube
      pub left_below : Left rs t w₀ w
      left_below = record { stays = stays_on t.from w₀.words w₁.words w.words stays (stays-later u.from t.from below w₁.words w.words before.stays); lent = before.lent }

  -- one walk after another
  pub left-next : (t : Tape) (w₀ w₁ w₂ : Work) → Left rs t w₀ w₁ → Left rs t w₁ w₂ → Left rs t w₀ w₂
  left-next t w₀ w₁ w₂ a b = record { stays = stays_on t.from w₀.words w₁.words w₂.words a.stays b.stays; lent = b.lent }

-- Laws that the documents name and that no proof of the code needs today: steps of functions, each from what the calls before it returned.
use Rattle.std.specs.Prelude.{Err, Ok, Some, None, Option, Result}
use mathlib.Core.Path.{◌≡◌, refl, sym, ap, ◌∙◌}
use mathlib.Core.Bool.{Bool, true, false, cond, not, ◌&&◌}
use mathlib.Core.List.{List, []}
use Prim.Native.Nat.{ℕ, suc, ◌+◌, ◌*◌, ◌%◌, ◌^◌, ◌≤◌, ◌<◌}
use native.Mathlib.Omega.{arith}
use borrow.Author.Tests.{leb-true, le-leb, le-ltb, eq-eqb, not-true}
use lib.Dec.{eqb, leb}
use lib.IntN.{ℤ, pos, negsuc, nat_abs}
use lib.Signed.{mag, le_z, lt_z}
use lib.ListN.{length, get_or}
use lib.Seq.{sets}
use mir.Syntax.{w32, w64}
use mir.Val.{Fits, SFits, to_z, of_z}
use mir.Facts.{to_z-of_z}
use Rattle.integers.proofs.Machine.{wide_sum, wide_back, wide-sum-back}
use Rattle.replies.specs.Table.{Reply}
use Rattle.replies.specs.declared.End.{End}
use Rattle.replies.specs.declared.Refusal.TheVariants.{Limits}
use Rattle.interval.specs.declared.Interval.{Interval}
use Rattle.interval.specs.Rules.{from, square}
use Rattle.interval.specs.Limit.{bounded_of}
use Rattle.interval.specs.Inner.{by_sign}
use Rattle.sheet.specs.declared.Comparison.{Comparison}
use Rattle.sheet.specs.declared.Comparison.TheVariants.{AtMost, LessThan}
use Rattle.sheet.specs.declared.Record.{Record}
use Rattle.sheet.specs.declared.Record.TheVariants.{Square, Face}
use Rattle.sheet.specs.Operands.{first_of, second_of}
use Rattle.sheet.specs.Check.{check_of}
use Rattle.cube.specs.declared.Cube.{Cube}
use Rattle.cube.specs.declared.Root.{Root}
use Rattle.cube.specs.declared.Point.{Point}
use Rattle.cube.specs.Limits.{in_limits, at_depth, Near}
use Rattle.cube.specs.Points.{steps_to, place_by, place_of}
use Rattle.zonemap.specs.Map.{leaf_bytes}
use Rattle.zonemap.specs.declared.Leaf.{Leaf}
use Rattle.zonemap.specs.Opening.{root_of, leaf_in, open_of}
use Rattle.colour.specs.declared.State.{State}
use Rattle.colour.specs.declared.State.TheVariants.{Out, Single}
use Rattle.colour.specs.Bounds.{across, none, bounds_of}
use Rattle.colour.specs.States.{class_of, face_of, is_same, meets, face_state, joined_by, state_with, state_of}
use Rattle.tree.specs.Solid.{leaf_by, leaves_below}
use Rattle.tree.proofs.Cubes.{leaves-end}
use Rattle.replacing.specs.Replace.{replaced, replaced_at}
use Rattle.replacing.specs.Walk.{Along}
use Rattle.replacing.proofs.Pieces.{piece-one}
use Rattle.replacing.proofs.Stepping.{one-between}
use Rattle.building.specs.Build.{outcome, over_root_with}
use Rattle.pair.specs.Pairs.{pair_refusal}
use Rattle.refine.specs.Refine.{refine_of}
use Rattle.zone.specs.declared.ZoneReply.{ZoneReply}
use Rattle.zone.specs.Replies.{reply, by_number, zone_check_of, zone_outcome, outcome_by_number, zone_refine_of, zone_open_of}

-- ---- interval: the machine reads a number back from its bits
module _ (n : ℕ) where
  at_least : (x : ℤ) → le_z (negsuc n) x ≡ true → le_z x (pos (suc n)) ≡ leb (nat_abs x) (suc n)
  at_least (pos m) t = refl
  at_least (negsuc m) t = sym (le-leb (suc m) (suc n) (omega (arith, leb-true)))

  module _ (x : ℤ) (f : SFits w64 x) where
    pub limit-at-least : le_z (negsuc n) (to_z w64 (of_z w64 x)) ≡ true → le_z (to_z w64 (of_z w64 x)) (pos (suc n)) ≡ leb (nat_abs x) (suc n)
    limit-at-least t = rw (to_z-of_z f) (at_least x (rw (to_z-of_z f) at t))

pub and_second : (b d x y : Bool) → b ≡ x → b ≡ true → d ≡ y → d ≡ (x && y)
and_second b d x y e t f = rw (sym e, t) f

module _ (j : Interval) (x y z : ℤ) (fl : SFits w64 j.low) (fh : SFits w64 j.high) (t : le_z (pos 0) (to_z w64 (of_z w64 j.low)) ≡ false) where
  pub factor-across : (r : ℤ) → le_z (to_z w64 (of_z w64 j.high)) (pos 0) ≡ false → r ≡ z → r ≡ by_sign j x y z
  unfolding by_sign
  factor-across r u e = rw (rw (to_z-of_z fl) at t, rw (to_z-of_z fh) at u) e

-- ---- cube: the place of a point, by its coordinates counted in smallest cubes
pub place-told : (r : Root) (p : Point) (place x y z : ℕ) → x ≡ steps_to r r.x p.x → y ≡ steps_to r r.y p.y → z ≡ steps_to r r.z p.z → place ≡ place_by r.d x y z → place ≡ place_of r p
unfolding place_of
place-told r p place x y z ex ey ez e = rw (ex, ey, ez) at e

-- ---- zonemap: s and w are 8^n and 8^d; the size of a cube that can be at p
module _ (n s : ℕ) (e : s ≡ 8 ^ n) (p : ℕ) where
  abbrev Placed : ℕ → Option ℕ
  Placed d = cond (eqb (p % 8 ^ n) 0 && leb (p + 8 ^ n) (8 ^ d)) (Some (8 ^ n)) None

  module _ (t : p % s ≡ 0) (d w : ℕ) (k : w ≡ 8 ^ d) where
    pub place-yes : p + s ≤ w → Some s ≡ Placed d
    place-yes h = ap Some e ∙ rw (eq-eqb (p % 8 ^ n) 0 (rw e at t), le-leb (p + 8 ^ n) (8 ^ d) (omega arith))

-- ---- colour: coordinates and a face's tests
pub across-is : (low : ℤ) (side : ℕ) → SFits w32 low → Fits w32 side →
    from (to_z w64 (of_z w64 (to_z w32 (of_z w32 low)))) (to_z w64 (of_z w64 (wide_sum low side))) ≡ across low side
unfolding across
across-is low side f g = rw (wide-sum-back low f side g, wide_back low f)

module _ (by : Comparison) (v : ℤ) (f : mag v < 2 ^ 63) where
  pub at-most-test : by ≡ AtMost → le_z (to_z w64 (of_z w64 v)) (pos 0) ≡ meets by v
  unfolding meets
  at-most-test e = rw (e, to_z-of_z {w = w64} (record { sfits = f }))

  pub less-than-test : by ≡ LessThan → lt_z (to_z w64 (of_z w64 v)) (pos 0) ≡ meets by v
  unfolding meets
  less-than-test e = rw (e, to_z-of_z {w = w64} (record { sfits = f }))

-- what `meets` returned of an end of its bounds is so of that end
of_end : (by : Comparison) (end : ℤ) (b told : Bool) → b ≡ meets by (to_z w64 (of_z w64 end)) → mag end < 2 ^ 63 → b ≡ told → meets by end ≡ told
of_end by end b told e f t = rw (to_z-of_z {w = w64} (record { sfits = f })) at (sym e ∙ t)

module _ (by : Comparison) (i : Interval) (f : ℕ) (high : Bool) (h : high ≡ meets by (to_z w64 (of_z w64 i.high))) (hh : mag i.high < 2 ^ 63)
    (t : high ≡ false) (low : Bool) (l : low ≡ meets by (to_z w64 (of_z w64 i.low))) (hl : mag i.low < 2 ^ 63) where
  pub face-single : low ≡ true → Single f ≡ face_state by i f
  unfolding face_state
  face-single u = rw (of_end by i.high high false h hh t, of_end by i.low low true l hl u)

  pub face-out : low ≡ false → Out ≡ face_state by i f
  unfolding face_state
  face-out u = rw (of_end by i.high high false h hh t, of_end by i.low low false l hl u)

pub by-faces : (s t : State) (c d : ℕ) → c ≡ class_of s → d ≡ class_of t → c ≡ d → (f g : ℕ) → f ≡ face_of s → g ≡ face_of t → eqb f g ≡ is_same s t
unfolding is_same
by-faces s t c d ec ed e f g ef eg = rw (← ec, ← ed, ← ef, ← eg, eq-eqb c d e)

-- the bounds and the state of a record, from those that are held
module _ (bounds : List Interval) (q : Cube) (r : Record) where
  pub square-arm : (a : ℕ) (i : Interval) (b : Result Interval End) → r ≡ Square a → i ≡ get_or bounds a none → b ≡ bounded_of (square i)
      → b ≡ bounded_of (bounds_of q (get_or bounds (first_of r) none) (get_or bounds (second_of r) none) r)
  unfolding bounds_of
  square-arm a i b e f h = rw (e, ← f) h

module _ (bounds : List Interval) (states : List State) (n : ℕ) (r : Record) where
  pub face-arm : (by : Comparison) (a : ℕ) (i : Interval) (k : State) → r ≡ Face by a → i ≡ get_or bounds a none → k ≡ face_state by i n
      → k ≡ state_of n (get_or bounds (first_of r) none) (get_or states (first_of r) Out) (get_or states (second_of r) Out) r
  unfolding state_with
  face-arm by a i k e f h = rw (e, ← f) h

-- both and either join two states: the cases in the order of the tests, of which a to d are what they gave
module _ (otherwise : State → State → State → State) (decides : State → Bool) (decided : State) (leaves : State → Bool) (s t : State) where
  abbrev joined : State
  joined = joined_by otherwise decides decided leaves s t

  module _ (a : Bool) (ea : a ≡ decides s) where
    pub first-decides : a ≡ true → decided ≡ joined
    unfolding joined_by
    first-decides h = rw (sym ea ∙ h)

    module _ (na : a ≡ false) (b : Bool) (eb : b ≡ decides t) where
      pub second-decides : b ≡ true → decided ≡ joined
      unfolding joined_by
      second-decides h = rw (sym ea ∙ na, sym eb ∙ h)

      module _ (nb : b ≡ false) (c : Bool) (ec : c ≡ leaves s) where
        pub first-leaves : c ≡ true → t ≡ joined
        unfolding joined_by
        first-leaves h = rw (sym ea ∙ na, sym eb ∙ nb, sym ec ∙ h)

        module _ (nc : c ≡ false) (d : Bool) (ed : d ≡ leaves t) where
          pub second-leaves : d ≡ true → s ≡ joined
          unfolding joined_by
          second-leaves h = rw (sym ea ∙ na, sym eb ∙ nb, sym ec ∙ nc, sym ed ∙ h)

          pub neither : d ≡ false → (r : State) → r ≡ otherwise decided s t → r ≡ joined
          unfolding joined_by
          neither nd r e = rw (sym ea ∙ na, sym eb ∙ nb, sym ec ∙ nc, sym ed ∙ nd) e

-- ---- tree: the leaf of a state, and the leaf of a cube at the last level
pub leaf-by : (level : ℕ) (state : State) (class face : ℕ) → class ≡ class_of state → face ≡ face_of state → (d : List ℕ) (at : ℕ) (out : List ℕ)
    → out ≡ sets d at (leaf_bytes (record { level = level; class = class; face = face })) → out ≡ sets d at (leaf_bytes (leaf_by level state))
leaf-by level state class face c f d at out h = rw (c, f) at h

pub one_end : (over : Cube → State) (left : ℕ) (q : Cube) → left ≡ 0 → 1 ≡ length (leaves_below over left q)
one_end over left q h = sym (ap length (leaves-end over left q h))

-- ---- replacing: the leaf that the walk of a cube begins with, where it is the cube itself
pub here : (left : ℕ) (map : List ℕ) (q : Cube) (i : ℕ) → Along (q.level + left) map q i → Near left q → (l : Leaf) → l ≡ leaf_in map (19 + 3 * i) → l.level ≡ q.level
    → (over : Cube → State) → replaced over left q l ≡ replaced_at over (q.level + left) map i
here left map q i a near l e same over = sym (one-between left map q i a near l e same over) ∙ piece-one (replaced_at over (q.level + left) map) i

-- ---- refine: reply 6 for an illegal depth; b says whether the root is in limits at the new depth
pub illegal : (s map : List ℕ) → pair_refusal s map ≡ [] → (d : ℕ) (out : List ℕ) → (root_of map).d ≤ d → (b : Bool) → b ≡ in_limits (at_depth d (root_of map)) → not b ≡ true
    → outcome (Err Limits) out ≡ refine_of s map d out
unfolding refine_of over_root_with
illegal s map none d out more b w t = rw (none, le-ltb d (root_of map).d more, sym w ∙ not-true b t)

-- ---- zone: the reply by number, from what the inner call returned
module _ (r : Reply) where
  pub done-by-number : (n : ℕ) → r ≡ Ok n → reply 0 n ≡ by_number r
  done-by-number n h = rw h

  module _ (told : ZoneReply) (t : told ≡ by_number r) where
    pub checks : (s : List ℕ) → r ≡ check_of s → told ≡ zone_check_of s
    unfolding zone_check_of
    checks s e = t ∙ ap by_number e

    pub opens : (map : List ℕ) → r ≡ open_of map → told ≡ zone_open_of map
    unfolding zone_open_of
    opens map e = t ∙ ap by_number e

    pub refines : (s map : List ℕ) (d : ℕ) (out after : List ℕ) → outcome r after ≡ refine_of s map d out → zone_outcome told after ≡ zone_refine_of s map d out
    unfolding zone_refine_of
    refines s map d out after e = rw t (ap outcome_by_number e)

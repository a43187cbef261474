-- Facts for the proofs of the functions that work a product out by the signs of its operands, in the form that the proofs need: the machine reads a number
-- back from its bits.
use Rattle.std.specs.Prelude.{Result}
use mathlib.Core.Path.{◌≡◌, sym, ap, ap₂, ◌∙◌}
use mathlib.Core.Bool.{Bool, true, false, cond, and-eq-true_iff, true≢false}
use Prim.Native.Nat.{◌≤◌, ◌^◌}
use native.Mathlib.Omega.{arith}
use lib.IntN.{ℤ, pos, nat_abs, ◌*ℤ◌}
use lib.Signed.{le_z, lt_z, ◌≤ℤ◌}
use mir.Syntax.{w64}
use mir.Val.{to_z, of_z}
use Rattle.integers.specs.Least.{lesser_of, greater_of}
use Rattle.integers.proofs.Naturals.{ints, cond_ind}
use Rattle.integers.proofs.Order.{≤_trans, ≤-both, by-test, T_true, le_z-true, le_z-false, le_z-above, lt_z-true}
use Rattle.integers.proofs.Least.{lesser-kept, greater-kept}
use Rattle.interval.specs.Rules.{from, product}
use Rattle.interval.specs.Limit.{SmallEnds, bounded_of}
use Rattle.interval.specs.Inner.{OrderedEnds, is_across, both_across, clamp_of, clamped, ordered_of, by_sign, least_factor, greatest_factor}
use Rattle.interval.specs.declared.Interval.{Interval}
use Rattle.interval.proofs.Limit.{limit-back, clamp-keeps, bounded-clamped}
use Rattle.interval.proofs.Signs.{product-commutes, product-swapped, above-above, above-below, above-across, below-above, below-below, below-across, across-above, across-below, across-across}
use Rattle.replies.specs.declared.End.{End}

-- ---- two_corners: the products that the two functions choose are the least and the greatest
-- case split: nowhere negative, nowhere positive, or across zero, as the code tests it
by-class : {A : Type 0} (i : Interval) → (le_z (pos 0) i.low ≡ true → A) → (le_z (pos 0) i.low ≡ false → le_z i.high (pos 0) ≡ true → A)
    → (le_z (pos 0) i.low ≡ false → le_z i.high (pos 0) ≡ false → A) → A
by-class i above below across = by-test (le_z (pos 0) i.low) above (λ s. by-test (le_z i.high (pos 0)) (below s) (across s))

-- an interval that is tested as nowhere positive, but is nowhere negative either, has equal ends
equal-ends : (a b : ℤ) → a ≤ℤ b → pos 0 ≤ℤ a → cond (le_z b (pos 0)) a b ≡ b
equal-ends a b o z = by-test (le_z b (pos 0)) (λ t. rw t (≤-both a b o (≤_trans _ _ _ (le_z-true b (pos 0) t) z))) (λ t. rw t)

across_test : (i : Interval) → le_z (pos 0) i.low ≡ false → le_z i.high (pos 0) ≡ false → is_across i ≡ true
unfolding is_across
across_test i s t = rw (T_true (lt_z i.low (pos 0)) (le_z-above (pos 0) i.low s).lt, T_true (lt_z (pos 0) i.high) (le_z-above i.high (pos 0) t).lt)

module _ (i j : Interval) (oi : i.low ≤ℤ i.high) (oj : j.low ≤ℤ j.high) where
  two-corners : both_across i j ≡ false → product i j ≡ from (least_factor i j *ℤ least_factor j i) (greatest_factor i j *ℤ greatest_factor j i)
  unfolding both_across least_factor greatest_factor by_sign
  two-corners n =
      by-class i
      (λ s.
      let z = le_z-true (pos 0) i.low s in
      by-class j (λ t. rw (s, t) (above-above i j oi oj z (le_z-true (pos 0) j.low t)))
      (λ t u. rw (s, t, u) (above-below i j oi oj z (le_z-true j.high (pos 0) u)))
      (λ t u. rw (s, t, u, equal-ends i.low i.high oi z) (above-across i j oi oj z (le_z-false (pos 0) j.low t) (le_z-false j.high (pos 0) u))))
      (λ s v.
      let z = le_z-true i.high (pos 0) v in
      by-class j (λ t. rw (s, v, t) (below-above i j oi oj z (le_z-true (pos 0) j.low t)))
      (λ t u. rw (s, v, t, u) (below-below i j oi oj z (le_z-true j.high (pos 0) u)))
      (λ t u. rw (s, v, t, u) (below-across i j oi oj z (le_z-false (pos 0) j.low t) (le_z-false j.high (pos 0) u))))
      (λ s v.
      let y = le_z-false (pos 0) i.low s in
      let z = le_z-false i.high (pos 0) v in
      by-class j (λ t. let w = le_z-true (pos 0) j.low t in rw (s, v, t, equal-ends j.low j.high oj w) (across-above i j oi oj y z w))
      (λ t u. rw (s, v, t, u) (across-below i j oi oj y z (le_z-true j.high (pos 0) u)))
      (λ t u. absurd (true≢false (sym (rw (across_test i s v, across_test j t u)) ∙ n))))

-- a factor is an end, so it is within the limit
sign-ind : (P : ℤ → Type 0) (j : Interval) (x y z : ℤ) → P x → P y → P z → P (by_sign j x y z)
unfolding by_sign
sign-ind P j x y z hx hy hz =
    cond_ind (le_z (pos 0) j.low) x (cond (le_z j.high (pos 0)) y z) P (λ _. hx) (λ _. cond_ind (le_z j.high (pos 0)) y z P (λ _. hy) (λ _. hz))

module _ (r : ℤ) (i j : Interval) (h : OrderedEnds i) where
  abbrev Small : ℤ → Type 0
  Small z = nat_abs z ≤ 2 ^ 60

  -- one of the two ends, whichever a test chooses
  either_end : (t : Bool) (x y : ℤ) → Small x → Small y → Small (cond t x y)
  either_end t x y hx hy = cond_ind t x y Small (λ _. hx) (λ _. hy)

  pub least-small : r ≡ least_factor i j → nat_abs r ≤ 2 ^ 60
  unfolding least_factor
  least-small e =
      let t = le_z i.high (pos 0) in
      let low = h.small.low in
      let high = h.small.high in
      rw e (sign-ind Small j i.low i.high (cond t i.low i.high) low high (either_end t i.low i.high low high))

  pub greatest-small : r ≡ greatest_factor i j → nat_abs r ≤ 2 ^ 60
  unfolding greatest_factor
  greatest-small e =
      let t = le_z (pos 0) i.low in
      let low = h.small.low in
      let high = h.small.high in
      rw e (sign-ind Small j i.high i.low (cond t i.high i.low) high low (either_end t i.high i.low high low))

pub read_small : (r : ℤ) → nat_abs r ≤ 2 ^ 60 → nat_abs (to_z w64 (of_z w64 r)) ≤ 2 ^ 60
read_small r h = rw (limit-back r h) h

-- ---- what the functions return: l and h are the ends
module _ (i j : Interval) (l h : ℤ) (ei : OrderedEnds i) (ej : OrderedEnds j) where
  pub two-told : (p q r s : ℤ) → both_across i j ≡ false → p ≡ least_factor i j → q ≡ least_factor j i → r ≡ greatest_factor i j → s ≡ greatest_factor j i
      → l ≡ clamp_of (p *ℤ q) → h ≡ clamp_of (r *ℤ s) → from l h ≡ clamped (product i j)
  unfolding clamped
  two-told p q r s n ep eq er es el eh =
      ap₂ from (el ∙ ap clamp_of (ap₂ ◌*ℤ◌ ep eq)) (eh ∙ ap clamp_of (ap₂ ◌*ℤ◌ er es)) ∙ sym (ap clamped (two-corners i j ei.ordered ej.ordered n))

  pub four-told : both_across i j ≡ true → l ≡ lesser_of (clamp_of (i.low *ℤ j.high)) (clamp_of (i.high *ℤ j.low))
      → h ≡ greater_of (clamp_of (i.low *ℤ j.low)) (clamp_of (i.high *ℤ j.high)) → from l h ≡ clamped (product i j)
  unfolding both_across is_across clamped
  four-told t el eh =
      let s = (and-eq-true_iff (lt_z i.low (pos 0)) (lt_z (pos 0) i.high)).0 ((and-eq-true_iff (is_across i) (is_across j)).0 t).0 in
      ap₂ from (el ∙ lesser-kept clamp_of clamp-keeps (i.low *ℤ j.high) (i.high *ℤ j.low)) (eh ∙ greater-kept clamp_of clamp-keeps (i.low *ℤ j.low) (i.high *ℤ j.high))
      ∙ sym (ap clamped (across-across i j ei.ordered ej.ordered (omega (arith, ints, lt_z-true i.low (pos 0) s.0)) (omega (arith, ints, lt_z-true (pos 0) i.high s.1))))

-- ---- product: k and l are the operands with their ends in order
module _ (i k : Interval) (h : SmallEnds i) (e : k ≡ ordered_of i) where
  pub ordered-ends : OrderedEnds k
  unfolding ordered_of
  ordered-ends =
      by-test (le_z i.low i.high) (λ t. rw (e, t) (record { small = h; ordered = le_z-true i.low i.high t }))
      (λ t. rw (e, t) (record { small = record { low = h.high; high = h.low }; ordered = le_z-false i.low i.high t }))

product-ordered : (i j : Interval) → product (ordered_of i) j ≡ product i j
unfolding ordered_of
product-ordered i j = by-test (le_z i.low i.high) (λ t. rw t) (λ t. rw t (product-swapped i j))

pub product-told : (r : Result Interval End) (i j k l c : Interval) → r ≡ bounded_of c → c ≡ clamped (product k l) → k ≡ ordered_of i → l ≡ ordered_of j → r ≡ bounded_of (product i j)
unfolding clamped
product-told r i j k l c e f ek el =
    let same : product k l ≡ product i j = ap₂ product ek el ∙ product-ordered i (ordered_of j) ∙ product-commutes i (ordered_of j) ∙ product-ordered j i ∙ product-commutes j i in
    e ∙ ap bounded_of f ∙ bounded-clamped (product k l).low (product k l).high ∙ ap bounded_of same

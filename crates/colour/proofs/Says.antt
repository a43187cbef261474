-- What a state says of something, a truth at a point or a state over a smaller cube: if both states say so of two of these, both and either of them say so of the
-- two joined. And what the two comparisons of a face have in common.
use mathlib.Core.Path.{◌≡◌, refl, sym, ap, ◌∙◌}
use mathlib.Core.Bool.{Bool, true, false, true≢false}
use mathlib.Core.Logic.{◌⊎◌, ⊎_elim}
use native.Mathlib.Omega.{arith}
use lib.IntN.{ℤ, pos}
use lib.Signed.{◌≤ℤ◌}
use Rattle.integers.proofs.Naturals.{ints}
use Rattle.integers.proofs.Order.{≤_trans, by-test, le_z-true, lt_z-true, le_test, lt_test}
use Rattle.sheet.specs.declared.Comparison.{Comparison}
use Rattle.sheet.specs.declared.Comparison.TheVariants.{AtMost, LessThan}
use Rattle.colour.specs.declared.State.{State}
use Rattle.colour.specs.declared.State.TheVariants.{Mixed}
use Rattle.colour.specs.States.{is_same, meets, complement_of, otherwise_of, joined_by}
use Rattle.colour.proofs.Otherwise.{opposite-turn, same-is, is_same_lem, otherwise_same, otherwise-opposite, otherwise-mixed}

-- ---- a face's comparison
-- what is less than a number that meets it meets it too
pub meets-below : (by : Comparison) (a b : ℤ) → a ≤ℤ b → meets by b ≡ true → meets by a ≡ true
unfolding meets
meets-below AtMost a b h t = le_test a (pos 0) (≤_trans _ _ _ h (le_z-true b (pos 0) t))
meets-below LessThan a b h t = lt_test a (pos 0) (omega (arith, ints, lt_z-true b (pos 0) t))

-- so what is greater than one that does not, does not
pub fails-above : (by : Comparison) (a b : ℤ) → b ≤ℤ a → meets by b ≡ false → meets by a ≡ false
fails-above by a b h f = by-test (meets by a) (λ t. absurd (true≢false (sym (meets-below by b a h t) ∙ f))) (λ t. t)

-- ---- what a state says
module _ {A : Type 0} (Says : State → A → Type 0) (other : A → A)
    (mixed-says : (a : A) → Says Mixed a)
    (complement-says : (s : State) (a : A) → Says s a → Says (complement_of s) (other a))
    (other-twice : (a : A) → other (other a) ≡ a)
    -- a state says one thing, unless nothing is known
    (one : (s : State) (a b : A) → Says s a → Says s b → (s ≡ Mixed) ⊎ (a ≡ b)) where
  -- the rule by which both and either join two states
  module _ (decides : State → Bool) (decided : State) (leaves : State → Bool) (join : A → A → A)
      (first-decides : (s : State) (a b : A) → decides s ≡ true → Says s a → Says decided (join a b))
      (second-decides : (t : State) (a b : A) → decides t ≡ true → Says t b → Says decided (join a b))
      (first-leaves : (s : State) (a b : A) → leaves s ≡ true → Says s a → join a b ≡ b)
      (second-leaves : (t : State) (a b : A) → leaves t ≡ true → Says t b → join a b ≡ a)
      (twice : (a : A) → join a a ≡ a)
      (opposites : (s : State) (a : A) → (s ≡ Mixed → ⊥) → Says s a → Says decided (join a (other a)))
      (s t : State) (a b : A) (h : Says s a) (k : Says t b) where
    -- two states where neither decides and neither leaves it to the other: a face mentioned twice, a face and its complement, or any two
    same-says : s ≡ t → Says s (join a b)
    same-says e =
        ⊎_elim (λ (m : s ≡ Mixed). rw m (mixed-says (join a b))) (λ (q : a ≡ b). rw (← q, twice a) h)
        (one s a b h (rw (← e) at k))

    opposite-says : is_same s t ≡ false → s ≡ complement_of t → Says decided (join a b)
    opposite-says n e =
        let known : s ≡ Mixed → ⊥ = λ m. true≢false (sym (is_same_lem s t (m ∙ sym (opposite-turn s t e ∙ ap complement_of m))) ∙ n) in
        ⊎_elim (λ (m : s ≡ Mixed). absurd (known m))
        (λ (q : other b ≡ a). rw (← other-twice b, q) (opposites s a known h))
        (one s (other b) a (rw (← e) at (complement-says t b k)) h)

    otherwise-says : Says (otherwise_of decided s t) (join a b)
    otherwise-says =
        by-test (is_same s t) (λ e. rw (sym (otherwise_same decided s t e)) (same-says (same-is s t e)))
        (λ e. by-test (is_same s (complement_of t)) (λ f. rw (sym (otherwise-opposite decided s t e _ refl f)) (opposite-says e (same-is s (complement_of t) f)))
        (λ f. rw (sym (otherwise-mixed decided s t e _ refl f)) (mixed-says (join a b))))

    pub joined_says : Says (joined_by otherwise_of decides decided leaves s t) (join a b)
    unfolding joined_by
    joined_says =
        by-test (decides s) (λ e. rw e (first-decides s a b e h))
        (λ e. by-test (decides t) (λ f. rw (e, f) (second-decides t a b f k))
        (λ f. by-test (leaves s) (λ g. rw (e, f, g, first-leaves s a b g h) k)
        (λ g. by-test (leaves t) (λ i. rw (e, f, g, i, second-leaves t a b i k) h)
        (λ i. rw (e, f, g, i) otherwise-says))))

-- How the rules of states are related: either is both turned over, and what both gives for In, for Out, for a state with itself and with its complement, and
-- for any other two states.
use mathlib.Core.Path.{◌≡◌, refl, sym, ◌∙◌}
use mathlib.Core.Bool.{false}
use Rattle.integers.proofs.Order.{by-test}
use Rattle.colour.specs.declared.State.{State}
use Rattle.colour.specs.declared.State.TheVariants.{Out, In, Single, Comp, Mixed}
use Rattle.colour.specs.States.{is_in, is_out, is_same, complement_of, otherwise_of, joined_by, both_of, either_of}
use Rattle.colour.proofs.Otherwise.{complement-twice, cond-turned, is_same_lem, not_same, otherwise_same, otherwise-opposite, otherwise-mixed, otherwise-commutes, otherwise-turned}
use Rattle.colour.proofs.Joined.{is-in, is-out, joined-commutes}

-- ---- complement
in-turned : (s : State) → is_in (complement_of s) ≡ is_out s
in-turned Out = refl
in-turned In = refl
in-turned (Single f) = refl
in-turned (Comp f) = refl
in-turned Mixed = refl

out-turned : (s : State) → is_out (complement_of s) ≡ is_in s
out-turned Out = refl
out-turned In = refl
out-turned (Single f) = refl
out-turned (Comp f) = refl
out-turned Mixed = refl

-- ---- either is both turned over
pub either-turned : (s t : State) → either_of s t ≡ complement_of (both_of (complement_of s) (complement_of t))
unfolding joined_by
either-turned s t = simp (in-turned, out-turned, cond-turned, complement-twice, otherwise-turned)

-- ---- both
-- In leaves it to the other, and Out decides
pub both-in : (s : State) → both_of In s ≡ s
unfolding joined_by
both-in s = by-test (is_out s) (λ e. rw e (sym (is-out s e))) (λ e. rw e)

pub both_out : (s : State) → both_of Out s ≡ Out
unfolding joined_by
both_out s = refl

-- a state with itself is that state
pub both-self : (s : State) → both_of s s ≡ s
unfolding joined_by
both-self Out = refl
both-self In = refl
both-self (Single f) = sym (otherwise_same Out (Single f) (Single f) (is_same_lem (Single f) (Single f) refl))
both-self (Comp f) = sym (otherwise_same Out (Comp f) (Comp f) (is_same_lem (Comp f) (Comp f) refl))
both-self Mixed = sym (otherwise_same Out Mixed Mixed (is_same_lem Mixed Mixed refl))

-- a state with its complement holds nowhere, unless nothing is known
pub both-complement : (s : State) → (s ≡ Mixed → ⊥) → both_of s (complement_of s) ≡ Out
unfolding joined_by is_same
both-complement Out n = refl
both-complement In n = refl
both-complement (Single f) n = sym (otherwise-opposite Out (Single f) (Comp f) refl (Single f) refl (is_same_lem (Single f) (Single f) refl))
both-complement (Comp f) n = sym (otherwise-opposite Out (Comp f) (Single f) refl (Comp f) refl (is_same_lem (Comp f) (Comp f) refl))
both-complement Mixed n = absurd (n refl)

-- any two others give Mixed
not_in : (s : State) → (s ≡ In → ⊥) → is_in s ≡ false
not_in s n = by-test (is_in s) (λ e. absurd (n (is-in s e))) (λ e. e)

not-out : (s : State) → (s ≡ Out → ⊥) → is_out s ≡ false
not-out s n = by-test (is_out s) (λ e. absurd (n (is-out s e))) (λ e. e)

module _ (s t : State) (si : s ≡ In → ⊥) (so : s ≡ Out → ⊥) (ti : t ≡ In → ⊥) (to : t ≡ Out → ⊥) where
  other : both_of s t ≡ otherwise_of Out s t
  unfolding joined_by
  other = rw (not-out s so, not-out t to, not_in s si, not_in t ti)

  pub both-mixed : (s ≡ t → ⊥) → (s ≡ complement_of t → ⊥) → both_of s t ≡ Mixed
  both-mixed same opposite = other ∙ sym (otherwise-mixed Out s t (not_same s t same) _ refl (not_same s (complement_of t) opposite))

-- ---- the order of the operands does not matter
pub both-commutes : (s t : State) → both_of s t ≡ both_of t s
both-commutes s t = joined-commutes otherwise_of is_out Out is_in s t (λ a b. is-in s a ∙ sym (is-in t b)) (otherwise-commutes Out s t)

pub either-commutes : (s t : State) → either_of s t ≡ either_of t s
either-commutes s t = joined-commutes otherwise_of is_in In is_out s t (λ a b. is-out s a ∙ sym (is-out t b)) (otherwise-commutes In s t)

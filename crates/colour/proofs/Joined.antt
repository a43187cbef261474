-- Laws of the rule by which both and either join two states.
use mathlib.Core.Path.{◌≡◌, refl, sym}
use mathlib.Core.Bool.{Bool, true, or-true, true≢false}
use Rattle.integers.proofs.Order.{by-test}
use Rattle.colour.specs.declared.State.{State}
use Rattle.colour.specs.declared.State.TheVariants.{Out, In, Single, Comp, Mixed}
use Rattle.colour.specs.States.{is_in, is_out, joined_by}

-- ---- the two tests
pub is-in : (s : State) → is_in s ≡ true → s ≡ In
is-in Out e = absurd (true≢false (sym e))
is-in In e = refl
is-in (Single f) e = absurd (true≢false (sym e))
is-in (Comp f) e = absurd (true≢false (sym e))
is-in Mixed e = absurd (true≢false (sym e))

pub is-out : (s : State) → is_out s ≡ true → s ≡ Out
is-out Out e = refl
is-out In e = absurd (true≢false (sym e))
is-out (Single f) e = absurd (true≢false (sym e))
is-out (Comp f) e = absurd (true≢false (sym e))
is-out Mixed e = absurd (true≢false (sym e))

module _ (otherwise : State → State → State → State) (decides : State → Bool) (decided : State) (leaves : State → Bool) (s t : State) where
  abbrev joined : State
  joined = joined_by otherwise decides decided leaves s t

  -- ---- the order of the operands does not matter, if no two different states leave it to the other
  pub joined-commutes : (leaves s ≡ true → leaves t ≡ true → s ≡ t) → otherwise decided s t ≡ otherwise decided t s → joined ≡ joined_by otherwise decides decided leaves t s
  unfolding joined_by
  joined-commutes one commutes =
      by-test (decides s) (λ a. rw (a, or-true (decides t)))
      (λ a. by-test (decides t) (λ b. rw (a, b))
      (λ b. by-test (leaves s)
      (λ c. by-test (leaves t) (λ d. rw (a, b, c, d) (sym (one c d))) (λ d. rw (a, b, c, d)))
      (λ c. by-test (leaves t) (λ d. rw (a, b, c, d)) (λ d. rw (a, b, c, d) commutes))))

-- What a caller learns from an interval tested against the limit: which interval it is, and that its ends are within the limit, or which end is not.
use Rattle.std.specs.Prelude.{Err, Ok, Result}
use mathlib.Core.Path.{◌≡◌, sym, ap, ◌∙◌}
use mathlib.Core.Bool.{true, false}
use mathlib.Core.List.{[], ◌∷◌}
use Prim.Native.Nat.{ℕ}
use native.Mathlib.Omega.{arith}
use Rattle.integers.proofs.Order.{by-test}
use Rattle.replies.specs.declared.End.{End}
use Rattle.replies.specs.declared.End.TheVariants.{Low, High}
use Rattle.interval.specs.Limit.{SmallEnds, is_small, past_end, bounded_of}
use Rattle.interval.specs.declared.Interval.{Interval}
use Rattle.interval.proofs.Limit.{small-true, small-test}

-- ---- the three cases of the test
module _ (i : Interval) where
  pub low-past : is_small i.low ≡ false → past_end i ≡ Low ∷ []
  unfolding past_end
  low-past t = rw t

  module _ (s : is_small i.low ≡ true) where
    pub high-past : is_small i.high ≡ false → past_end i ≡ High ∷ []
    unfolding past_end
    high-past t = rw (s, t)

    pub neither-past : is_small i.high ≡ true → past_end i ≡ []
    unfolding past_end
    neither-past t = rw (s, t)

  pub by_end : {A : Type 0} → (SmallEnds i → past_end i ≡ [] → A) → ((end : End) → past_end i ≡ end ∷ [] → A) → A
  by_end within past =
      by-test (is_small i.low)
      (λ s.
      by-test (is_small i.high) (λ t. within (record { low = small-true i.low s; high = small-true i.high t }) (neither-past s t))
      (λ t. past High (high-past s t)))
      (λ s. past Low (low-past s))

  pub ends-within : SmallEnds i → past_end i ≡ []
  ends-within s = neither-past (small-test i.low s.low) (small-test i.high s.high)

  -- what is returned in each
  pub bounded-past : (end : End) → past_end i ≡ end ∷ [] → Err end ≡ bounded_of i
  unfolding bounded_of
  bounded-past end h = rw h

  pub bounded-within : past_end i ≡ [] → Ok i ≡ bounded_of i
  unfolding bounded_of
  bounded-within h = rw h

-- ---- what follows from the returned r
module _ (r : Result Interval End) (i : Interval) (e : r ≡ bounded_of i) where
  cases : {A : Type 0} → (SmallEnds i → r ≡ Ok i → A) → ((end : End) → past_end i ≡ end ∷ [] → r ≡ Err end → A) → A
  cases within past = by_end i (λ s h. within s (e ∙ sym (bounded-within i h))) (λ end h. past end h (e ∙ sym (bounded-past i end h)))

  pub past_is : (end : End) → r ≡ Err end → past_end i ≡ end ∷ []
  past_is end p = cases (λ s h. let z : ◌≡◌ {A = ℕ} 0 1 = cc in absurd (omega arith)) (λ other q h. q ∙ ap (λ (x : End). x ∷ []) (let z : other ≡ end = cc in z))

  module _ (j : Interval) (w : r ≡ Ok j) where
    pub within-is : j ≡ i
    within-is = cases (λ s h. cc) (λ end q h. let z : ◌≡◌ {A = ℕ} 0 1 = cc in absurd (omega arith))

    pub within-small : SmallEnds j
    within-small = rw within-is (cases (λ s h. s) (λ end q h. let z : ◌≡◌ {A = ℕ} 0 1 = cc in absurd (omega arith)))

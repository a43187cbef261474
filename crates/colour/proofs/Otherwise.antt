-- Laws of the states themselves: the test whether two are the same, and what two give where neither decides and neither leaves it to the other.
use mathlib.Core.Path.{◌≡◌, refl, sym, ap, ap₂, ◌∙◌}
use mathlib.Core.Bool.{Bool, true, false, cond, and-eq-true_iff, true≢false}
use Prim.Native.Nat.{ℕ}
use borrow.Author.Tests.{eqb-true, eq-eqb}
use lib.Dec.{eqb}
use Rattle.integers.proofs.Order.{by-test}
use Rattle.colour.specs.declared.State.{State}
use Rattle.colour.specs.declared.State.TheVariants.{Out, In, Single, Comp, Mixed}
use Rattle.colour.specs.States.{class_of, face_of, is_same, complement_of, otherwise_of}

-- the state that has this class and face number
unfoldable pub state_by : ℕ → ℕ → State
state_by class face = cond (eqb class 0) Out (cond (eqb class 1) In (cond (eqb class 2) (Single face) (cond (eqb class 3) (Comp face) Mixed)))

-- a class and a face are a state again
pub back-again : (k : State) → state_by (class_of k) (face_of k) ≡ k
unfolding state_by
back-again Out = refl
back-again In = refl
back-again (Single f) = refl
back-again (Comp f) = refl
back-again Mixed = refl

pub complement-twice : (s : State) → complement_of (complement_of s) ≡ s
complement-twice Out = refl
complement-twice In = refl
complement-twice (Single f) = refl
complement-twice (Comp f) = refl
complement-twice Mixed = refl

-- if one state is the complement of another, that one is its complement
pub opposite-turn : (s t : State) → s ≡ complement_of t → t ≡ complement_of s
opposite-turn s t e = sym (complement-twice t) ∙ ap complement_of (sym e)

pub cond-turned : (b : Bool) (s t : State) → complement_of (cond b s t) ≡ cond b (complement_of s) (complement_of t)
cond-turned true s t = refl
cond-turned false s t = refl

-- ---- the test says whether two states are the same
module _ (s t : State) where
  pub same-is : is_same s t ≡ true → s ≡ t
  unfolding is_same
  same-is e =
      let h = (and-eq-true_iff (eqb (class_of s) (class_of t)) (eqb (face_of s) (face_of t))).0 e in
      sym (back-again s) ∙ ap₂ state_by (eqb-true (class_of s) (class_of t) h.0) (eqb-true (face_of s) (face_of t) h.1) ∙ back-again t

  pub is_same_lem : s ≡ t → is_same s t ≡ true
  unfolding is_same
  is_same_lem e = rw e ((and-eq-true_iff _ _).1 (eq-eqb (class_of t) (class_of t) refl, eq-eqb (face_of t) (face_of t) refl))

  pub not_same : (s ≡ t → ⊥) → is_same s t ≡ false
  not_same n = by-test (is_same s t) (λ e. absurd (n (same-is e))) (λ e. e)

-- so it gives the same for two other states that are the same exactly if these are
same_test : (s t u v : State) → (s ≡ t → u ≡ v) → (u ≡ v → s ≡ t) → is_same s t ≡ is_same u v
same_test s t u v there back =
    by-test (is_same s t)
    (λ e. e ∙ sym (is_same_lem u v (there (same-is s t e))))
    (λ e. e ∙ sym (not_same u v (λ p. true≢false (sym (is_same_lem s t (back p)) ∙ e))))

same-turned : (s t : State) → is_same (complement_of s) (complement_of t) ≡ is_same s t
same-turned s t =
    same_test (complement_of s) (complement_of t) s t
    (λ e. sym (complement-twice s) ∙ ap complement_of e ∙ complement-twice t)
    (λ e. ap complement_of e)

-- ---- two states where neither decides and neither leaves it to the other
module _ (decided s t : State) where
  pub otherwise_same : is_same s t ≡ true → s ≡ otherwise_of decided s t
  unfolding otherwise_of
  otherwise_same h = rw h

  module _ (n : is_same s t ≡ false) (u : State) (eu : u ≡ complement_of t) where
    pub otherwise-opposite : is_same s u ≡ true → decided ≡ otherwise_of decided s t
    unfolding otherwise_of
    otherwise-opposite h = rw (n, sym (ap (is_same s) eu) ∙ h)

    pub otherwise-mixed : is_same s u ≡ false → Mixed ≡ otherwise_of decided s t
    unfolding otherwise_of
    otherwise-mixed h = rw (n, sym (ap (is_same s) eu) ∙ h)

-- their order does not matter
pub otherwise-commutes : (decided s t : State) → otherwise_of decided s t ≡ otherwise_of decided t s
unfolding otherwise_of
otherwise-commutes decided s t =
    let turn : is_same t s ≡ is_same s t = same_test t s s t sym sym in
    let across : is_same t (complement_of s) ≡ is_same s (complement_of t) = same_test t (complement_of s) s (complement_of t) (opposite-turn t s) (opposite-turn s t) in
    by-test (is_same s t) (λ e. rw (turn, e) (same-is s t e)) (λ e. rw (turn, across, e))

-- for either they give what they give for both, turned over
pub otherwise-turned : (s t : State) → complement_of (otherwise_of Out (complement_of s) (complement_of t)) ≡ otherwise_of In s t
unfolding otherwise_of
otherwise-turned s t = simp cond-turned (rw (same-turned s t, same-turned s (complement_of t), complement-twice s))

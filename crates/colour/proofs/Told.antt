-- What judging a cube returns: the state of the record that was asked for, or the first record past the limit.
use Rattle.std.specs.Prelude.{Err, Ok, Result}
use mathlib.Core.Path.{◌≡◌, ap, ◌∙◌}
use mathlib.Core.List.{List, [], ◌∷◌}
use Prim.Native.Nat.{ℕ}
use native.Mathlib.Omega.{arith}
use lib.ListN.{get_or}
use Rattle.replies.specs.declared.Over.{Over}
use Rattle.sheet.specs.declared.Record.{Record}
use Rattle.cube.specs.declared.Cube.{Cube}
use Rattle.colour.specs.declared.State.{State}
use Rattle.colour.specs.Entries.{blank, entries, judged_of, first_past}
use Rattle.colour.proofs.FirstPast.{past_cases}

-- the cube q was judged, and it is the cube `of`
module _ (rs : List Record) (of q : Cube) (is : q ≡ of) (which : ℕ) (j : Result State Over) (e : j ≡ judged_of rs q which) where
  abbrev asked : State
  asked = (get_or (entries of rs) which blank).state

  -- the two cases
  pub cases : {A : Type 0} → (first_past rs of ≡ [] → j ≡ Ok asked → A) → ((o : Over) → first_past rs of ≡ o ∷ [] → j ≡ Err o → A) → A
  unfolding judged_of first_past
  cases f g =
      let t = e ∙ ap (λ (k : Cube). judged_of rs k which) is in
      past_cases 0 (entries of rs) (λ h. f h (t ∙ rw h)) (λ o h. g o h (t ∙ rw h))

  pub known-none : (state : State) → j ≡ Ok state → first_past rs of ≡ []
  known-none state k = cases (λ p i. p) (λ o p i. let z : ◌≡◌ {A = ℕ} 0 1 = cc in absurd (omega arith))

  pub known_is : (state : State) → j ≡ Ok state → state ≡ asked
  known_is state k = cases (λ p i. cc) (λ o p i. let z : ◌≡◌ {A = ℕ} 0 1 = cc in absurd (omega arith))

  pub past_first : (o : Over) → j ≡ Err o → first_past rs of ≡ o ∷ []
  past_first o k = cases (λ p i. let z : ◌≡◌ {A = ℕ} 0 1 = cc in absurd (omega arith)) (λ m p i. p ∙ ap (λ (x : Over). x ∷ []) (let z : m ≡ o = cc in z))

-- The way back through `map_err`, and `?` after it: what they return says what they were called on.
use Rattle.std.specs.Prelude.{Err, Ok, Result}
use Rattle.std.specs.Result.{MatchResult, IsErrAnd}
use mathlib.Core.Path.{◌≡◌, refl, sym, ap, ◌∙◌}
use Prim.Native.Nat.{ℕ}
use native.Mathlib.Omega.{arith}

-- an error is no value
pub clash : {A E : Type 0} (w : E) (a : A) → ◌≡◌ {A = Result A E} (Err w) (Ok a) → ⊥
clash w a e = let z : ◌≡◌ {A = ℕ} 0 1 = cc in omega arith

-- r is what `map_err` returned on o; P is what it says of the error before and after
module _ {A D E : Type 0} where
  pub mapped-ok : (o : Result A D) (r : Result A E) (P : D → E → Type 0) → MatchResult o (λ x. r ≡ Ok x) (λ e. IsErrAnd r (P e)) → (a : A) → r ≡ Ok a → o ≡ Ok a
  mapped-ok (Ok x) r P h a k = let z : ◌≡◌ {A = Result A E} (Ok x) (Ok a) = sym h ∙ k in cc
  mapped-ok (Err e) (Ok x) P h a k = absurd h
  mapped-ok (Err e) (Err w) P h a k = absurd (clash w a k)

  pub mapped-err : {B : Type 0} → (o : Result A D) (r : Result A E) (P : D → E → Type 0) → MatchResult o (λ x. r ≡ Ok x) (λ e. IsErrAnd r (P e)) → (w : E) → r ≡ Err w → ((e : D) → o ≡ Err e → P e w → B) → B
  mapped-err (Ok x) r P h w k f = absurd (clash w x (sym k ∙ h))
  mapped-err (Err e) (Ok x) P h w k f = absurd h
  mapped-err (Err e) (Err v) P h w k f = let z : v ≡ w = cc in f e refl (rw z at h)

-- with a constructor
module _ {A D E : Type 0} (wrap : D → E) (o : Result A D) (r : Result A E) (h : MatchResult o (λ x. r ≡ Ok x) (λ n. IsErrAnd r (λ w. w ≡ wrap n))) where
  pub mapped-good : (a : A) → r ≡ Ok a → o ≡ Ok a
  mapped-good = mapped-ok o r (λ n w. w ≡ wrap n) h

  -- q is what `?` returns on an error
  pub mapped-bad : {B : Type 0} (w : E) → r ≡ Err w → (q : Result B E) → IsErrAnd q (λ y. y ≡ w) → (n : D) × (o ≡ Err n) × (q ≡ Err (wrap n))
  mapped-bad {B} w k q g = mapped-err o r (λ n w. w ≡ wrap n) h w k (λ n e is. (n, e, out q g ∙ ap Err is))
    where
      out : (q : Result B E) → IsErrAnd q (λ y. y ≡ w) → q ≡ Err w
      out (Ok x) g = absurd g
      out (Err y) g = ap Err g

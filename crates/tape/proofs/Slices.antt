-- Laws of slices that several loops over a tape need.
use mathlib.Core.Path.{◌≡◌, refl, sym, ap, ◌∙◌}
use mathlib.Core.List.{List, [], ◌∷◌, ◌++◌}
use Prim.Native.Nat.{ℕ, zero, suc, ◌+◌, ◌-◌, ◌≤◌, ◌<◌}
use native.Mathlib.Omega.{arith}
use lib.ListN.{length, get_or, take, drop, set}
use lib.Seq.{slice, take-add, drop_at, drop-append-le, take-suc-set, length-take-le}

-- where there is an element, what stands for none is not read
pub get_d_any : {A : Type 0} (l : List A) (i : ℕ) (d e : A) → i < length l → get_or l i d ≡ get_or l i e
get_d_any [] i d e h = let z : ⊥ = omega arith in absurd z
get_d_any (x ∷ l) zero d e h = refl
get_d_any (x ∷ l) (suc i) d e h = get_d_any l i d e (omega arith)

pub slice-split : {A : Type 0} (a b c : ℕ) (l : List A) → a ≤ b → b ≤ c → c ≤ length l → slice a c l ≡ slice a b l ++ slice b c l
slice-split {A} a b c l h k m =
    let n : b + (c - b) ≡ c = omega arith in
    let x : List A = take (c - b) (drop b l) in
    let long : length (take b l) ≡ b = length-take-le b l (omega arith) in
    let whole : take c l ≡ take b l ++ x = ap (λ (y : ℕ). take y l) (sym n) ∙ take-add b (c - b) l in
    let later : slice b c l ≡ x = ap (drop b) whole ∙ drop_at (take b l) x b long in
    ap (drop a) whole ∙ drop-append-le a (take b l) x (omega (arith, h, long)) ∙ ap (λ (y : List A). slice a b l ++ y) (sym later)

pub slice-more : {A : Type 0} (f t : ℕ) (l : List A) (v : A) → f ≤ t → t < length l → slice f (suc t) (set l t v) ≡ slice f t l ++ v ∷ []
slice-more f t l v h k = ap (drop f) (take-suc-set l t v k) ∙ drop-append-le f (take t l) (v ∷ []) (omega (arith, h, length-take-le t l (omega arith)))

pub slice-as : {A : Type 0} (f t : ℕ) (l : List A) → f ≤ t → t ≤ length l → slice f t l ≡ take (t - f) (drop f l)
slice-as {A} f t l h k =
    let n : f + (t - f) ≡ t = omega arith in
    let x : List A = take (t - f) (drop f l) in
    ap (drop f) (ap (λ (y : ℕ). take y l) (sym n) ∙ take-add f (t - f) l) ∙ drop_at (take f l) x f (length-take-le f l (omega arith))

pub slice-later : {A : Type 0} (f t : ℕ) (l m : List A) → f ≤ t → t ≤ length l → length l ≡ length m → drop f l ≡ drop f m → slice f t l ≡ slice f t m
slice-later f t l m h k e d = slice-as f t l h k ∙ ap (take (t - f)) d ∙ sym (slice-as f t m h (omega (arith, e)))

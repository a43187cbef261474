-- What it means that no record's operands are unmet: each operand is an earlier record of the required sort.
use mathlib.Core.Path.{◌≡◌, refl, sym, ap, ◌∙◌}
use mathlib.Core.Bool.{true, false, and-eq-true_iff}
use mathlib.Core.List.{List, [], ◌∷◌, ◌++◌, map, append_assoc, append-nil}
use Prim.Native.Nat.{ℕ, zero, suc, ◌+◌, ◌<◌, ◌≤◌}
use native.Mathlib.Omega.{arith}
use borrow.Author.Tests.{ltb-true, ltb-false}
use lib.Dec.{ltb}
use lib.ListN.{length, get_or, take, length-append, length-map}
use Rattle.integers.proofs.Order.{by-test}
use Rattle.sheet.specs.declared.Record.{Record}
use Rattle.sheet.specs.declared.Record.TheVariants.{X}
use Rattle.sheet.specs.declared.Sort.{Sort}
use Rattle.sheet.specs.declared.Sort.TheVariants.{Neither, Arithmetic, Logical}
use Rattle.sheet.specs.Operands.{sort_of, asked_of, first_of, second_of, suits, is_met, first_unmet}
use Rattle.sheet.proofs.Sorting.{map-append}

-- ---- one operand
suits-told : (asked sort : Sort) → (asked ≡ Neither → ⊥) → suits asked sort ≡ true → sort ≡ asked
suits-told Neither sort n e = absurd (n refl)
suits-told Arithmetic Neither n e = let z : ◌≡◌ {A = ℕ} 0 1 = cc in absurd (omega arith)
suits-told Arithmetic Arithmetic n e = refl
suits-told Arithmetic Logical n e = let z : ◌≡◌ {A = ℕ} 0 1 = cc in absurd (omega arith)
suits-told Logical Neither n e = let z : ◌≡◌ {A = ℕ} 0 1 = cc in absurd (omega arith)
suits-told Logical Arithmetic n e = let z : ◌≡◌ {A = ℕ} 0 1 = cc in absurd (omega arith)
suits-told Logical Logical n e = refl

suits-itself : (sort : Sort) → suits sort sort ≡ true
suits-itself Neither = refl
suits-itself Arithmetic = refl
suits-itself Logical = refl

-- if no sort is required, there is nothing to show
where-asked : (asked sort : Sort) → ((asked ≡ Neither → ⊥) → suits asked sort ≡ true) → suits asked sort ≡ true
where-asked Neither sort h = refl
where-asked Arithmetic sort h = h (λ e. let z : ◌≡◌ {A = ℕ} 0 1 = cc in omega arith)
where-asked Logical sort h = h (λ e. let z : ◌≡◌ {A = ℕ} 0 1 = cc in omega arith)

-- ---- the sorts of the records before record i
abbrev sorts_before : List Record → ℕ → List Sort
sorts_before rs i = map sort_of (take i rs)

earlier : (rs : List Record) (i a : ℕ) → a < i → i ≤ length rs → get_or (sorts_before rs i) a Neither ≡ sort_of (get_or rs a X)
earlier [] i a h k = absurd (omega arith)
earlier (r ∷ rs) zero a h k = absurd (omega arith)
earlier (r ∷ rs) (suc i) zero h k = refl
earlier (r ∷ rs) (suc i) (suc a) h k = earlier rs i a (omega arith) (omega arith)

later : (rs : List Record) (i a : ℕ) → i ≤ a → get_or (sorts_before rs i) a Neither ≡ Neither
later rs zero a h = refl
later [] (suc i) a h = refl
later (r ∷ rs) (suc i) zero h = absurd (omega arith)
later (r ∷ rs) (suc i) (suc a) h = later rs i a (omega arith)

module _ (rs : List Record) (i : ℕ) (h : i < length rs) where
  abbrev r : Record
  r = get_or rs i X

  -- operand a of record i is an earlier record of the required sort
  abbrev pub Earlier : ℕ → Type 0
  Earlier a = (a < i) × (sort_of (get_or rs a X) ≡ asked_of r)

  abbrev Suits : ℕ → Type 0
  Suits a = suits (asked_of r) (get_or (sorts_before rs i) a Neither) ≡ true

  suits-earlier : (a : ℕ) → (asked_of r ≡ Neither → ⊥) → Suits a → Earlier a
  suits-earlier a n e =
      let s = suits-told (asked_of r) _ n e in
      by-test (ltb a i)
      (λ t. (ltb-true a i t, sym (earlier rs i a (ltb-true a i t) (omega arith)) ∙ s))
      (λ t. absurd (n (sym s ∙ later rs i a (ltb-false a i t))))

  earlier-suits : (a : ℕ) → ((asked_of r ≡ Neither → ⊥) → Earlier a) → Suits a
  earlier-suits a e =
      where-asked (asked_of r) _ (λ n. rw (earlier rs i a (e n).0 (omega arith), (e n).1) (suits-itself (asked_of r)))

  -- the operands of record i are met if both are
  abbrev pub Operands : Type 0
  Operands = (asked_of r ≡ Neither → ⊥) → Earlier (first_of r) × Earlier (second_of r)

  met-operands : is_met (sorts_before rs i) r ≡ true → Operands
  met-operands e n =
      let t = (and-eq-true_iff (suits (asked_of r) (get_or (sorts_before rs i) (first_of r) Neither)) _).0 e in
      (suits-earlier (first_of r) n t.0, suits-earlier (second_of r) n t.1)

  operands-met : Operands → is_met (sorts_before rs i) r ≡ true
  operands-met o = rw (earlier-suits (first_of r) (λ n. (o n).0), earlier-suits (second_of r) (λ n. (o n).1))

-- ---- all records
-- the operands of record i of `after` are met by the sorts of all records before it
abbrev MetAt : List Record → List Record → ℕ → Type 0
MetAt before after i = is_met (map sort_of (before ++ take i after)) (get_or after i X) ≡ true

module _ (before : List Record) (r : Record) (after : List Record) where
  one_on : (i : ℕ) → MetAt (before ++ r ∷ []) after i ≡ MetAt before (r ∷ after) (suc i)
  one_on i = ap (λ (rs : List Record). is_met (map sort_of rs) (get_or after i X) ≡ true) (append_assoc before (r ∷ []) (take i after))

  met-first : is_met (map sort_of before) r ≡ true → ((i : ℕ) → i < length after → MetAt (before ++ r ∷ []) after i) → (i : ℕ) → i < suc (length after) → MetAt before (r ∷ after) i
  met-first t rest zero h = rw (append-nil before) t
  met-first t rest (suc i) h = rw (one_on i) at (rest i (omega arith))

all-met : (before after : List Record) → first_unmet (map sort_of before) after ≡ length before + length after → (i : ℕ) → i < length after → MetAt before after i
unfolding first_unmet
all-met before [] e i h = absurd (omega arith)
all-met before (r ∷ after) e i h =
    by-test (is_met (map sort_of before) r)
    (λ t.
    let one : length (before ++ r ∷ []) ≡ length before + 1 = length-append before (r ∷ []) in
    let rest : first_unmet (map sort_of (before ++ r ∷ [])) after ≡ length (before ++ r ∷ []) + length after = rw (map-append before r) (rw t at e ∙ omega (arith, one)) in
    met-first before r after t (all-met (before ++ r ∷ []) after rest) i h)
    (λ t. let z : length (map sort_of before) ≡ length before + suc (length after) = rw t at e in absurd (omega (arith, z, length-map before sort_of)))

met_all : (before after : List Record) → ((i : ℕ) → i < length after → MetAt before after i) → first_unmet (map sort_of before) after ≡ length before + length after
unfolding first_unmet
met_all before [] h = length-map before sort_of ∙ omega arith
met_all before (r ∷ after) h =
    let first : is_met (map sort_of before) r ≡ true = rw (append-nil before) at (h 0 (omega arith)) in
    let rest = met_all (before ++ r ∷ []) after (λ i k. rw (one_on before r after i) (h (suc i) (omega arith))) in
    rw first (rw (map-append before r) at rest ∙ omega (arith, length-append before (r ∷ [])))

-- no record is unmet exactly if each has its operands
module _ (rs : List Record) where
  pub none-unmet : first_unmet [] rs ≡ length rs → (i : ℕ) (h : i < length rs) → Operands rs i h
  none-unmet e i h = met-operands rs i h (all-met [] rs (e ∙ omega arith) i h)

  pub all-operands : ((i : ℕ) (h : i < length rs) → Operands rs i h) → first_unmet [] rs ≡ length rs
  all-operands o = met_all [] rs (λ i h. operands-met rs i h (o i h)) ∙ omega arith

-- the number is that of the first record whose operands are not met
first-from : (done before : List Record) (r : Record) (after : List Record) → first_unmet (map sort_of done) before ≡ length done + length before
    → is_met (map sort_of (done ++ before)) r ≡ false → first_unmet (map sort_of done) (before ++ r ∷ after) ≡ length done + length before
unfolding first_unmet
first-from done [] r after e h = rw (rw (append-nil done) at h) (length-map done sort_of ∙ omega arith)
first-from done (q ∷ before) r after e h =
    by-test (is_met (map sort_of done) q)
    (λ t.
    let one : length (done ++ q ∷ []) ≡ length done + 1 = length-append done (q ∷ []) in
    let rest : first_unmet (map sort_of (done ++ q ∷ [])) before ≡ length (done ++ q ∷ []) + length before = rw (map-append done q) (rw t at e ∙ omega (arith, one)) in
    let on = first-from (done ++ q ∷ []) before r after rest (rw (append_assoc done (q ∷ []) before) h) in
    rw t (rw (map-append done q) at on ∙ omega (arith, one)))
    (λ t. let z : length (map sort_of done) ≡ length done + suc (length before) = rw t at e in absurd (omega (arith, z, length-map done sort_of)))

pub first-unmet : (before : List Record) (r : Record) (after : List Record) → first_unmet [] before ≡ length before → is_met (map sort_of before) r ≡ false → first_unmet [] (before ++ r ∷ after) ≡ length before
first-unmet before r after e h = first-from [] before r after (e ∙ omega arith) h ∙ omega arith

-- the first unmet record is one of the records, or there is none
pub unmet-most : (sorts : List Sort) (rs : List Record) → first_unmet sorts rs ≤ length sorts + length rs
unfolding first_unmet
unmet-most sorts [] = omega arith
unmet-most sorts (r ∷ rs) =
    by-test (is_met sorts r) (λ t. rw t (omega (arith, unmet-most (sorts ++ sort_of r ∷ []) rs, length-append sorts (sort_of r ∷ [])))) (λ t. rw t (omega arith))

-- The entries of constants are put in place, as the loop meets it; then the entries of all records stand as they are lent.
use Rattle.std.specs.Prelude.{Some}
use mathlib.Core.Path.{◌≡◌, refl, sym, ap, ◌∙◌}
use mathlib.Core.Bool.{true, true≢false}
use mathlib.Core.List.{List}
use Prim.Native.Nat.{ℕ, ◌+◌, ◌≤◌, ◌<◌, ◌^◌}
use native.Mathlib.Omega.{arith}
use borrow.Author.Tests.{eqb-true, eqb-false, ltb-true, ltb-false}
use lib.Dec.{eqb, ltb}
use lib.IntN.{ℤ, pos, nat_abs}
use lib.ListN.{length, get_or, set, length-set, get_or-eq_default}
use lib.Seq.{get_or-set_same, get_or-set_other}
use Rattle.integers.proofs.Order.{by-test}
use Rattle.interval.specs.declared.Interval.{Interval}
use Rattle.interval.specs.Rules.{only}
use Rattle.interval.specs.Limit.{SmallEnds}
use Rattle.sheet.specs.declared.Record.{Record}
use Rattle.sheet.specs.declared.Record.TheVariants.{Constant, X, Y, Z, Sum, Difference, Product, Square, Face, Both, Either, Complement}
use Rattle.sheet.specs.Table.{row_at}
use Rattle.sheet.specs.Records.{records_of}
use Rattle.sheet.specs.Operands.{sort_of}
use Rattle.colour.specs.declared.State.{State}
use Rattle.colour.specs.declared.State.TheVariants.{Out, Mixed}
use Rattle.colour.specs.Bounds.{none}
use Rattle.colour.proofs.Arms.{small-set}
use Rattle.carried.specs.Words.{is_logical}
use Rattle.records.specs.Offsets.{Offsets}
use Rattle.records.proofs.Walking.{Walking, walking_start, walking-end, walking-next, walking-record}
use Rattle.tape.specs.Listing.{start_of, Placed}
use Rattle.tape.specs.Memory.{bounds_in, state_in}
use Rattle.tape.specs.Lent.{is_constant, Lent}

-- ---- a list whose first n entries are known, and one more
stored : {A : Type 0} (l : List A) (d v : A) (f : ℕ → A) (n : ℕ) → n < length l → v ≡ f n → ((a : ℕ) → a < n → get_or l a d ≡ f a)
    → (a : ℕ) → a < n + 1 → get_or (set l n v) a d ≡ f a
stored l d v f n h e known a k =
    by-test (eqb a n)
    (λ t. rw (eqb-true a n t) (get_or-set_same l n v d h ∙ e))
    (λ t. get_or-set_other l n a v d (eqb-false a n t) ∙ known a (omega (arith, eqb-false a n t)))

-- ---- the loop
pub record Placing (s offsets : List ℕ) (bounds : List Interval) (colours : List State) (n : ℕ) : Type 0 where
  pub walk : Walking s offsets n
  pub bounds-long : length bounds ≡ 256
  pub colours-long : length colours ≡ 256
  pub small : (a : ℕ) → SmallEnds (bounds_in bounds a)
  pub each : (a : ℕ) → a < n → bounds_in bounds a ≡ only (start_of (get_or (records_of s) a X))
  pub mixed : (a : ℕ) → a < n → state_in colours a ≡ Mixed

module _ (s offsets : List ℕ) (bounds : List Interval) (colours : List State) where
  pub placing-start : Offsets offsets s → length bounds ≡ 256 → length colours ≡ 256 → ((a : ℕ) → SmallEnds (bounds_in bounds a)) → Placing s offsets bounds colours 0
  placing-start o h k small =
      record { walk = walking_start s offsets o; bounds-long = h; colours-long = k; small = small; each = λ a l. absurd (omega arith); mixed = λ a l. absurd (omega arith) }

  module _ (n : ℕ) (p : Placing s offsets bounds colours n) where
    pub placing-next : n < length offsets → (r : Record) → row_at s (get_or offsets n 0) ≡ Some r → (c : ℤ) → (c ≡ start_of r) × (nat_abs c ≤ 2 ^ 31)
        → Placing s offsets (set bounds n (only c)) (set colours n Mixed) (n + 1)
    placing-next left r row c e =
        let is : c ≡ start_of (get_or (records_of s) n X) = e.0 ∙ ap start_of (sym (walking-record s offsets n p.walk left r row)) in
        let few : n < 256 = omega (arith, p.walk.few) in
        record {
          walk = walking-next s offsets n p.walk left;
          bounds-long = length-set bounds n (only c) ∙ p.bounds-long;
          colours-long = length-set colours n Mixed ∙ p.colours-long;
          small = small-set bounds n (only c) (record { low = omega (arith, e.1); high = omega (arith, e.1) }) p.small;
          each = stored bounds none (only c) (λ a. only (start_of (get_or (records_of s) a X))) n (omega (arith, few, p.bounds-long)) (ap only is) p.each;
          mixed = stored colours Out Mixed (λ a. Mixed) n (omega (arith, few, p.colours-long)) refl p.mixed;
        }

    pub placing-end : length offsets ≤ n → Placed (records_of s) bounds colours
    placing-end h =
        let all = walking-end s offsets n p.walk h in
        record { each = λ a l. p.each a (omega (arith, all)); mixed = λ a l. p.mixed a (omega (arith, all)) }

-- ---- what is lent
logical-start : (r : Record) → is_logical (sort_of r) ≡ true → start_of r ≡ pos 0
logical-start (Constant c) e = absurd (true≢false (sym e))
logical-start X e = refl
logical-start Y e = refl
logical-start Z e = refl
logical-start (Sum a b) e = refl
logical-start (Difference a b) e = refl
logical-start (Product a b) e = refl
logical-start (Square a) e = refl
logical-start (Face by a) e = refl
logical-start (Both a b) e = refl
logical-start (Either a b) e = refl
logical-start (Complement a) e = refl

not_there : (rs : List Record) (a : ℕ) (c : ℤ) → length rs ≤ a → get_or rs a X ≡ Constant c → ⊥
not_there rs a c h e = true≢false (sym (ap is_constant (sym (get_or-eq_default rs X h) ∙ e)))

pub lent : (rs : List Record) (bounds : List Interval) (colours : List State) → Placed rs bounds colours → Lent rs bounds colours
lent rs bounds colours p =
    record {
      bounds = λ a h s. p.each a h ∙ ap only (logical-start (get_or rs a X) s);
      states = λ a h s. p.mixed a h;
      constants = λ a c e.
          by-test (ltb a (length rs))
          (λ t. p.each a (ltb-true a (length rs) t) ∙ ap (λ (r : Record). only (start_of r)) e)
          (λ t. absurd (not_there rs a c (ltb-false a (length rs) t) e));
    }

-- The words of a good sheet's own records are what is carried to the root.
use mathlib.Core.Path.{◌≡◌, refl, sym, ap, ◌∙◌}
use mathlib.Core.Bool.{Bool, true, false, cond, not, ◌||◌, and-eq-true_iff, true≢false}
use mathlib.Core.List.{List, [], ◌∷◌, ◌++◌}
use mathlib.Core.Logic.{◌⊎◌, inl, inr, ⊎_elim}
use Prim.Native.Nat.{ℕ, zero, suc, ◌-◌, ◌<◌, ◌≤◌}
use native.Mathlib.Omega.{arith}
use borrow.Author.Tests.{eqb-true, eq-eqb}
use lib.Dec.{eqb}
use lib.ListN.{length, get_or, take}
use lib.Seq.{length-take-le}
use Rattle.integers.proofs.Order.{by-test}
use Rattle.sheet.specs.declared.Record.{Record}
use Rattle.sheet.specs.declared.Record.TheVariants.{Constant, X, Y, Z, Sum, Difference, Product, Square, Face, Both, Either, Complement}
use Rattle.sheet.specs.declared.Sort.{Sort}
use Rattle.sheet.specs.declared.Sort.TheVariants.{Neither, Arithmetic, Logical}
use Rattle.sheet.specs.Operands.{sort_of, asked_of, first_of, second_of}
use Rattle.sheet.proofs.Along.{length-along, entry_at, before_at}
use Rattle.sheet.proofs.Unmet.{Earlier, Operands}
use Rattle.cube.specs.declared.Cube.{Cube}
use Rattle.colour.specs.Entries.{blank, entry_with, entry_of, entries}
use Rattle.carried.specs.Words.{over, Word, word, entry_by, TrueWithin, AllTrue, has_operands, reads, more, Closed, listed, Carried, own_word, chosen, is_logical, is_worked, is_stated, first_words}
use Rattle.carried.proofs.Running.{same-entry, more-new, listed-old}

-- ---- one list of words after another
all_append : (rs : List Record) (outer : Cube) (ws vs : List Word) → AllTrue rs outer ws → AllTrue rs outer vs → AllTrue rs outer (ws ++ vs)
all_append rs outer [] vs t u = u
all_append rs outer (w ∷ ws) vs t u = (t.0, all_append rs outer ws vs t.1 u)

closed-append : (ws vs : List Word) (known : ℕ → Bool) → Closed known ws → Closed (listed known ws) vs → Closed known (ws ++ vs)
closed-append [] vs known c d = d
closed-append (w ∷ ws) vs known c d = (c.0, closed-append ws vs (more known w.number) c.1 d)

listed-append : (ws vs : List Word) (known : ℕ → Bool) → listed known (ws ++ vs) ≡ listed (listed known ws) vs
listed-append [] vs known = refl
listed-append (w ∷ ws) vs known = listed-append ws vs (more known w.number)

-- ---- an operand
some-operand : (s : Sort) → has_operands s ≡ true → s ≡ Neither → ⊥
some-operand s h e = true≢false (sym h ∙ ap has_operands e)

module _ (rs : List Record) (met : (i : ℕ) (h : i < length rs) → Operands rs i h) (n : ℕ) (h : n < length rs) (a : ℕ) (u : reads (get_or rs n X) a ≡ true) where
  abbrev r : Record
  r = get_or rs n X

  operand-earlier : Earlier rs n h a
  operand-earlier =
      let t = (and-eq-true_iff (has_operands (asked_of r)) (eqb a (first_of r) || eqb a (second_of r))).0 u in
      let o = met n h (some-operand (asked_of r) t.0) in
      by-test (eqb a (first_of r))
      (λ e. rw (eqb-true a (first_of r) e) o.0)
      (λ e. rw (eqb-true a (second_of r) (ap (λ (x : Bool). x || eqb a (second_of r)) (sym e) ∙ t.1)) o.1)

  -- it is asked to be of one sort or the other
  operand-asked : has_operands (sort_of (get_or rs a X)) ≡ true
  operand-asked = ap has_operands operand-earlier.1 ∙ ((and-eq-true_iff (has_operands (asked_of r)) (eqb a (first_of r) || eqb a (second_of r))).0 u).0

by-sort : {P : Type 0} (s : Sort) → has_operands s ≡ true → (s ≡ Arithmetic → P) → (s ≡ Logical → P) → P
by-sort Neither t f g = absurd (true≢false (sym t))
by-sort Arithmetic t f g = f refl
by-sort Logical t f g = g refl

not_is : (b : Bool) → not b ≡ true → b ≡ false
not_is true e = absurd (true≢false (sym e))
not_is false e = refl

asks-arithmetic : (r : Record) → is_logical (sort_of r) ≡ false → has_operands (asked_of r) ≡ true → asked_of r ≡ Arithmetic
asks-arithmetic (Constant c) s t = absurd (true≢false (sym t))
asks-arithmetic X s t = absurd (true≢false (sym t))
asks-arithmetic Y s t = absurd (true≢false (sym t))
asks-arithmetic Z s t = absurd (true≢false (sym t))
asks-arithmetic (Sum a b) s t = refl
asks-arithmetic (Difference a b) s t = refl
asks-arithmetic (Product a b) s t = refl
asks-arithmetic (Square a) s t = refl
asks-arithmetic (Face by a) s t = absurd (true≢false s)
asks-arithmetic (Both a b) s t = absurd (true≢false s)
asks-arithmetic (Either a b) s t = absurd (true≢false s)
asks-arithmetic (Complement a) s t = absurd (true≢false s)

module _ (rs : List Record) (outer : Cube) (met : (i : ℕ) (h : i < length rs) → Operands rs i h) where
  -- ---- each record's own word is true
  own-true : (n : ℕ) → n < length rs → TrueWithin rs outer (own_word rs n)
  unfolding TrueWithin entry_by entry_with
  own-true n h q k =
      let before = entries q (take n rs) in
      let r = get_or rs n X in
      let long : length before ≡ n = length-along (entry_of q) (take n rs) ∙ length-take-le n rs (omega arith) in
      let read : (a : ℕ) → reads r a ≡ true → get_or before a blank ≡ over rs q a = λ a u. before_at (entry_of q) rs n a blank (omega arith) (operand-earlier rs met n h a u).0 in
      entry_at (entry_of q) rs n blank h
      ∙ ap (λ (x : ℕ). entry_by q (λ a. get_or before a blank) (word x r)) long
      ∙ same-entry q (λ a. get_or before a blank) (over rs q) n r read

  module _ (p : Word → Bool) where
    -- record n's word, if it is chosen
    abbrev one : ℕ → List Word
    one n = cond (p (own_word rs n)) (own_word rs n ∷ []) []

    chosen-true : (n : ℕ) → n ≤ length rs → AllTrue rs outer (chosen p rs n)
    unfolding chosen
    chosen-true zero h = tt
    chosen-true (suc n) h = all_append rs outer (chosen p rs n) (one n) (chosen-true n (omega arith)) (by-test (p (own_word rs n)) (λ t. rw t (own-true n (omega arith), tt)) (λ t. rw t tt))

    chosen-listed : (known : ℕ → Bool) (n a : ℕ) → a < n → p (own_word rs a) ≡ true → listed known (chosen p rs n) a ≡ true
    unfolding chosen
    chosen-listed known zero a h t = absurd (omega arith)
    chosen-listed known (suc n) a h t =
        by-test (eqb a n)
        (λ e. rw (listed-append (chosen p rs n) (one n) known, eqb-true a n e, ap (λ (x : ℕ). p (own_word rs x)) (sym (eqb-true a n e)) ∙ t) (more-new (listed known (chosen p rs n)) n))
        (λ e. let apart : a ≡ n → ⊥ = λ i. true≢false (sym (eq-eqb a n i) ∙ e) in
        rw (listed-append (chosen p rs n) (one n) known) (listed-old (one n) (listed known (chosen p rs n)) a (chosen-listed known n a (omega (arith, apart)) t)))

    -- if each operand of a chosen word is known from the start, or is chosen itself
    abbrev Sources : (ℕ → Bool) → Type 0
    Sources known = (n : ℕ) (h : n < length rs) → p (own_word rs n) ≡ true → (a : ℕ) → reads (get_or rs n X) a ≡ true → (known a ≡ true) ⊎ (p (own_word rs a) ≡ true)

    chosen-closed : (known : ℕ → Bool) → Sources known → (n : ℕ) → n ≤ length rs → Closed known (chosen p rs n)
    unfolding chosen
    chosen-closed known from zero h = tt
    chosen-closed known from (suc n) h =
        closed-append (chosen p rs n) (one n) known (chosen-closed known from n (omega arith))
        (by-test (p (own_word rs n))
        (λ t. rw t (
          (λ a u. ⊎_elim (λ (i : known a ≡ true). listed-old (chosen p rs n) known a i)
              (λ (i : p (own_word rs a) ≡ true). chosen-listed known n a (operand-earlier rs met n (omega arith) a u).0 i) (from n (omega arith) t a u)),
          tt,
        ))
        (λ t. rw t tt))

  -- ---- arithmetic records, then logical ones
  module _ (base : ℕ → Bool) where
    -- an arithmetic record is in place already, or is chosen
    worked : (a : ℕ) → sort_of (get_or rs a X) ≡ Arithmetic → (base a ≡ true) ⊎ (is_worked base (own_word rs a) ≡ true)
    worked a s = by-test (base a) (λ t. inl t) (λ t. inr (rw (s, t)))

    arithmetic-sources : Sources (is_worked base) base
    arithmetic-sources n h t a u =
        let logical : is_logical (sort_of (get_or rs n X)) ≡ false = not_is (is_logical (sort_of (get_or rs n X))) ((and-eq-true_iff (not (is_logical (sort_of (get_or rs n X)))) _).0 t).0 in
        worked a ((operand-earlier rs met n h a u).1 ∙ asks-arithmetic (get_or rs n X) logical ((and-eq-true_iff (has_operands (asked_of (get_or rs n X))) _).0 u).0)

    abbrev works : List Word
    works = chosen (is_worked base) rs (length rs)

    all-arithmetic : (a : ℕ) → a < length rs → sort_of (get_or rs a X) ≡ Arithmetic → listed base works a ≡ true
    all-arithmetic a h s =
        ⊎_elim (λ (t : base a ≡ true). listed-old works base a t) (λ (t : is_worked base (own_word rs a) ≡ true). chosen-listed (is_worked base) base (length rs) a h t) (worked a s)

    logical-sources : Sources is_stated (listed base works)
    logical-sources n h t a u =
        by-sort (sort_of (get_or rs a X)) (operand-asked rs met n h a u)
        (λ s. inl (all-arithmetic a (omega (arith, (operand-earlier rs met n h a u).0)) s))
        (λ s. inr (ap is_logical s))

    -- The words of a sheet whose operands are all met and whose last record is logical are what is carried to the root, whatever is in place already.
    pub first-carried : 0 < length rs → is_logical (sort_of (get_or rs (length rs - 1) X)) ≡ true → Carried rs outer base (first_words base rs) (length rs - 1)
    first-carried some last =
        let states = chosen is_stated rs (length rs) in
        record {
          holds = all_append rs outer works states (chosen-true (is_worked base) (length rs) (omega arith)) (chosen-true is_stated (length rs) (omega arith));
          closed =
              closed-append works states base (chosen-closed (is_worked base) base arithmetic-sources (length rs) (omega arith))
              (chosen-closed is_stated (listed base works) logical-sources (length rs) (omega arith));
          there = rw (listed-append works states base) (chosen-listed is_stated (listed base works) (length rs) (length rs - 1) (omega (arith, some)) last);
          same = λ q k. refl;
        }

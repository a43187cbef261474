-- What a state over a cube says of the state over a cube inside it: what is decided stays decided, and what depends on one face still does.
use mathlib.Core.Path.{◌≡◌, refl, sym, ap, ◌∙◌}
use mathlib.Core.Bool.{Bool, true, false, not, cond}
use mathlib.Core.List.{List, ◌∷◌, ◌++◌}
use mathlib.Core.Logic.{◌⊎◌, inl, inr}
use Prim.Native.Nat.{ℕ}
use native.Mathlib.Omega.{arith}
use lib.ListN.{length, get_or}
use Rattle.integers.proofs.Order.{≤_trans, by-test}
use Rattle.interval.specs.declared.Interval.{Interval}
use Rattle.interval.specs.Claims.{Inside}
use Rattle.sheet.specs.declared.Comparison.{Comparison}
use Rattle.sheet.specs.declared.Record.{Record}
use Rattle.sheet.specs.declared.Record.TheVariants.{Constant, X, Y, Z, Sum, Difference, Product, Square, Face, Both, Either, Complement}
use Rattle.sheet.proofs.Along.{Pairs, length-along, entry, related-in}
use Rattle.cube.specs.declared.Cube.{Cube}
use Rattle.cube.specs.Points.{CubeInside}
use Rattle.colour.specs.declared.State.{State}
use Rattle.colour.specs.declared.State.TheVariants.{Out, In, Single, Comp, Mixed}
use Rattle.colour.specs.States.{is_in, is_out, meets, face_state, complement_of, both_of, either_of, state_with}
use Rattle.colour.specs.Entries.{Entry, blank, face_bounds, entry_with, entry_of, entries}
use Rattle.colour.proofs.Joined.{is-in, is-out}
use Rattle.colour.proofs.Otherwise.{complement-twice}
use Rattle.colour.proofs.Turned.{either-turned, both-in, both_out, both-self, both-complement, both-commutes, either-commutes}
use Rattle.colour.proofs.Says.{meets-below, fails-above, joined_says}
use Rattle.colour.proofs.Smaller.{bounds-inside}
use Rattle.carried.specs.Words.{state_over}

-- a state that is known
abbrev Sure : State → Type 0
Sure s = s ≡ Mixed → ⊥

-- what s, over a cube, says of t, over one inside, where `face f` is the state of record f over the one inside
unfoldable pub Tells : (ℕ → State) → State → State → Type 0
Tells face Out t = t ≡ Out
Tells face In t = t ≡ In
Tells face (Single f) t = (t ≡ face f) × Sure (face f)
Tells face (Comp f) t = (t ≡ complement_of (face f)) × Sure (face f)
Tells face Mixed t = Unit {0}

-- ---- either, by both
pub in_both : (s : State) → both_of s In ≡ s
in_both s = both-commutes s In ∙ both-in s

out_both : (s : State) → both_of s Out ≡ Out
out_both s = both-commutes s Out ∙ both_out s

pub either-out : (s : State) → either_of Out s ≡ s
either-out s = either-turned Out s ∙ ap complement_of (both-in (complement_of s)) ∙ complement-twice s

pub out-either : (s : State) → either_of s Out ≡ s
out-either s = either-commutes s Out ∙ either-out s

either-in : (s : State) → either_of In s ≡ In
either-in s = either-turned In s ∙ ap complement_of (both_out (complement_of s))

in_either : (s : State) → either_of s In ≡ In
in_either s = either-commutes s In ∙ either-in s

either-self : (s : State) → either_of s s ≡ s
either-self s = either-turned s s ∙ ap complement_of (both-self (complement_of s)) ∙ complement-twice s

sure-complement : (s : State) → Sure s → Sure (complement_of s)
sure-complement s h e = h (sym (complement-twice s) ∙ ap complement_of e)

either-complement : (s : State) → Sure s → either_of s (complement_of s) ≡ In
either-complement s h = either-turned s (complement_of s) ∙ ap complement_of (both-complement (complement_of s) (sure-complement s h))

-- ---- each rule, once
-- a face's state is known
face-sure : (by : Comparison) (i : Interval) (f : ℕ) → Sure (face_state by i f)
unfolding face_state
face-sure by i f e = surely (meets by i.high) (not (meets by i.low)) e
  where
    surely : (b c : Bool) → Sure (cond b In (cond c Out (Single f)))
    surely true c e = let z : ◌≡◌ {A = ℕ} 0 1 = cc in absurd (omega arith)
    surely false true e = let z : ◌≡◌ {A = ℕ} 0 1 = cc in absurd (omega arith)
    surely false false e = let z : ◌≡◌ {A = ℕ} 0 1 = cc in absurd (omega arith)

module _ (face : ℕ → State) where
  mixed-tells : (t : State) → Tells face Mixed t
  unfolding Tells
  mixed-tells t = tt

  face-tells : (by : Comparison) (i j : Interval) (f : ℕ) → Inside i j → face f ≡ face_state by i f → Tells face (face_state by j f) (face_state by i f)
  unfolding face_state Tells
  face-tells by i j f h e =
      by-test (meets by j.high)
      (λ t. rw (t, meets-below by _ _ h.high t))
      (λ t.
      by-test (meets by j.low)
      (λ u. rw (t, u) (sym e, rw e (face-sure by i f)))
      (λ u. rw (t, u, fails-above by _ _ (≤_trans _ _ _ h.low h.ordered) u, fails-above by _ _ h.low u)))

  complement-tells : (s t : State) → Tells face s t → Tells face (complement_of s) (complement_of t)
  unfolding Tells
  complement-tells Out t h = ap complement_of h
  complement-tells In t h = ap complement_of h
  complement-tells (Single f) t h = (ap complement_of h.0, h.1)
  complement-tells (Comp f) t h = (ap complement_of h.0 ∙ complement-twice (face f), h.1)
  complement-tells Mixed t h = tt

  in-tells : (s t : State) → is_in s ≡ true → Tells face s t → t ≡ In
  unfolding Tells
  in-tells s t e h = rw (is-in s e) at h

  out-tells : (s t : State) → is_out s ≡ true → Tells face s t → t ≡ Out
  unfolding Tells
  out-tells s t e h = rw (is-out s e) at h

  one_state : (s a b : State) → Tells face s a → Tells face s b → (s ≡ Mixed) ⊎ (a ≡ b)
  unfolding Tells
  one_state Out a b h k = inr (h ∙ sym k)
  one_state In a b h k = inr (h ∙ sym k)
  one_state (Single f) a b h k = inr (h.0 ∙ sym k.0)
  one_state (Comp f) a b h k = inr (h.0 ∙ sym k.0)
  one_state Mixed a b h k = inl refl

  -- what is told of by a known state is known
  told-sure : (s a : State) → Sure s → Tells face s a → Sure a
  unfolding Tells
  told-sure Out a n h e = let z : ◌≡◌ {A = ℕ} 0 1 = cc in absurd (omega arith)
  told-sure In a n h e = let z : ◌≡◌ {A = ℕ} 0 1 = cc in absurd (omega arith)
  told-sure (Single f) a n h e = h.1 (sym h.0 ∙ e)
  told-sure (Comp f) a n h e = sure-complement (face f) h.1 (sym h.0 ∙ e)
  told-sure Mixed a n h e = n refl

  both-tells : (s t a b : State) → Tells face s a → Tells face t b → Tells face (both_of s t) (both_of a b)
  unfolding Tells
  both-tells =
      joined_says (Tells face) complement_of mixed-tells complement-tells complement-twice one_state is_out Out is_in both_of
      (λ s a b e h. ap (λ (x : State). both_of x b) (out-tells s a e h) ∙ both_out b)
      (λ t a b e k. ap (both_of a) (out-tells t b e k) ∙ out_both a)
      (λ s a b e h. ap (λ (x : State). both_of x b) (in-tells s a e h) ∙ both-in b)
      (λ t a b e k. ap (both_of a) (in-tells t b e k) ∙ in_both a)
      both-self
      (λ s a n h. both-complement a (told-sure s a n h))

  either-tells : (s t a b : State) → Tells face s a → Tells face t b → Tells face (either_of s t) (either_of a b)
  unfolding Tells
  either-tells =
      joined_says (Tells face) complement_of mixed-tells complement-tells complement-twice one_state is_in In is_out either_of
      (λ s a b e h. ap (λ (x : State). either_of x b) (in-tells s a e h) ∙ either-in b)
      (λ t a b e k. ap (either_of a) (in-tells t b e k) ∙ in_either a)
      (λ s a b e h. ap (λ (x : State). either_of x b) (out-tells s a e h) ∙ either-out b)
      (λ t a b e k. ap (either_of a) (out-tells t b e k) ∙ out-either a)
      either-self
      (λ s a n h. either-complement a (told-sure s a n h))

-- ---- all records
module _ (q outer : Cube) (h : CubeInside q outer) (rs : List Record) where
  abbrev face : ℕ → State
  face f = state_over rs q f

  -- of an entry over the outer cube and one over the inner
  abbrev Says : Entry → Entry → Type 0
  Says e i = Tells face e.state i.state

  -- a face's own entry
  own : (by : Comparison) (before after : List Record) (a : ℕ) → before ++ Face by a ∷ after ≡ rs
      → face (length (entries outer before)) ≡ face_state by (face_bounds q (get_or (entries q before) a blank)) (length (entries outer before))
  unfolding entry_with state_with
  own by before after a e =
      let n : length (entries outer before) ≡ length before = length-along (entry_of outer) before in
      let m : length (entries q before) ≡ length before = length-along (entry_of q) before in
      ap face n
      ∙ ap (λ (l : List Record). (get_or (entries q l) (length before) blank).state) (sym e)
      ∙ ap (λ (x : Entry). x.state) (entry (entry_of q) before (Face by a) after blank)
      ∙ ap (face_state by (face_bounds q (get_or (entries q before) a blank))) (m ∙ sym n)

  face-inside : (before : List Record) (a : ℕ) → Inside (face_bounds q (get_or (entries q before) a blank)) (face_bounds outer (get_or (entries outer before) a blank))
  unfolding face_bounds
  face-inside before a = bounds-inside q outer h before a

  step-tells : (before : List Record) (r : Record) (after : List Record) → before ++ r ∷ after ≡ rs → Pairs Says blank blank (entries outer before) (entries q before)
      → Says (entry_of outer (entries outer before) r) (entry_of q (entries q before) r)
  unfolding entry_with state_with
  step-tells before (Constant c) after e k = mixed-tells face Mixed
  step-tells before X after e k = mixed-tells face Mixed
  step-tells before Y after e k = mixed-tells face Mixed
  step-tells before Z after e k = mixed-tells face Mixed
  step-tells before (Sum a b) after e k = mixed-tells face Mixed
  step-tells before (Difference a b) after e k = mixed-tells face Mixed
  step-tells before (Product a b) after e k = mixed-tells face Mixed
  step-tells before (Square a) after e k = mixed-tells face Mixed
  step-tells before (Face by a) after e k =
      let n : length (entries q before) ≡ length (entries outer before) = length-along (entry_of q) before ∙ sym (length-along (entry_of outer) before) in
      rw n (face-tells face by _ _ (length (entries outer before)) (face-inside before a) (own by before after a e))
  step-tells before (Both a b) after e k = both-tells face _ _ _ _ (k.each a) (k.each b)
  step-tells before (Either a b) after e k = either-tells face _ _ _ _ (k.each a) (k.each b)
  step-tells before (Complement a) after e k = complement-tells face _ _ (k.each a)

  -- what the state of record i over the cube says of its state over the one inside
  pub states-tell : (i : ℕ) → Tells face (state_over rs outer i) (state_over rs q i)
  unfolding Tells
  states-tell i = (related-in Says blank blank refl (entry_of outer) (entry_of q) rs step-tells).each i

  -- what is decided stays decided
  pub stays-in : (i : ℕ) → state_over rs outer i ≡ In → state_over rs q i ≡ In
  stays-in i e = in-tells face (state_over rs outer i) (state_over rs q i) (ap is_in e) (states-tell i)

  pub stays_out : (i : ℕ) → state_over rs outer i ≡ Out → state_over rs q i ≡ Out
  stays_out i e = out-tells face (state_over rs outer i) (state_over rs q i) (ap is_out e) (states-tell i)

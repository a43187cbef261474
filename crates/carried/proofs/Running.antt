-- Working a tape out over a cube gives each record that it lists its entry there: so the solid its state.
use mathlib.Core.Path.{◌≡◌, refl, sym, ap, ◌∙◌}
use mathlib.Core.Bool.{Bool, true, false, ◌||◌, or-true, or-false}
use mathlib.Core.List.{List, [], ◌∷◌}
use Prim.Native.Nat.{ℕ, ◌-◌}
use borrow.Author.Tests.{eqb-true, eq-eqb}
use lib.Dec.{eqb}
use lib.ListN.{length}
use Rattle.integers.proofs.Order.{by-test}
use Rattle.sheet.specs.declared.Record.{Record}
use Rattle.sheet.specs.declared.Record.TheVariants.{Constant, X, Y, Z, Sum, Difference, Product, Square, Face, Both, Either, Complement}
use Rattle.cube.specs.declared.Cube.{Cube}
use Rattle.cube.specs.Points.{CubeInside}
use Rattle.colour.specs.Bounds.{bounds_of}
use Rattle.colour.specs.States.{state_with}
use Rattle.colour.specs.Entries.{Entry, face_bounds}
use Rattle.carried.specs.Words.{over, state_over, Word, word, entry_by, TrueWithin, AllTrue, reads, more, Finds, Closed, listed, Carried, put, run}

-- ---- sets
pub first_read : (a b : ℕ) → (eqb a a || eqb a b) ≡ true
first_read a b = rw (eq-eqb a a refl)

pub second-read : (a b : ℕ) → (eqb b a || eqb b b) ≡ true
second-read a b = rw (eq-eqb b b refl) (or-true (eqb b a))

-- a number is the new one, or was there before
pub more-either : {P : Type 0} (known : ℕ → Bool) (n a : ℕ) → more known n a ≡ true → (a ≡ n → P) → (eqb a n ≡ false → known a ≡ true → P) → P
unfolding more
more-either known n a t f g = by-test (eqb a n) (λ u. f (eqb-true a n u)) (λ u. g u (sym (or-false (known a)) ∙ ap (λ (b : Bool). known a || b) (sym u) ∙ t))

pub more-old : (known : ℕ → Bool) (n a : ℕ) → known a ≡ true → more known n a ≡ true
unfolding more
more-old known n a t = rw t

pub more-new : (known : ℕ → Bool) (n : ℕ) → more known n n ≡ true
unfolding more
more-new known n = rw (eq-eqb n n refl) (or-true (known n))

pub listed-old : (ws : List Word) (known : ℕ → Bool) (a : ℕ) → known a ≡ true → listed known ws a ≡ true
listed-old [] known a t = t
listed-old (w ∷ ws) known a t = listed-old ws (more known w.number) a (more-old known w.number a t)

-- ---- a word reads its operands alone
pub same-entry : (q : Cube) (e f : ℕ → Entry) (n : ℕ) (r : Record) → ((a : ℕ) → reads r a ≡ true → e a ≡ f a) → entry_by q e (word n r) ≡ entry_by q f (word n r)
unfolding entry_by bounds_of state_with face_bounds
same-entry q e f n (Constant c) h = refl
same-entry q e f n X h = refl
same-entry q e f n Y h = refl
same-entry q e f n Z h = refl
same-entry q e f n (Sum a b) h = rw (h a (first_read a b), h b (second-read a b))
same-entry q e f n (Difference a b) h = rw (h a (first_read a b), h b (second-read a b))
same-entry q e f n (Product a b) h = rw (h a (first_read a b), h b (second-read a b))
same-entry q e f n (Square a) h = rw (h a (first_read a a))
same-entry q e f n (Face by a) h = rw (h a (first_read a a))
same-entry q e f n (Both a b) h = rw (h a (first_read a b), h b (second-read a b))
same-entry q e f n (Either a b) h = rw (h a (first_read a b), h b (second-read a b))
same-entry q e f n (Complement a) h = rw (h a (first_read a a))

module _ (rs : List Record) (q outer : Cube) (h : CubeInside q outer) where
  -- the entries of what is known stand in their places
  abbrev pub Right : (ℕ → Bool) → (ℕ → Entry) → Type 0
  Right known e = (a : ℕ) → known a ≡ true → e a ≡ over rs q a

  -- THE STEP that the loop over a tape takes: one word more
  pub right-entry : (known : ℕ → Bool) (e : ℕ → Entry) (w : Word) → TrueWithin rs outer w → Finds known w → Right known e → entry_by q e w ≡ over rs q w.number
  unfolding TrueWithin
  right-entry known e w t f k = same-entry q e (over rs q) w.number w.what (λ a u. k a (f a u)) ∙ sym (t q h)

  pub right-more : (known : ℕ → Bool) (e : ℕ → Entry) (w : Word) → TrueWithin rs outer w → Finds known w → Right known e → Right (more known w.number) (put e w.number (entry_by q e w))
  unfolding put
  right-more known e w t f k a u =
      more-either known w.number a u
      (λ i. rw (eq-eqb a w.number i) (right-entry known e w t f k ∙ ap (over rs q) (sym i)))
      (λ i j. rw i (k a j))

  -- THE INDUCTION
  pub run-right : (ws : List Word) (known : ℕ → Bool) (e : ℕ → Entry) → AllTrue rs outer ws → Closed known ws → Right known e → Right (listed known ws) (run q e ws)
  unfolding run
  run-right [] known e t c k = k
  run-right (w ∷ ws) known e t c k =
      run-right ws (more known w.number) (put e w.number (entry_by q e w)) t.1 c.1 (right-more known e w t.0 c.0 k)

  -- the solid's state over a cube, from what is carried
  pub solid-carried : (base : ℕ → Bool) (ws : List Word) (solid : ℕ) → Carried rs outer base ws solid → (e : ℕ → Entry) → Right base e
      → (run q e ws solid).state ≡ state_over rs q (length rs - 1)
  solid-carried base ws solid c e k = ap (λ (x : Entry). x.state) (run-right ws base e c.holds c.closed k solid c.there) ∙ c.same q h

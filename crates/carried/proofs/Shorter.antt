-- What is carried to a cube serves all cubes inside it, and may be shortened by the states over it.
use mathlib.Core.Path.{◌≡◌, refl, sym, ap, ◌∙◌}
use mathlib.Core.Bool.{Bool, true, false, cond, ◌||◌, or-true, true≢false}
use mathlib.Core.List.{List, [], ◌∷◌, map}
use Prim.Native.Nat.{ℕ}
use borrow.Author.Tests.{eqb-true, eq-eqb}
use lib.Dec.{eqb}
use Rattle.integers.proofs.Order.{by-test}
use Rattle.sheet.specs.declared.Record.{Record}
use Rattle.sheet.specs.declared.Record.TheVariants.{Constant, X, Y, Z, Sum, Difference, Product, Square, Face, Both, Either, Complement}
use Rattle.cube.specs.declared.Cube.{Cube}
use Rattle.cube.specs.Points.{CubeInside}
use Rattle.cube.proofs.Cubes.{inside-trans}
use Rattle.colour.specs.declared.State.{State}
use Rattle.colour.specs.Bounds.{none, bounds_of}
use Rattle.colour.specs.States.{is_in, is_out, both_of, either_of, complement_of, state_with}
use Rattle.colour.specs.Entries.{Entry}
use Rattle.carried.specs.Words.{over, state_over, Word, word, entry_by, TrueWithin, AllTrue, reads, more, Finds, Closed, listed, Carried, put, twin_by, renamed, twin_after, rename_all, twins, needed, kept, shorter_solid, shorter}
use Rattle.colour.proofs.Joined.{is-in, is-out}
use Rattle.colour.proofs.Turned.{both-in}
use Rattle.carried.proofs.Narrower.{in_both, either-out, out-either, stays-in, stays_out}
use Rattle.carried.proofs.Running.{first_read, second-read, more-either, more-old, more-new, listed-old}

-- ---- what is carried to a cube serves all cubes inside it
module _ (rs : List Record) (inner outer : Cube) (h : CubeInside inner outer) where
  true-inner : (w : Word) → TrueWithin rs outer w → TrueWithin rs inner w
  unfolding TrueWithin
  true-inner w t q k = t q (inside-trans q inner outer k h)

  all-inner : (ws : List Word) → AllTrue rs outer ws → AllTrue rs inner ws
  all-inner [] t = tt
  all-inner (w ∷ ws) t = (true-inner w t.0, all-inner ws t.1)

  pub carried-inner : (base : ℕ → Bool) (ws : List Word) (solid : ℕ) → Carried rs outer base ws solid → Carried rs inner base ws solid
  carried-inner base ws solid c =
      record { holds = all-inner ws c.holds; closed = c.closed; there = c.there; same = λ q k. c.same q (inside-trans q inner outer k h) }

-- ---- words that nothing needs are left out
module _ {R : Type 0} (is : R → Word) (uses : R → ℕ → Bool) (covers : (w : R) (a : ℕ) → reads (is w).what a ≡ true → uses w a ≡ true) where
  module _ (wanted : ℕ → Bool) where
    abbrev need : List R → ℕ → Bool
    need = needed is uses wanted

    abbrev keep : List R → List R
    keep = kept is uses wanted

    pub needed-old : (w : R) (ws : List R) (a : ℕ) → need ws a ≡ true → need (w ∷ ws) a ≡ true
    unfolding needed
    needed-old w ws a t = rw t

    needed-read : (w : R) (ws : List R) (a : ℕ) → need ws (is w).number ≡ true → reads (is w).what a ≡ true → need (w ∷ ws) a ≡ true
    unfolding needed
    needed-read w ws a t u = rw (t, covers w a u) (or-true (need ws a))

    pub kept-yes : (w : R) (ws : List R) → need ws (is w).number ≡ true → keep (w ∷ ws) ≡ w ∷ keep ws
    unfolding kept
    kept-yes w ws t = rw t

    pub kept-no : (w : R) (ws : List R) → need ws (is w).number ≡ false → keep (w ∷ ws) ≡ keep ws
    unfolding kept
    kept-no w ws t = rw t

    pub kept-none : keep [] ≡ []
    unfolding kept
    kept-none = refl

    needed-none : (a : ℕ) → need [] a ≡ wanted a
    unfolding needed
    needed-none a = refl

    kept-true : (rs : List Record) (outer : Cube) (ws : List R) → AllTrue rs outer (map is ws) → AllTrue rs outer (map is (keep ws))
    kept-true rs outer [] t = rw kept-none tt
    kept-true rs outer (w ∷ ws) t =
        by-test (need ws (is w).number)
        (λ u. rw (kept-yes w ws u) (t.0, kept-true rs outer ws t.1))
        (λ u. rw (kept-no w ws u) (kept-true rs outer ws t.1))

    -- what is known and needed is known to the words that are kept
    abbrev Serves : (known held : ℕ → Bool) → List R → Type 0
    Serves known held ws = (a : ℕ) → known a ≡ true → need ws a ≡ true → held a ≡ true

    serves-yes : (known held : ℕ → Bool) (w : R) (ws : List R) → Serves known held (w ∷ ws) → Serves (more known (is w).number) (more held (is w).number) ws
    serves-yes known held w ws s a t u =
        more-either known (is w).number a t
        (λ i. ap (more held (is w).number) i ∙ more-new held (is w).number)
        (λ i j. more-old held (is w).number a (s a j (needed-old w ws a u)))

    serves-no : (known held : ℕ → Bool) (w : R) (ws : List R) → need ws (is w).number ≡ false → Serves known held (w ∷ ws) → Serves (more known (is w).number) held ws
    serves-no known held w ws n s a t u =
        more-either known (is w).number a t
        (λ i. absurd (true≢false (sym u ∙ ap (need ws) i ∙ n)))
        (λ i j. s a j (needed-old w ws a u))

    kept-closed : (ws : List R) (known held : ℕ → Bool) → Closed known (map is ws) → Serves known held ws → Closed held (map is (keep ws))
    kept-closed [] known held c s = rw kept-none tt
    kept-closed (w ∷ ws) known held c s =
        by-test (need ws (is w).number)
        (λ u. rw (kept-yes w ws u) ((λ a r. s a (c.0 a r) (needed-read w ws a u r)), kept-closed ws (more known (is w).number) (more held (is w).number) c.1 (serves-yes known held w ws s)))
        (λ u. rw (kept-no w ws u) (kept-closed ws (more known (is w).number) held c.1 (serves-no known held w ws u s)))

    kept-listed : (ws : List R) (known held : ℕ → Bool) → Serves known held ws → (a : ℕ) → listed known (map is ws) a ≡ true → wanted a ≡ true → listed held (map is (keep ws)) a ≡ true
    kept-listed [] known held s a t u = rw kept-none (s a t (needed-none a ∙ u))
    kept-listed (w ∷ ws) known held s a t u =
        by-test (need ws (is w).number)
        (λ n. rw (kept-yes w ws n) (kept-listed ws (more known (is w).number) (more held (is w).number) (serves-yes known held w ws s) a t u))
        (λ n. rw (kept-no w ws n) (kept-listed ws (more known (is w).number) held (serves-no known held w ws n s) a t u))

  -- from the solid on
  pub carried-kept : (rs : List Record) (outer : Cube) (base : ℕ → Bool) (ws : List R) (solid : ℕ) → Carried rs outer base (map is ws) solid
      → Carried rs outer base (map is (kept is uses (λ a. eqb a solid) ws)) solid
  carried-kept rs outer base ws solid c =
      record {
        holds = kept-true (λ a. eqb a solid) rs outer ws c.holds;
        closed = kept-closed (λ a. eqb a solid) ws base base c.closed (λ a t u. t);
        there = kept-listed (λ a. eqb a solid) ws base base (λ a t u. t) solid c.there (eq-eqb solid solid refl);
        same = c.same;
      }

map_same : (ws : List Word) → map (λ (w : Word). w) ws ≡ ws
map_same [] = refl
map_same (w ∷ ws) = ap (λ (l : List Word). w ∷ l) (map_same ws)

-- ---- records take their twins' places
either-read : {P : Type 0} (a b c : ℕ) → (eqb c a || eqb c b) ≡ true → (c ≡ a → P) → (c ≡ b → P) → P
either-read a b c t f g = by-test (eqb c a) (λ u. f (eqb-true c a u)) (λ u. g (eqb-true c b (ap (λ (x : Bool). x || eqb c b) (sym u) ∙ t)))

module _ (rs : List Record) (inner : Cube) where
  -- two records have one state over every cube inside
  abbrev Twin : ℕ → ℕ → Type 0
  Twin a b = (q : Cube) → CubeInside q inner → state_over rs q a ≡ state_over rs q b

  abbrev Twins : (ℕ → ℕ) → Type 0
  Twins twin = (a : ℕ) → Twin a (twin a)

  state-true : (n : ℕ) (r : Record) → TrueWithin rs inner (word n r) → (q : Cube) → CubeInside q inner → state_over rs q n ≡ (entry_by q (over rs q) (word n r)).state
  unfolding TrueWithin
  state-true n r t q k = ap (λ (x : Entry). x.state) (t q k)

  module _ (s : ℕ → State) (twin : ℕ → ℕ) (are : Twins twin) (n : ℕ) where
    module _ (a b : ℕ) (sa : s a ≡ state_over rs inner a) (sb : s b ≡ state_over rs inner b) where
      both-twin : TrueWithin rs inner (word n (Both a b)) → Twin n (twin_by s twin n (Both a b))
      unfolding entry_by state_with
      both-twin t q k =
          let e = state-true n (Both a b) t q k in
          by-test (is_in (s a))
          (λ u. rw u (e ∙ ap (λ (x : State). both_of x (state_over rs q b)) (stays-in q inner k rs a (sym sa ∙ is-in (s a) u)) ∙ both-in (state_over rs q b) ∙ are b q k))
          (λ u. by-test (is_in (s b))
          (λ v. rw (u, v) (e ∙ ap (both_of (state_over rs q a)) (stays-in q inner k rs b (sym sb ∙ is-in (s b) v)) ∙ in_both (state_over rs q a) ∙ are a q k))
          (λ v. rw (u, v)))

      either-twin : TrueWithin rs inner (word n (Either a b)) → Twin n (twin_by s twin n (Either a b))
      unfolding entry_by state_with
      either-twin t q k =
          let e = state-true n (Either a b) t q k in
          by-test (is_out (s a))
          (λ u. rw u (e ∙ ap (λ (x : State). either_of x (state_over rs q b)) (stays_out q inner k rs a (sym sa ∙ is-out (s a) u)) ∙ either-out (state_over rs q b) ∙ are b q k))
          (λ u. by-test (is_out (s b))
          (λ v. rw (u, v) (e ∙ ap (either_of (state_over rs q a)) (stays_out q inner k rs b (sym sb ∙ is-out (s b) v)) ∙ out-either (state_over rs q a) ∙ are a q k))
          (λ v. rw (u, v)))

    -- a record has the state of its twin
    twin-is : (r : Record) → TrueWithin rs inner (word n r) → ((a : ℕ) → reads r a ≡ true → s a ≡ state_over rs inner a) → Twin n (twin_by s twin n r)
    twin-is (Constant c) t h q k = refl
    twin-is X t h q k = refl
    twin-is Y t h q k = refl
    twin-is Z t h q k = refl
    twin-is (Sum a b) t h q k = refl
    twin-is (Difference a b) t h q k = refl
    twin-is (Product a b) t h q k = refl
    twin-is (Square a) t h q k = refl
    twin-is (Face by a) t h q k = refl
    twin-is (Both a b) t h q k = both-twin a b (h a (first_read a b)) (h b (second-read a b)) t q k
    twin-is (Either a b) t h q k = either-twin a b (h a (first_read a b)) (h b (second-read a b)) t q k
    twin-is (Complement a) t h q k = refl

    -- a word stays true with twins for its operands
    renamed-true : (r : Record) → TrueWithin rs inner (word n r) → TrueWithin rs inner (word n (renamed twin r))
    unfolding TrueWithin entry_by bounds_of state_with
    renamed-true (Constant c) t q k = t q k
    renamed-true X t q k = t q k
    renamed-true Y t q k = t q k
    renamed-true Z t q k = t q k
    renamed-true (Sum a b) t q k = t q k
    renamed-true (Difference a b) t q k = t q k
    renamed-true (Product a b) t q k = t q k
    renamed-true (Square a) t q k = t q k
    renamed-true (Face by a) t q k = t q k
    renamed-true (Both a b) t q k = t q k ∙ (λ i. record { bounds = none; state = both_of (are a q k i) (are b q k i) })
    renamed-true (Either a b) t q k = t q k ∙ (λ i. record { bounds = none; state = either_of (are a q k i) (are b q k i) })
    renamed-true (Complement a) t q k = t q k ∙ (λ i. record { bounds = none; state = complement_of (are a q k i) })

  twins-more : (s : ℕ → State) (twin : ℕ → ℕ) → Twins twin → (w : Word) → TrueWithin rs inner w → ((a : ℕ) → reads w.what a ≡ true → s a ≡ state_over rs inner a) → Twins (twin_after s twin w)
  unfolding put
  twins-more s twin are w t h a =
      by-test (eqb a w.number)
      (λ u. rw u (λ q k. ap (state_over rs q) (eqb-true a w.number u) ∙ twin-is s twin are w.number w.what t h q k))
      (λ u. rw u (are a))

-- ---- what is known stays known under its twin's number
abbrev Stays : (ℕ → Bool) → (ℕ → ℕ) → Type 0
Stays known twin = (a : ℕ) → known a ≡ true → known (twin a) ≡ true

module _ (s : ℕ → State) (known : ℕ → Bool) (twin : ℕ → ℕ) (stays : Stays known twin) (n : ℕ) where
  -- one of two
  one_known : (b c : Bool) (x y : ℕ) → known x ≡ true → known y ≡ true → more known n (cond b (twin x) (cond c (twin y) n)) ≡ true
  one_known true c x y h k = more-old known n (twin x) (stays x h)
  one_known false true x y h k = more-old known n (twin y) (stays y k)
  one_known false false x y h k = more-new known n

  twin-known : (r : Record) → Finds known (word n r) → more known n (twin_by s twin n r) ≡ true
  twin-known (Constant c) f = more-new known n
  twin-known X f = more-new known n
  twin-known Y f = more-new known n
  twin-known Z f = more-new known n
  twin-known (Sum a b) f = more-new known n
  twin-known (Difference a b) f = more-new known n
  twin-known (Product a b) f = more-new known n
  twin-known (Square a) f = more-new known n
  twin-known (Face by a) f = more-new known n
  twin-known (Both a b) f = one_known (is_in (s a)) (is_in (s b)) b a (f b (second-read a b)) (f a (first_read a b))
  twin-known (Either a b) f = one_known (is_out (s a)) (is_out (s b)) b a (f b (second-read a b)) (f a (first_read a b))
  twin-known (Complement a) f = more-new known n

  two-found : (a b : ℕ) → known a ≡ true → known b ≡ true → (c : ℕ) → (eqb c (twin a) || eqb c (twin b)) ≡ true → known c ≡ true
  two-found a b h k c u = either-read (twin a) (twin b) c u (λ i. ap known i ∙ stays a h) (λ i. ap known i ∙ stays b k)

  renamed-finds : (r : Record) → Finds known (word n r) → Finds known (word n (renamed twin r))
  renamed-finds (Constant c) f = f
  renamed-finds X f = f
  renamed-finds Y f = f
  renamed-finds Z f = f
  renamed-finds (Sum a b) f = f
  renamed-finds (Difference a b) f = f
  renamed-finds (Product a b) f = f
  renamed-finds (Square a) f = f
  renamed-finds (Face by a) f = f
  renamed-finds (Both a b) f = two-found a b (f a (first_read a b)) (f b (second-read a b))
  renamed-finds (Either a b) f = two-found a b (f a (first_read a b)) (f b (second-read a b))
  renamed-finds (Complement a) f = two-found a a (f a (first_read a a)) (f a (first_read a a))

stays-more : (s : ℕ → State) (known : ℕ → Bool) (twin : ℕ → ℕ) → Stays known twin → (w : Word) → Finds known w → Stays (more known w.number) (twin_after s twin w)
unfolding put
stays-more s known twin stays w f a t =
    more-either known w.number a t
    (λ i. rw (eq-eqb a w.number i) (twin-known s known twin stays w.number w.what f))
    (λ i j. rw i (more-old known w.number (twin a) (stays a j)))

-- ---- all words
module _ (rs : List Record) (inner : Cube) (s : ℕ → State) where
  abbrev Stated : (ℕ → Bool) → List Word → Type 0
  Stated known ws = (a : ℕ) → listed known ws a ≡ true → s a ≡ state_over rs inner a

  operands-stated : (known : ℕ → Bool) (w : Word) (ws : List Word) → Finds known w → Stated known (w ∷ ws) → (a : ℕ) → reads w.what a ≡ true → s a ≡ state_over rs inner a
  operands-stated known w ws f h a u = h a (listed-old ws (more known w.number) a (more-old known w.number a (f a u)))

  rename-true : (ws : List Word) (known : ℕ → Bool) (twin : ℕ → ℕ) → Twins rs inner twin → AllTrue rs inner ws → Closed known ws → Stated known ws → AllTrue rs inner (rename_all s twin ws)
  unfolding rename_all
  rename-true [] known twin are t c h = tt
  rename-true (w ∷ ws) known twin are t c h =
      (renamed-true rs inner s twin are w.number w.what t.0, rename-true ws (more known w.number) (twin_after s twin w) (twins-more rs inner s twin are w t.0 (operands-stated known w ws c.0 h)) t.1 c.1 h)

  twins-true : (ws : List Word) (known : ℕ → Bool) (twin : ℕ → ℕ) → Twins rs inner twin → AllTrue rs inner ws → Closed known ws → Stated known ws → Twins rs inner (twins s twin ws)
  unfolding twins
  twins-true [] known twin are t c h = are
  twins-true (w ∷ ws) known twin are t c h =
      twins-true ws (more known w.number) (twin_after s twin w) (twins-more rs inner s twin are w t.0 (operands-stated known w ws c.0 h)) t.1 c.1 h

  rename-closed : (ws : List Word) (known : ℕ → Bool) (twin : ℕ → ℕ) → Stays known twin → Closed known ws → Closed known (rename_all s twin ws)
  unfolding rename_all
  rename-closed [] known twin stays c = tt
  rename-closed (w ∷ ws) known twin stays c =
      (renamed-finds s known twin stays w.number w.what c.0, rename-closed ws (more known w.number) (twin_after s twin w) (stays-more s known twin stays w c.0) c.1)

  rename-listed : (ws : List Word) (known : ℕ → Bool) (twin : ℕ → ℕ) → Stays known twin → Closed known ws → (a : ℕ) → listed known ws a ≡ true → listed known (rename_all s twin ws) (twins s twin ws a) ≡ true
  unfolding rename_all twins
  rename-listed [] known twin stays c a t = stays a t
  rename-listed (w ∷ ws) known twin stays c a t =
      rename-listed ws (more known w.number) (twin_after s twin w) (stays-more s known twin stays w c.0) c.1 a t

  -- the tape with twins for operands
  pub carried-renamed : (base : ℕ → Bool) (ws : List Word) (solid : ℕ) → Carried rs inner base ws solid → Stated base ws → Carried rs inner base (rename_all s (λ a. a) ws) (shorter_solid s ws solid)
  carried-renamed base ws solid c h =
      record {
        holds = rename-true ws base (λ a. a) (λ a q k. refl) c.holds c.closed h;
        closed = rename-closed ws base (λ a. a) (λ a t. t) c.closed;
        there = rename-listed ws base (λ a. a) (λ a t. t) c.closed solid c.there;
        same = λ q k. sym (twins-true ws base (λ a. a) (λ a q k. refl) c.holds c.closed h solid q k) ∙ c.same q k;
      }

-- THE LAW. What is carried to a cube, shortened by the states over a cube inside it, may be carried down from there.
pub carried-shorter : (rs : List Record) (inner outer : Cube) → CubeInside inner outer → (base : ℕ → Bool) (ws : List Word) (solid : ℕ) → Carried rs outer base ws solid
    → (s : ℕ → State) → ((a : ℕ) → listed base ws a ≡ true → s a ≡ state_over rs inner a) → Carried rs inner base (shorter s ws solid) (shorter_solid s ws solid)
carried-shorter rs inner outer k base ws solid c s h =
    let twin = shorter_solid s ws solid in
    let renamed = rename_all s (λ a. a) ws in
    let r : Carried rs inner base renamed twin = carried-renamed rs inner s base ws solid (carried-inner rs inner outer k base ws solid c) h in
    let m : Carried rs inner base (map (λ (w : Word). w) renamed) twin = rw (map_same renamed) r in
    rw (map_same (shorter s ws solid)) at (carried-kept (λ w. w) (λ w. reads w.what) (λ w a t. t) rs inner base renamed twin m)

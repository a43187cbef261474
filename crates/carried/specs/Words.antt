-- What is carried down to the children of a cube: words, each an equation between entries that holds over every cube inside.
use Rattle.std.specs.Prelude.{ℕ, zero, suc, ◌-◌, ◌≡◌, Bool, true, false, cond, not, ◌&&◌, ◌||◌, List, [], ◌∷◌, ◌++◌, eqb, length, get_or}
use Rattle.interval.specs.declared.Interval.{Interval}
use Rattle.sheet.specs.declared.Record.{Record}
use Rattle.sheet.specs.declared.Record.TheVariants.{Constant, X, Y, Z, Sum, Difference, Product, Square, Face, Both, Either, Complement}
use Rattle.sheet.specs.declared.Sort.{Sort}
use Rattle.sheet.specs.declared.Sort.TheVariants.{Neither, Arithmetic, Logical}
use Rattle.sheet.specs.Operands.{sort_of, asked_of, first_of, second_of}
use Rattle.cube.specs.declared.Cube.{Cube}
use Rattle.cube.specs.Points.{CubeInside}
use Rattle.colour.specs.declared.State.{State}
use Rattle.colour.specs.Bounds.{bounds_of}
use Rattle.colour.specs.States.{is_in, is_out, state_of}
use Rattle.colour.specs.Entries.{Entry, blank, face_bounds, entries}

-- the entry of record n over a cube
abbrev pub over : List Record → Cube → ℕ → Entry
over rs q n = get_or (entries q rs) n blank

abbrev pub bounds_over : List Record → Cube → ℕ → Interval
bounds_over rs q n = (over rs q n).bounds

abbrev pub state_over : List Record → Cube → ℕ → State
state_over rs q n = (over rs q n).state

-- A word: the number of a record, and what the record is made of. The operands of a logical one may be others than the sheet's.
pub record Word : Type 0 where
  pub number : ℕ
  pub what : Record

-- what a word makes of entries that stand by number
unfoldable pub entry_by : Cube → (ℕ → Entry) → Word → Entry
entry_by q e w =
    let first = e (first_of w.what) in
    let second = e (second_of w.what) in
    record {
      bounds = bounds_of q first.bounds second.bounds w.what;
      state = state_of w.number (face_bounds q first) first.state second.state w.what;
    }

-- A word is true within a cube: over every cube inside, its record's entry is what the word makes of the entries of its operands.
unfoldable pub TrueWithin : List Record → Cube → Word → Type 0
TrueWithin rs outer w = (q : Cube) → CubeInside q outer → over rs q w.number ≡ entry_by q (over rs q) w

abbrev pub AllTrue : List Record → Cube → List Word → Type 0
AllTrue rs outer [] = Unit {0}
AllTrue rs outer (w ∷ ws) = TrueWithin rs outer w × AllTrue rs outer ws

-- whether a record of this kind has operands
abbrev pub has_operands : Sort → Bool
has_operands Neither = false
has_operands Arithmetic = true
has_operands Logical = true

-- whether a is an operand
abbrev pub reads : Record → ℕ → Bool
reads r a = has_operands (asked_of r) && (eqb a (first_of r) || eqb a (second_of r))

-- the numbers of a set, and one more
unfoldable pub more : (ℕ → Bool) → ℕ → ℕ → Bool
more known n a = known a || eqb a n

-- each operand of each word is known, or is the number of an earlier word
abbrev pub Finds : (ℕ → Bool) → Word → Type 0
Finds known w = (a : ℕ) → reads w.what a ≡ true → known a ≡ true

abbrev pub Closed : (ℕ → Bool) → List Word → Type 0
Closed known [] = Unit {0}
Closed known (w ∷ ws) = Finds known w × Closed (more known w.number) ws

-- what is known once the words are worked out
abbrev pub listed : (ℕ → Bool) → List Word → ℕ → Bool
listed known [] = known
listed known (w ∷ ws) = listed (more known w.number) ws

-- What is carried down from a cube: words that are true within it and can be worked out in their order, and the number of a record whose state is the solid's.
pub record Carried (rs : List Record) (outer : Cube) (base : ℕ → Bool) (ws : List Word) (solid : ℕ) : Type 0 where
  pub holds : AllTrue rs outer ws
  pub closed : Closed base ws
  pub there : listed base ws solid ≡ true
  pub same : (q : Cube) → CubeInside q outer → state_over rs q solid ≡ state_over rs q (length rs - 1)

-- ---- working a tape out over a cube
-- entries that stand by number, with one put in its place
unfoldable pub put : {A : Type 0} → (ℕ → A) → ℕ → A → ℕ → A
put e n v a = cond (eqb a n) v (e a)

unfoldable pub run : Cube → (ℕ → Entry) → List Word → ℕ → Entry
run q e [] = e
run q e (w ∷ ws) = run q (put e w.number (entry_by q e w)) ws

-- ---- shortening a tape by the states over a cube
-- whose state record n's is: that of its other operand, where one leaves it as it is; `twin` has it for earlier records
abbrev pub twin_by : (ℕ → State) → (ℕ → ℕ) → ℕ → Record → ℕ
twin_by s twin n (Constant c) = n
twin_by s twin n X = n
twin_by s twin n Y = n
twin_by s twin n Z = n
twin_by s twin n (Sum a b) = n
twin_by s twin n (Difference a b) = n
twin_by s twin n (Product a b) = n
twin_by s twin n (Square a) = n
twin_by s twin n (Face by a) = n
twin_by s twin n (Both a b) = cond (is_in (s a)) (twin b) (cond (is_in (s b)) (twin a) n)
twin_by s twin n (Either a b) = cond (is_out (s a)) (twin b) (cond (is_out (s b)) (twin a) n)
twin_by s twin n (Complement a) = n

-- a record with its twins for its logical operands
abbrev pub renamed : (ℕ → ℕ) → Record → Record
renamed twin (Constant c) = Constant c
renamed twin X = X
renamed twin Y = Y
renamed twin Z = Z
renamed twin (Sum a b) = Sum a b
renamed twin (Difference a b) = Difference a b
renamed twin (Product a b) = Product a b
renamed twin (Square a) = Square a
renamed twin (Face by a) = Face by a
renamed twin (Both a b) = Both (twin a) (twin b)
renamed twin (Either a b) = Either (twin a) (twin b)
renamed twin (Complement a) = Complement (twin a)

abbrev pub twin_after : (ℕ → State) → (ℕ → ℕ) → Word → ℕ → ℕ
twin_after s twin w = put twin w.number (twin_by s twin w.number w.what)

abbrev pub word : ℕ → Record → Word
word n r = record { number = n; what = r }

unfoldable pub rename_all : (ℕ → State) → (ℕ → ℕ) → List Word → List Word
rename_all s twin [] = []
rename_all s twin (w ∷ ws) = word w.number (renamed twin w.what) ∷ rename_all s (twin_after s twin w) ws

-- the twins once all words are renamed
unfoldable pub twins : (ℕ → State) → (ℕ → ℕ) → List Word → ℕ → ℕ
twins s twin [] = twin
twins s twin (w ∷ ws) = twins s (twin_after s twin w) ws

-- Words as they stand in memory, of any type R: the word that each is, and the numbers that it uses, its operands at least.
module _ {R : Type 0} (is : R → Word) (uses : R → ℕ → Bool) where
  -- the numbers that are needed, from the last word to the first: those of a set, and what each word uses that is needed
  unfoldable pub needed : (ℕ → Bool) → List R → ℕ → Bool
  needed wanted [] = wanted
  needed wanted (w ∷ ws) = λ a. needed wanted ws a || (needed wanted ws (is w).number && uses w a)

  -- the words that are needed
  unfoldable pub kept : (ℕ → Bool) → List R → List R
  kept wanted [] = []
  kept wanted (w ∷ ws) = cond (needed wanted ws (is w).number) (w ∷ kept wanted ws) (kept wanted ws)

-- the tape for the cubes inside a cube over which the records have these states, and whose state the solid's then is
abbrev pub shorter_solid : (ℕ → State) → List Word → ℕ → ℕ
shorter_solid s ws solid = twins s (λ a. a) ws solid

abbrev pub shorter : (ℕ → State) → List Word → ℕ → List Word
shorter s ws solid = kept (λ w. w) (λ w. reads w.what) (λ a. eqb a (shorter_solid s ws solid)) (rename_all s (λ a. a) ws)

-- ---- what is carried to the root
-- record n's own word
abbrev pub own_word : List Record → ℕ → Word
own_word rs n = word n (get_or rs n X)

-- the words of the first n records, those that are chosen
unfoldable pub chosen : (Word → Bool) → List Record → ℕ → List Word
chosen p rs zero = []
chosen p rs (suc n) = chosen p rs n ++ cond (p (own_word rs n)) (own_word rs n ∷ []) []

abbrev pub is_logical : Sort → Bool
is_logical Neither = false
is_logical Arithmetic = false
is_logical Logical = true

-- the arithmetic records but those whose entries are in place already, then the logical ones
abbrev pub is_worked : (ℕ → Bool) → Word → Bool
is_worked base w = not (is_logical (sort_of w.what)) && not (base w.number)

abbrev pub is_stated : Word → Bool
is_stated w = is_logical (sort_of w.what)

abbrev pub first_words : (ℕ → Bool) → List Record → List Word
first_words base rs = chosen (is_worked base) rs (length rs) ++ chosen is_stated rs (length rs)

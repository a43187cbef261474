-- What is lent down to the children of a cube: a tape, and the places of the records' entries. Only inner contracts cite this.
use Rattle.std.specs.Prelude.{ℕ, ◌<◌, ◌≡◌, Bool, true, false, List, [], ◌∷◌, ℤ, length, get_or, drop}
use Rattle.interval.specs.declared.Interval.{Interval}
use Rattle.interval.specs.Rules.{only}
use Rattle.sheet.specs.declared.Record.{Record}
use Rattle.sheet.specs.declared.Record.TheVariants.{Constant, X, Y, Z, Sum, Difference, Product, Square, Face, Both, Either, Complement}
use Rattle.cube.specs.declared.Cube.{Cube}
use Rattle.colour.specs.declared.State.TheVariants.{Mixed}
use Rattle.colour.specs.Bounds.{none}
use Rattle.colour.specs.declared.State.{State}
use Rattle.colour.specs.declared.Entries.{Entries}
use Rattle.carried.specs.Words.{state_over, listed, Carried}
use Rattle.carried.specs.Words as carried
use Rattle.tape.specs.declared.Tape.{Tape}
use Rattle.tape.specs.declared.Word.{Word}
use Rattle.tape.specs.Memory.{words_in, bounds_in, state_in}
use Rattle.tape.specs.Working.{OfSort}
use Rattle.tape.specs.Shortening.{Parts}

-- What a walk over cubes works with: the words of its tapes, and what is known of each record over the cube at hand.
pub record Work : Type 0 where
  pub words : List Word
  pub known : Entries

abbrev pub work : List Word → Entries → Work
work words known = record { words = words; known = known }

-- Constants are the same over every cube, so their entries are put in place once and are on no tape.
abbrev pub is_constant : Record → Bool
is_constant (Constant c) = true
is_constant X = false
is_constant Y = false
is_constant Z = false
is_constant (Sum a b) = false
is_constant (Difference a b) = false
is_constant (Product a b) = false
is_constant (Square a) = false
is_constant (Face by a) = false
is_constant (Both a b) = false
is_constant (Either a b) = false
is_constant (Complement a) = false

module _ (rs : List Record) where
  abbrev pub in_place : ℕ → Bool
  in_place a = is_constant (get_or rs a X)

  -- The entries of records have their places by number. A logical record has no bounds, nothing is said of an arithmetic one, and constants are in place.
  pub record Lent (entries : List Interval) (colours : List State) : Type 0 where
    pub bounds : (a : ℕ) → a < length rs → OfSort true (get_or rs a X) → bounds_in entries a ≡ none
    pub states : (a : ℕ) → a < length rs → OfSort false (get_or rs a X) → state_in colours a ≡ Mixed
    pub constants : (a : ℕ) (c : ℤ) → get_or rs a X ≡ Constant c → bounds_in entries a ≡ only c

  -- words of records of one sort
  abbrev pub AllIn : Bool → List carried.Word → Type 0
  AllIn logical [] = Unit {0}
  AllIn logical (w ∷ ws) = OfSort logical w.what × OfSort logical (get_or rs w.number X) × (w.number < length rs) × AllIn logical ws

  -- a tape is what is carried down from a cube
  pub record Carries (q : Cube) (tape : List Word) (t : Tape) : Type 0 where
    pub parts : Parts tape t.from t.mid t.to
    pub works : AllIn false (words_in tape t.from t.mid)
    pub states : AllIn true (words_in tape t.mid t.to)
    pub carried : Carried rs q in_place (words_in tape t.from t.to) t.solid

  -- what is carried to the root: it is right over every cube
  abbrev pub Starts : List Word → Tape → Type 0
  Starts tape t = (q : Cube) → Carries q tape t

  -- the records of a tape have their states over a cube
  abbrev pub Stand : Cube → List Word → Tape → List State → Type 0
  Stand q tape t colours = (a : ℕ) → listed in_place (words_in tape t.from t.to) a ≡ true → state_in colours a ≡ state_over rs q a

  -- what `Lent` says, of what a walk works with
  abbrev pub LentTo : Work → Type 0
  LentTo w = Lent w.known.bounds w.known.states

-- the words from a place on are as they were
pub record Stays (from : ℕ) (tape₀ tape : List Word) : Type 0 where
  pub same : length tape ≡ length tape₀
  pub after : drop from tape ≡ drop from tape₀

-- The words of a sheet's own records, as they are listed in memory. Only inner contracts cite this.
use Rattle.std.specs.Prelude.{ℕ, ◌+◌, ◌<◌, ◌≡◌, Bool, cond, not, ◌&&◌, List, Option, Some, None, ℤ, pos, length, get_or, take}
use Rattle.sheet.specs.declared.Comparison.TheVariants.{AtMost, LessThan}
use Rattle.sheet.specs.declared.Record.{Record}
use Rattle.sheet.specs.declared.Record.TheVariants.{Constant, X, Y, Z, Sum, Difference, Product, Square, Face, Both, Either, Complement}
use Rattle.sheet.specs.Operands.{sort_of, first_of, second_of}
use Rattle.interval.specs.declared.Interval.{Interval}
use Rattle.interval.specs.Rules.{only}
use Rattle.colour.specs.declared.State.{State}
use Rattle.colour.specs.declared.State.TheVariants.{Mixed}
use Rattle.carried.specs.Words.{is_logical}
use Rattle.carried.specs.Words as carried
use Rattle.tape.specs.declared.Kind.{Kind}
use Rattle.tape.specs.declared.Kind.TheVariants as kind
use Rattle.tape.specs.declared.Word.{Word}
use Rattle.tape.specs.Memory.{words_in, bounds_in, state_in}
use Rattle.tape.specs.Lent.{is_constant}

-- what a record's word is made of; a constant has no word
abbrev pub kind_of : Record → Option Kind
kind_of (Constant c) = None
kind_of X = Some kind.X
kind_of Y = Some kind.Y
kind_of Z = Some kind.Z
kind_of (Sum a b) = Some kind.Sum
kind_of (Difference a b) = Some kind.Difference
kind_of (Product a b) = Some kind.Product
kind_of (Square a) = Some kind.Square
kind_of (Face AtMost a) = Some kind.AtMost
kind_of (Face LessThan a) = Some kind.LessThan
kind_of (Both a b) = Some kind.Both
kind_of (Either a b) = Some kind.Either
kind_of (Complement a) = Some kind.Complement

abbrev pub word_with : ℕ → Record → Option Kind → Option Word
word_with n r None = None
word_with n r (Some k) = Some (record { number = n; first = first_of r; second = second_of r; kind = k })

-- the word of record n, which is r
abbrev pub word_of : ℕ → Record → Option Word
word_of n r = word_with n r (kind_of r)

-- the words of logical records, or of arithmetic ones but constants
abbrev pub listed_of : Bool → carried.Word → Bool
listed_of logical w = cond logical (is_logical (sort_of w.what)) (not (is_logical (sort_of w.what)) && not (is_constant w.what))

-- what `list` leaves: the words at from..r, and what is before them unchanged
pub record Listed (ws : List carried.Word) (from : ℕ) (tape₀ tape : List Word) (r : ℕ) : Type 0 where
  pub ends : r ≡ from + length ws
  pub same : length tape ≡ length tape₀
  pub before : take from tape ≡ take from tape₀
  pub words : words_in tape from r ≡ ws

-- the number that a record's bounds begin as
abbrev pub start_of : Record → ℤ
start_of (Constant c) = c
start_of X = pos 0
start_of Y = pos 0
start_of Z = pos 0
start_of (Sum a b) = pos 0
start_of (Difference a b) = pos 0
start_of (Product a b) = pos 0
start_of (Square a) = pos 0
start_of (Face by a) = pos 0
start_of (Both a b) = pos 0
start_of (Either a b) = pos 0
start_of (Complement a) = pos 0

-- what `place` leaves
pub record Placed (rs : List Record) (bounds : List Interval) (colours : List State) : Type 0 where
  pub each : (a : ℕ) → a < length rs → bounds_in bounds a ≡ only (start_of (get_or rs a X))
  pub mixed : (a : ℕ) → a < length rs → state_in colours a ≡ Mixed

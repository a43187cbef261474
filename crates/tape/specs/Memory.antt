-- A tape in memory: words of four bytes, and where the entries of records are held. Only inner contracts cite this.
use Rattle.std.specs.Prelude.{ℕ, Bool, ◌||◌, List, map, eqb, get_or}
use Rattle.std.proofs.Math.Seq.{slice}
use Rattle.interval.specs.declared.Interval.{Interval}
use Rattle.sheet.specs.declared.Comparison.TheVariants.{AtMost, LessThan}
use Rattle.sheet.specs.declared.Record.{Record}
use Rattle.sheet.specs.declared.Record.TheVariants.{X, Y, Z, Sum, Difference, Product, Square, Face, Both, Either, Complement}
use Rattle.sheet.specs.Operands.{sort_of}
use Rattle.colour.specs.declared.State.{State}
use Rattle.colour.specs.declared.State.TheVariants.{Out}
use Rattle.colour.specs.Bounds.{none}
use Rattle.carried.specs.Words.{word, is_logical}
use Rattle.carried.specs.Words as carried
use Rattle.tape.specs.declared.Kind.{Kind}
use Rattle.tape.specs.declared.Kind.TheVariants as kind
use Rattle.tape.specs.declared.Word.{Word}

-- the record that a word of this kind makes of its operands
abbrev pub record_by : Kind → ℕ → ℕ → Record
record_by kind.X a b = X
record_by kind.Y a b = Y
record_by kind.Z a b = Z
record_by kind.Sum a b = Sum a b
record_by kind.Difference a b = Difference a b
record_by kind.Product a b = Product a b
record_by kind.Square a b = Square a
record_by kind.AtMost a b = Face AtMost a
record_by kind.LessThan a b = Face LessThan a
record_by kind.Both a b = Both a b
record_by kind.Either a b = Either a b
record_by kind.Complement a b = Complement a

-- whether a record of this kind is logical
abbrev pub has_state : Kind → Bool
has_state k = is_logical (sort_of (record_by k 0 0))

-- the record of a word in memory
abbrev pub record_in : Word → Record
record_in w = record_by w.kind w.first w.second

abbrev pub word_in : Word → carried.Word
word_in w = word w.number (record_in w)

-- the words at from..to
abbrev pub words_in : List Word → ℕ → ℕ → List carried.Word
words_in tape from to = map word_in (slice from to tape)

-- the numbers that a word uses, its operands at least
abbrev pub uses_in : Word → ℕ → Bool
uses_in w a = eqb a w.first || eqb a w.second

-- the bounds of record a, and its state
abbrev pub bounds_in : List Interval → ℕ → Interval
bounds_in bounds a = get_or bounds a none

abbrev pub state_in : List State → ℕ → State
state_in colours a = get_or colours a Out

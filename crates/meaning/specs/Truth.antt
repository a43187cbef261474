-- What the records of a sheet are at a point: an arithmetic one has a value, a logical one holds or does not.
use Rattle.std.specs.Prelude.{ℕ, ◌+◌, ◌-◌, ◌^◌, Bool, false, not, ◌&&◌, ◌||◌, List, ℤ, pos, ◌+ℤ◌, ◌-ℤ◌, ◌*ℤ◌, length, get_or}
use Rattle.std.specs.Int.Signed.{le_z, lt_z}
use Rattle.sheet.specs.declared.Comparison.{Comparison}
use Rattle.sheet.specs.declared.Comparison.TheVariants.{AtMost, LessThan}
use Rattle.sheet.specs.declared.Record.{Record}
use Rattle.sheet.specs.declared.Record.TheVariants.{Constant, X, Y, Z, Sum, Difference, Product, Square, Face, Both, Either, Complement}
use Rattle.sheet.specs.Operands.{first_of, second_of}
use Rattle.sheet.specs.Along.{along}
use Rattle.meaning.specs.Fractions.{FractionalPoint}

-- The value of an arithmetic record is a whole numerator over a power of n.
pub record Value : Type 0 where
  pub numerator : ℤ
  pub power : ℕ

abbrev pub over : ℤ → ℕ → Value
over a k = record { numerator = a; power = k }

-- the numerator of a value, over k more powers of n
abbrev pub raised : ℕ → Value → ℕ → ℤ
raised n v k = v.numerator *ℤ pos (n ^ k)

abbrev pub plus : ℕ → Value → Value → Value
plus n v w = over (raised n v w.power +ℤ raised n w v.power) (v.power + w.power)

abbrev pub minus : ℕ → Value → Value → Value
minus n v w = over (raised n v w.power -ℤ raised n w v.power) (v.power + w.power)

abbrev pub times : Value → Value → Value
times v w = over (v.numerator *ℤ w.numerator) (v.power + w.power)

-- n is positive, so a value is at most 0, or less than 0, exactly if its numerator is
abbrev pub satisfies : Comparison → Value → Bool
satisfies AtMost v = le_z v.numerator (pos 0)
satisfies LessThan v = lt_z v.numerator (pos 0)

-- what a record is at a point
pub record Meaning : Type 0 where
  pub value : Value
  pub holds : Bool

-- the default value, for a record that has none: a logical one, or a missing one
abbrev pub zero : Value
zero = over (pos 0) 0

-- the default for a missing record; it holds nowhere
abbrev pub absent : Meaning
absent = record { value = zero; holds = false }

-- the value of a record at a point, where v and w are those of its operands
unfoldable pub value_of : FractionalPoint → Value → Value → Record → Value
value_of p v w (Constant c) = over c 0
value_of p v w X = over p.x 1
value_of p v w Y = over p.y 1
value_of p v w Z = over p.z 1
value_of p v w (Sum a b) = plus p.n v w
value_of p v w (Difference a b) = minus p.n v w
value_of p v w (Product a b) = times v w
value_of p v w (Square a) = times v v
value_of p v w (Face by a) = zero
value_of p v w (Both a b) = zero
value_of p v w (Either a b) = zero
value_of p v w (Complement a) = zero

-- Whether a record holds, where v is the value of its first operand, and s and t say whether its operands hold. Face: a is at most 0, so that a point on a face
-- satisfies it; in version 2 sheets less than 0, so that it does not. Both, either and complement have their plain meanings.
unfoldable pub holds_of : Value → Bool → Bool → Record → Bool
holds_of v s t (Constant c) = false
holds_of v s t X = false
holds_of v s t Y = false
holds_of v s t Z = false
holds_of v s t (Sum a b) = false
holds_of v s t (Difference a b) = false
holds_of v s t (Product a b) = false
holds_of v s t (Square a) = false
holds_of v s t (Face by a) = satisfies by v
holds_of v s t (Both a b) = s && t
holds_of v s t (Either a b) = s || t
holds_of v s t (Complement a) = not s

-- what a record is, from what the records before it are
unfoldable pub meaning_of : FractionalPoint → List Meaning → Record → Meaning
meaning_of p before r =
    let first = get_or before (first_of r) absent in
    let second = get_or before (second_of r) absent in
    record {
      value = value_of p first.value second.value r;
      holds = holds_of first.value first.holds second.holds r;
    }

abbrev pub meanings : FractionalPoint → List Record → List Meaning
meanings p = along (meaning_of p)

-- whether record i holds at a point
unfoldable pub holds_at : List Record → ℕ → FractionalPoint → Bool
holds_at rs i p = (get_or (meanings p rs) i absent).holds

-- The last record is the solid: whether a point is inside it.
unfoldable pub in_solid : List Record → FractionalPoint → Bool
in_solid rs p = holds_at rs (length rs - 1) p

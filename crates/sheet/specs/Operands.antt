-- What a record requires of its operands, and the first record whose operands do not meet it.
use Rattle.std.specs.Prelude.{ℕ, Bool, true, false, cond, ◌&&◌, List, [], ◌∷◌, ◌++◌, length, get_or}
use Rattle.sheet.specs.declared.Record.{Record}
use Rattle.sheet.specs.declared.Record.TheVariants.{Constant, X, Y, Z, Sum, Difference, Product, Square, Face, Both, Either, Complement}
use Rattle.sheet.specs.declared.Sort.{Sort}
use Rattle.sheet.specs.declared.Sort.TheVariants.{Neither, Arithmetic, Logical}

-- Kinds 1 to 8 are arithmetic; 16 to 19 are logical.
abbrev pub sort_of : Record → Sort
sort_of (Constant c) = Arithmetic
sort_of X = Arithmetic
sort_of Y = Arithmetic
sort_of Z = Arithmetic
sort_of (Sum a b) = Arithmetic
sort_of (Difference a b) = Arithmetic
sort_of (Product a b) = Arithmetic
sort_of (Square a) = Arithmetic
sort_of (Face by a) = Logical
sort_of (Both p q) = Logical
sort_of (Either p q) = Logical
sort_of (Complement p) = Logical

-- Operands of kinds 5 to 8 and 16 are arithmetic; of 17 to 19, logical. (The others have none.)
abbrev pub asked_of : Record → Sort
asked_of (Constant c) = Neither
asked_of X = Neither
asked_of Y = Neither
asked_of Z = Neither
asked_of (Sum a b) = Arithmetic
asked_of (Difference a b) = Arithmetic
asked_of (Product a b) = Arithmetic
asked_of (Square a) = Arithmetic
asked_of (Face by a) = Arithmetic
asked_of (Both a b) = Logical
asked_of (Either a b) = Logical
asked_of (Complement a) = Logical

-- the number of the first operand; 0 if there is none
abbrev pub first_of : Record → ℕ
first_of (Constant c) = 0
first_of X = 0
first_of Y = 0
first_of Z = 0
first_of (Sum a b) = a
first_of (Difference a b) = a
first_of (Product a b) = a
first_of (Square a) = a
first_of (Face by a) = a
first_of (Both a b) = a
first_of (Either a b) = a
first_of (Complement a) = a

-- the number of the last operand; 0 if there is none
abbrev pub second_of : Record → ℕ
second_of (Constant c) = 0
second_of X = 0
second_of Y = 0
second_of Z = 0
second_of (Sum a b) = b
second_of (Difference a b) = b
second_of (Product a b) = b
second_of (Square a) = a
second_of (Face by a) = a
second_of (Both a b) = b
second_of (Either a b) = b
second_of (Complement a) = a

-- whether the required sort is met by a record of a given sort; Neither is required of no operand
abbrev pub suits : Sort → Sort → Bool
suits Neither sort = true
suits Arithmetic Neither = false
suits Arithmetic Arithmetic = true
suits Arithmetic Logical = false
suits Logical Neither = false
suits Logical Arithmetic = false
suits Logical Logical = true

abbrev pub are_met : Sort → Sort → Sort → Bool
are_met asked first second = suits asked first && suits asked second

-- each operand of the record is an earlier record of the right sort: `sorts` lists those of the earlier records, and a missing record has sort Neither
abbrev pub is_met : List Sort → Record → Bool
is_met sorts r = are_met (asked_of r) (get_or sorts (first_of r) Neither) (get_or sorts (second_of r) Neither)

-- the number of the first record whose operands are not met; if all are met, the number of records
unfoldable pub first_unmet : List Sort → List Record → ℕ
first_unmet sorts [] = length sorts
first_unmet sorts (r ∷ rs) = cond (is_met sorts r) (first_unmet (sorts ++ sort_of r ∷ []) rs) (length sorts)

-- the sort of the last record; Neither if there is none
unfoldable pub last_sort : List Record → Sort
last_sort [] = Neither
last_sort (r ∷ []) = sort_of r
last_sort (r ∷ next ∷ rs) = last_sort (next ∷ rs)

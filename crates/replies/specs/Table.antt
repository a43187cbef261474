-- The table of replies: the code of each refusal, and the number returned with it, in the order of test.
use Rattle.std.specs.Prelude.{ℕ, ◌+◌, ◌*◌, List, [], ◌∷◌, Result, Err, Ok}
use Rattle.replies.specs.declared.End.{End}
use Rattle.replies.specs.declared.End.TheVariants.{Low, High}
use Rattle.replies.specs.declared.Over.{Over}
use Rattle.replies.specs.declared.Refusal.{Refusal}
use Rattle.replies.specs.declared.Refusal.TheVariants.{Length, Version, Record, Operand, Solid, Limits, Map, OverRoot, Short, NotInRoot}

abbrev pub code_of : Refusal → ℕ
code_of Length = 1
code_of Version = 2
code_of (Record at) = 3
code_of (Operand n) = 4
code_of (Solid n) = 5
code_of Limits = 6
code_of (Map at) = 9
code_of (OverRoot o) = 7
code_of (Short n) = 8
code_of NotInRoot = 10

-- record n with the end of its bounds that passes the limit
abbrev pub over : ℕ → End → Over
over n end = record { index = n; end = end }

-- twice the record's number, plus 1 for the high end
abbrev pub with_end : ℕ → End → ℕ
with_end twice Low = twice
with_end twice High = twice + 1

abbrev pub over_number : Over → ℕ
over_number o = with_end (2 * o.index) o.end

abbrev pub number_of : Refusal → ℕ
number_of Length = 0
number_of Version = 0
number_of (Record at) = at
number_of (Operand n) = n
number_of (Solid n) = n
number_of Limits = 0
number_of (Map at) = at
number_of (OverRoot o) = over_number o
number_of (Short n) = n
number_of NotInRoot = 0

-- what a call returns: a number, such as that of records, leaves or bytes, or why it refuses
abbrev pub Reply : Type 0
Reply = Result ℕ Refusal

-- the refusal of a reply, if it is one
abbrev pub refusal_of : Reply → List Refusal
refusal_of (Ok n) = []
refusal_of (Err why) = why ∷ []

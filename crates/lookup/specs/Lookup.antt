-- Looking a position up: the reply, and the answer of a leaf.
use Rattle.std.specs.Prelude.{ℕ, Bool, cond, not, List, eqb, get_or, Err, Ok, Result}
use Rattle.integers.specs.First.{on_first}
use Rattle.replies.specs.declared.Refusal.{Refusal}
use Rattle.replies.specs.declared.Refusal.TheVariants.{OverRoot, NotInRoot}
use Rattle.replies.specs.Table.{Reply as Counted}
use Rattle.sheet.specs.declared.Record.{Record}
use Rattle.sheet.specs.Records.{records_of}
use Rattle.cube.specs.declared.Point.{Point}
use Rattle.cube.specs.Cubes.{root_cube}
use Rattle.cube.specs.Points.{holds_point, point_cube, place_of}
use Rattle.zonemap.specs.declared.Leaf.{Leaf}
use Rattle.zonemap.specs.Opening.{root_of, leaf_in, offset_at}
use Rattle.colour.specs.States.{is_in}
use Rattle.colour.specs.Entries.{blank, entries, first_past}
use Rattle.pair.specs.Pairs.{pair_refusal}
use Rattle.lookup.specs.declared.Answer.{Answer}
use Rattle.lookup.specs.declared.Answer.TheVariants.{Outside, Inside, Undecided}

-- A face at a point. A point is a cube of side 0, over which bounds are exact: the face's operand there meets its comparison with 0 exactly if its state is In.
unfoldable pub face_holds : List Record → ℕ → Point → Bool
face_holds rs f p = is_in (get_or (entries (point_cube p) rs) f blank).state

abbrev pub side_of : Bool → Answer
side_of holds = cond holds Inside Outside

-- White answers 0, black 1, gray 2. Terminal works out its face exactly at the point; class 3 turns the answer over.
unfoldable pub answer_of : List Record → Leaf → Point → Answer
answer_of rs l p =
    cond (eqb l.class 0) Outside
    (cond (eqb l.class 1) Inside
    (cond (eqb l.class 2) (side_of (face_holds rs l.face p))
    (cond (eqb l.class 3) (side_of (not (face_holds rs l.face p)))
    Undecided)))

-- the leaf of a map that holds a point
unfoldable pub leaf_holding : List ℕ → Point → Leaf
leaf_holding map p = leaf_in map (offset_at map (place_of (root_of map) p))

-- what looking up returns: where the position lies, or why it refuses
abbrev pub Reply : Type 0
Reply = Result Answer Refusal

-- from reply 10 on
unfoldable pub point_reply : List Record → List ℕ → Point → Reply
point_reply rs map p = cond (not (holds_point (root_cube (root_of map)) p)) (Err NotInRoot) (Ok (answer_of rs (leaf_holding map p) p))

-- looking up by the table of replies, row by row: 1 to 5 and 9, then 7, then 10
unfoldable pub lookup_of : List ℕ → List ℕ → Point → Reply
lookup_of s map p =
    on_first (pair_refusal s map) Err
    (on_first (first_past (records_of s) (root_cube (root_of map))) (λ o. Err (OverRoot o))
    (point_reply (records_of s) map p))

-- lookup: 0 outside, 1 inside, 2 undecided
abbrev pub answer_number : Answer → ℕ
answer_number Outside = 0
answer_number Inside = 1
answer_number Undecided = 2

-- the reply with its answer as a number
abbrev pub numbered : Reply → Counted
numbered (Ok answer) = Ok (answer_number answer)
numbered (Err why) = Err why

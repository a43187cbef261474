-- A zone sheet with a zone map: replies 1 to 5 and 9, and what is known of the two if no row refuses them.
use Rattle.std.specs.Prelude.{List, [], ◌∷◌, ℕ, length, Err, Ok, Result}
use Rattle.integers.specs.First.{on_first}
use Rattle.replies.specs.declared.Refusal.{Refusal}
use Rattle.replies.specs.declared.Refusal.TheVariants.{Map}
use Rattle.replies.specs.Table.{refusal_of}
use Rattle.sheet.specs.Records.{records_of}
use Rattle.sheet.specs.Check.{check_of}
use Rattle.records.specs.Faces.{has_face}
use Rattle.cube.specs.declared.Point.{Point}
use Rattle.zonemap.specs.Opening.{root_of, fault_of, offset_at, place_or_first}
use Rattle.pair.specs.declared.Pair.{Pair}

-- the first refusal, if there is one: rows 1 to 5 for the sheet, then row 9: the map doesn't open, or a terminal leaf names a record that isn't a face of
-- the sheet
unfoldable pub pair_refusal : List ℕ → List ℕ → List Refusal
pair_refusal s map =
    on_first (refusal_of (check_of s)) (λ why. why ∷ [])
    (on_first (fault_of (has_face (records_of s)) map) (λ at. Map at ∷ [])
    [])

-- the number of records, the root, and the offset of the leaf that holds a point, or of the first leaf if the point is outside the root
abbrev pub pair_of : List ℕ → List ℕ → Point → Pair
pair_of s map p = record { count = length (records_of s); root = root_of map; at = offset_at map (place_or_first (root_of map) p) }

unfoldable pub opened_of : List ℕ → List ℕ → Point → Result Pair Refusal
opened_of s map p = on_first (pair_refusal s map) Err (Ok (pair_of s map p))

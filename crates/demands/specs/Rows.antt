-- Worked rows, as lists: document 01's eleven that are marked P, its row of the limit with both ends, and rows of requests 2026-03, 2026-07 and 2026-01.
use Rattle.std.specs.Prelude.{◌≡◌, List, [], ◌∷◌, ◌++◌, ℕ, ◌+◌, ◌*◌, ◌^◌, ◌≤◌, ℤ, pos, negsuc, length, drop}
use Rattle.interval.specs.Rules.{from, only}
use Rattle.sheet.specs.declared.Comparison.{Comparison}
use Rattle.sheet.specs.declared.Comparison.TheVariants.{AtMost, LessThan}
use Rattle.sheet.specs.declared.Record.{Record}
use Rattle.sheet.specs.declared.Record.TheVariants.{Constant, X, Sum, Difference, Product, Square, Face, Both, Either, Complement}
use Rattle.sheet.specs.Records.{records_of}
use Rattle.sheet.specs.StepRoom.{step_sheet, strict_sheet}
use Rattle.cube.specs.declared.Root.{Root}
use Rattle.cube.specs.declared.Cube.{Cube}
use Rattle.cube.specs.declared.Point.{Point}
use Rattle.cube.specs.Cubes.{root_cube}
use Rattle.colour.specs.declared.State.TheVariants.{Out, In, Single}
use Rattle.colour.specs.States.{face_state}
use Rattle.zonemap.specs.declared.Leaf.{Leaf}
use Rattle.zonemap.specs.Map.{map_of}
use Rattle.zonemap.specs.Opening.{leaves_of}
use Rattle.zonemap.specs.StepRoom.{step_root, step_map, strict_map}
use Rattle.tree.specs.Solid.{solid_state}
use Rattle.lookup.specs.Lookup.{leaf_holding}
use Rattle.zone.specs.Replies.{reply, ZoneOutcome, zone_outcome, zone_build_of, zone_refine_of, zone_lookup_of}
use Rattle.demands.specs.Terms.{GoodSheet, bounds_over}
use Rattle.demands.specs.Before03.{zone_build_before}

-- one claim for a list of statements: all of them hold
unfoldable pub AllHold : List (Type 0) → Type 0
AllHold [] = Unit {0}
AllHold (row ∷ rows) = row × AllHold rows

abbrev leaf : ℕ → ℕ → ℕ → Leaf
leaf level class face = record { level = level; class = class; face = face }

-- zone_build of a sheet over the root of S at depth d, into any buffer that has room, returns code 0 with the number of bytes, and writes this map
abbrev Builds : List ℕ → ℕ → ℕ → List ℕ → Type 0
Builds sheet d size map = (out : List ℕ) → size ≤ length out → zone_build_of sheet (step_root d) out ≡ zone_outcome (reply 0 size) (map ++ drop size out)

-- zone_lookup in a map
abbrev LooksUp : List ℕ → List ℕ → Point → ℕ → ℕ → Type 0
LooksUp sheet map p code number = zone_lookup_of sheet map p ≡ reply code number

-- black, face 5, face 6, and then what becomes of the gray cube, twice
abbrev twice : List Leaf → List Leaf
twice gray = leaf 1 1 0 ∷ leaf 1 2 5 ∷ leaf 1 2 6 ∷ gray ++ leaf 1 1 0 ∷ leaf 1 2 5 ∷ leaf 1 2 6 ∷ gray

abbrev gray_then_white : List Leaf
gray_then_white = leaf 2 4 0 ∷ leaf 2 0 0 ∷ leaf 2 0 0 ∷ leaf 2 0 0 ∷ []

abbrev at : ℕ → ℕ → Point
at x y = record { x = pos x; y = pos y; z = pos 0 }

-- the closed cube whose low corner is (low, 0, 0)
abbrev along : ℤ → ℕ → Cube
along low side = record { x = low; y = pos 0; z = pos 0; side = side; level = 0 }

abbrev pub eleven_rows : List (Type 0)
eleven_rows =
    -- S at d 0: one leaf, level 0, gray, 22 bytes.
    (Builds step_sheet 0 22 (map_of (step_root 0) (leaf 0 4 0 ∷ [])))
    -- S at d 1: 8 leaves, 43 bytes, as above; a 42-byte buffer gives 8 with 43.
    ∷ (Builds step_sheet 1 43 step_map × (leaves_of step_map ≡ twice (leaf 1 4 0 ∷ [])) × ((out : List ℕ) → length out ≡ 42 → zone_build_of step_sheet (step_root 1) out ≡ zone_outcome (reply 8 43) out))
    -- S at d 2: 22 leaves, 85 bytes; each gray cube becomes gray, white, white, white, twice.
    ∷ (Builds step_sheet 2 85 (map_of (step_root 2) (twice (gray_then_white ++ gray_then_white))))
    -- lookup in the d 1 map: (2,0,0) inside by face 5.
    ∷ (LooksUp step_sheet step_map (at 2 0) 0 1 × (leaf_holding step_map (at 2 0) ≡ leaf 1 2 5))
    -- (3,0,0) outside.
    ∷ LooksUp step_sheet step_map (at 3 0) 0 0
    -- (2,2,0) undecided.
    ∷ LooksUp step_sheet step_map (at 2 2) 0 2
    -- (4,0,0): 10.
    ∷ LooksUp step_sheet step_map (at 4 0) 10 0
    -- x(10-x) over x from 4 to 6: [16, 36].
    ∷ (bounds_over (X ∷ Constant (pos 10) ∷ Difference 1 0 ∷ Product 0 2 ∷ []) (along (pos 4) 2) 3 ≡ from (pos 16) (pos 36))
    -- square over [-3, 2]: [0, 9]; the product of x by itself there: [-6, 9].
    ∷ ((bounds_over (X ∷ Square 0 ∷ Product 0 0 ∷ []) (along (negsuc 2) 5) 1 ≡ from (pos 0) (pos 9)) × (bounds_over (X ∷ Square 0 ∷ Product 0 0 ∷ []) (along (negsuc 2) 5) 2 ≡ from (negsuc 5) (pos 9)))
    -- bounds [-2, 0]: In. Bounds [0, 2]: Single.
    ∷ ((f : ℕ) → (face_state AtMost (from (negsuc 1) (pos 0)) f ≡ In) × (face_state AtMost (from (pos 0) (pos 2)) f ≡ Single f))
    -- a sheet whose only logical record is a face, Single over the root, gives one leaf at any depth: level 0, class 2, that face.
    ∷ ((sheet : List ℕ) (rs : List Record) (by : Comparison) (a : ℕ) (root : Root) (out : List ℕ) → records_of sheet ≡ rs ++ Face by a ∷ [] → solid_state (rs ++ Face by a ∷ []) (root_cube root) ≡ Single (length rs)
    → (zone_build_of sheet root out).reply.code ≡ 0 → zone_build_of sheet root out ≡ zone_outcome (reply 0 22) (map_of root (leaf 0 2 (length rs) ∷ []) ++ drop 22 out))
    ∷ []

-- the root of side 1 whose low corner is (low, 0, 0)
abbrev pub unit : ℤ → Root
unit low = record { x = low; y = pos 0; z = pos 0; k = 0; d = 0 }

-- zone_build over it, for any sheet with these records: with room for the map's 22 bytes it returns code 0
abbrev Accepts : ℤ → List Record → Type 0
Accepts low rs = (sheet out : List ℕ) → GoodSheet sheet → records_of sheet ≡ rs → 22 ≤ length out → (zone_build_of sheet (unit low) out).reply ≡ reply 0 22

-- or it returns 7 with this number, and leaves the buffer as it was
abbrev Refuses7 : ℤ → List Record → ℕ → Type 0
Refuses7 low rs number = (sheet out : List ℕ) → GoodSheet sheet → records_of sheet ≡ rs → zone_build_of sheet (unit low) out ≡ zone_outcome (reply 7 number) out

-- x, its square, and the square times x
abbrev cubed : List Record
cubed = X ∷ Square 0 ∷ Product 1 0 ∷ []

abbrev pub limit_rows : List (Type 0)
limit_rows =
    -- Low corner (1048575,0,0), k 0: records x, its square, square times x, then a face: 2^60 is reached and accepted.
    (((bounds_over (cubed ++ Face AtMost 2 ∷ []) (root_cube (unit (pos 1048575))) 2).high ≡ pos (2 ^ 60)) × Accepts (pos 1048575) (cubed ++ Face AtMost 2 ∷ []))
    -- With x added to the third as record 3, and a face of record 3 after it: 7 with 7. (It was 7 with 3 before request 2026-04.)
    ∷ Refuses7 (pos 1048575) (cubed ++ Sum 2 0 ∷ Face AtMost 3 ∷ []) 7
    -- the same records at the low corner (-1048576,0,0): the low end of record 3 passes -2^60, its high end does not
    ∷ Refuses7 (negsuc 1048575) (cubed ++ Sum 2 0 ∷ Face AtMost 3 ∷ []) 6
    -- a square that is above 2^60 all over the root: its low end lies outside
    ∷ Refuses7 (pos 0) (Constant (pos (2 ^ 30 + 1)) ∷ Square 0 ∷ Face AtMost 1 ∷ []) 2
    ∷ []

-- for any sheet with these records, over the root of the step room at depth d, into any buffer that has room: `build` gives code 0, and a map with these leaves
abbrev Gives : (List ℕ → Root → List ℕ → ZoneOutcome) → List Record → ℕ → List Leaf → Type 0
Gives build rs d leaves = (sheet out : List ℕ) → GoodSheet sheet → records_of sheet ≡ rs → 19 + 3 * length leaves ≤ length out
    → build sheet (step_root d) out ≡ zone_outcome (reply 0 (19 + 3 * length leaves)) (map_of (step_root d) leaves ++ drop (19 + 3 * length leaves) out)

-- x is at most 2: record 3 is that face
abbrev wall : List Record
wall = X ∷ Constant (pos 2) ∷ Difference 0 1 ∷ Face AtMost 2 ∷ []

-- each black cube with x from 0 to 2, and each gray one with x from 2 to 4
abbrev black_then_gray : List Leaf
black_then_gray = leaf 1 1 0 ∷ leaf 1 4 0 ∷ leaf 1 1 0 ∷ leaf 1 4 0 ∷ []

abbrev pub mentioned_twice : List (Type 0)
mentioned_twice =
    -- both of a face with itself is that face: one leaf, which is not split
    Gives zone_build_of (wall ++ Both 3 3 ∷ []) 1 (leaf 0 2 3 ∷ [])
    -- before request 2026-03 it was split, and the panel asked the guest in half of the root
    ∷ Gives zone_build_before (wall ++ Both 3 3 ∷ []) 1 (black_then_gray ++ black_then_gray)
    -- both of a face with its complement holds nowhere, and either of them everywhere
    ∷ Gives zone_build_of (wall ++ Complement 3 ∷ Both 4 3 ∷ []) 1 (leaf 0 0 0 ∷ [])
    ∷ Gives zone_build_of (wall ++ Complement 3 ∷ Either 3 4 ∷ []) 1 (leaf 0 1 0 ∷ [])
    -- two kind 16 records over one operand are two faces
    ∷ Gives zone_build_of (wall ++ Face AtMost 2 ∷ Both 3 4 ∷ []) 1 (black_then_gray ++ black_then_gray)
    ∷ []

-- the leaves of a root of which the lower and the upper half are alike
abbrev halves : List Leaf → List Leaf
halves half = half ++ half

abbrev white : List Leaf
white = leaf 1 0 0 ∷ leaf 1 0 0 ∷ leaf 1 0 0 ∷ []

abbrev black_then_faces : List Leaf
black_then_faces = leaf 2 1 0 ∷ leaf 2 2 5 ∷ leaf 2 2 6 ∷ leaf 2 4 0 ∷ []

-- S as version 2: x less than 2 and y less than 2
abbrev pub strict_rows : List (Type 0)
strict_rows =
    -- at d 0: one leaf, level 0, gray, 22 bytes
    Builds strict_sheet 0 22 (map_of (step_root 0) (leaf 0 4 0 ∷ []))
    -- at d 1: gray, white, white, white, twice, 43 bytes
    ∷ (Builds strict_sheet 1 43 strict_map × (leaves_of strict_map ≡ halves (leaf 1 4 0 ∷ white)))
    -- at d 2: 22 leaves, 85 bytes; each gray cube becomes black, face 5, face 6, gray, twice
    ∷ Builds strict_sheet 2 85 (map_of (step_root 2) (halves (halves black_then_faces ++ white)))
    -- lookup in the d 1 map: (2,0,0), on a face, and (2,2,0), on both: outside
    ∷ LooksUp strict_sheet strict_map (at 2 0) 0 0
    ∷ LooksUp strict_sheet strict_map (at 2 2) 0 0
    -- in the d 1 map of S, where (2,0,0) is in a terminal leaf that names face 5: outside, by the sheet that was lent
    ∷ LooksUp strict_sheet step_map (at 2 0) 0 0
    -- bounds [-2, 0]: Single. Bounds [0, 0] and [0, 2]: Out. Bounds [-2, -1]: In.
    ∷ ((f : ℕ) → (face_state LessThan (from (negsuc 1) (pos 0)) f ≡ Single f) × (face_state LessThan (only (pos 0)) f ≡ Out) × (face_state LessThan (from (pos 0) (pos 2)) f ≡ Out) × (face_state LessThan (from (negsuc 1) (negsuc 0)) f ≡ In))
    ∷ []

-- zone_refine of a map of these leaves over the root of S at depth d, to a depth, into any buffer that has room: code 0, and a map with these leaves
abbrev Refines : List ℕ → ℕ → List Leaf → ℕ → List Leaf → Type 0
Refines sheet d old deep new = (out : List ℕ) → 19 + 3 * length new ≤ length out
    → zone_refine_of sheet (map_of (step_root d) old) deep out ≡ zone_outcome (reply 0 (19 + 3 * length new)) (map_of (step_root deep) new ++ drop (19 + 3 * length new) out)

-- or 6, and the buffer is as it was
abbrev Refuses6 : List ℕ → ℕ → List Leaf → ℕ → Type 0
Refuses6 sheet d old deep = (out : List ℕ) → zone_refine_of sheet (map_of (step_root d) old) deep out ≡ zone_outcome (reply 6 0) out

-- request 2026-01
abbrev pub refined_rows : List (Type 0)
refined_rows =
    -- the d 1 map of S to d 2: each gray leaf becomes gray, white, white, white, twice; the others stand, at level 1
    Refines step_sheet 1 (twice (leaf 1 4 0 ∷ [])) 2 (twice (gray_then_white ++ gray_then_white))
    -- to d 1: the same map
    ∷ Refines step_sheet 1 (twice (leaf 1 4 0 ∷ [])) 1 (twice (leaf 1 4 0 ∷ []))
    -- to d 0: smaller; to d 3: over k
    ∷ (Refuses6 step_sheet 1 (twice (leaf 1 4 0 ∷ [])) 0 × Refuses6 step_sheet 1 (twice (leaf 1 4 0 ∷ [])) 3)
    -- the d 1 map of the version 2 sheet, with S: a white leaf stands although the solid is mixed there, and a gray one is coloured again at its own level: black
    ∷ Refines step_sheet 1 (halves (leaf 1 4 0 ∷ white)) 1 (halves (leaf 1 1 0 ∷ white))
    -- a black leaf stands, and a terminal one of either class, although the rules give another for its cube
    ∷ (Refines step_sheet 0 (leaf 0 1 0 ∷ []) 2 (leaf 0 1 0 ∷ []) × Refines step_sheet 0 (leaf 0 2 6 ∷ []) 2 (leaf 0 2 6 ∷ []) × Refines step_sheet 0 (leaf 0 3 5 ∷ []) 2 (leaf 0 3 5 ∷ []))
    ∷ []

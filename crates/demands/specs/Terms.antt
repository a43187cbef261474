-- What the demands speak of, in document 01's words and numbers: a built map, a refined one, its leaves as its own bytes place them, the inputs that no row of the table of
-- replies refuses, and a map that is truthful to a sheet.
use Rattle.std.specs.Prelude.{◌≡◌, Bool, true, false, not, ◌⊎◌, List, ℕ, ◌+◌, ◌-◌, ◌*◌, ◌%◌, ◌^◌, ◌≤◌, ◌<◌, length, get_or, take}
use Rattle.bigendian.specs.Numbers.{unsigned_at}
use Rattle.interval.specs.declared.Interval.{Interval}
use Rattle.interval.specs.Limit.{SmallEnds}
use Rattle.sheet.specs.declared.Record.{Record}
use Rattle.sheet.specs.declared.Record.TheVariants.{X}
use Rattle.sheet.specs.declared.Sort.TheVariants.{Neither, Logical}
use Rattle.sheet.specs.Records.{records_of, stop_of}
use Rattle.sheet.specs.Operands.{sort_of, asked_of, first_of, second_of, last_sort}
use Rattle.records.specs.Faces.{has_face}
use Rattle.cube.specs.declared.Root.{Root}
use Rattle.cube.specs.declared.Cube.{Cube}
use Rattle.cube.specs.declared.Point.{Point}
use Rattle.cube.specs.Limits.{WithinLimits, at_depth}
use Rattle.cube.specs.Cubes.{root_cube}
use Rattle.cube.specs.Points.{holds_point, InRoot}
use Rattle.meaning.specs.Fractions.{FractionalPoint, InClosed}
use Rattle.meaning.specs.Truth.{holds_at, in_solid}
use Rattle.colour.specs.declared.State.{State}
use Rattle.colour.specs.Entries.{blank, entries}
use Rattle.zonemap.specs.declared.Leaf.{Leaf}
use Rattle.zonemap.specs.Opening.{root_of, leaves_of}
use Rattle.zonemap.specs.Leaves.{nth_leaf, nth_place, nth_cube}
use Rattle.tree.specs.Solid.{solid_state}
use Rattle.replacing.specs.Replace.{refined_map}
use Rattle.building.specs.Build.{built_map}
use Rattle.zone.specs.declared.ZoneReply.{ZoneReply}
use Rattle.zone.specs.Replies.{reply, ZoneOutcome, zone_outcome, zone_build_of, zone_refine_of}

-- one fits, and no other does
pub record ExactlyOne {A : Type 0} (Fits : A → Type 0) : Type 0 where
  pub one : A
  pub fits : Fits one
  pub no_second : (other : A) → Fits other → other ≡ one

-- code 0, with this number, exactly if all is fine
pub record DoneWhere (Fine : Type 0) (r : ZoneReply) (number : ℕ) : Type 0 where
  pub done : Fine → r ≡ reply 0 number
  pub only : r.code ≡ 0 → Fine

-- a reply does not have this code
abbrev pub Never : ℕ → ZoneReply → Type 0
Never code r = r.code ≡ code → ⊥

-- a map that a call made from a sheet, where `build` gives its outcome: for some root and some buffer the call returned code 0 with a size, and the map is the
-- buffer's first `size` bytes afterwards
pub record BuiltBy (build : List ℕ → Root → List ℕ → ZoneOutcome) (sheet map : List ℕ) : Type 0 where
  pub root : Root
  pub before : List ℕ
  pub after : List ℕ
  pub size : ℕ
  pub returned : zone_outcome (reply 0 size) after ≡ build sheet root before
  pub bytes : map ≡ take size after

-- a map built from a sheet
abbrev pub Built : List ℕ → List ℕ → Type 0
Built = BuiltBy zone_build_of

-- a map that zone_refine made of an old one, for some depth and some buffer
pub record Refined (sheet old map : List ℕ) : Type 0 where
  pub depth : ℕ
  pub before : List ℕ
  pub after : List ℕ
  pub size : ℕ
  pub returned : zone_outcome (reply 0 size) after ≡ zone_refine_of sheet old depth before
  pub bytes : map ≡ take size after

-- ---- leaf i of a map
-- a whole point is in leaf i, high planes left out
pub record Holds (map : List ℕ) (p : Point) (i : ℕ) : Type 0 where
  pub among : i < length (leaves_of map)
  pub held : holds_point (nth_cube map i) p ≡ true

-- a fractional point is in the closed cube of leaf i
pub record Touches (map : List ℕ) (p : FractionalPoint) (i : ℕ) : Type 0 where
  pub among : i < length (leaves_of map)
  pub closed : InClosed (nth_cube map i) p

-- ---- what the rows of the table require
-- An operand is the number of an earlier record, of the sort that record i requires.
abbrev pub Operand : List Record → ℕ → ℕ → Type 0
Operand rs i a = (a < i) × (sort_of (get_or rs a X) ≡ asked_of (get_or rs i X))

-- row 2: the version is 1 or 2
abbrev pub KnownVersion : List ℕ → Type 0
KnownVersion sheet = (get_or sheet 2 0 ≡ 1) ⊎ (get_or sheet 2 0 ≡ 2)

-- rows 1 to 5: the length agrees, the version is 1 or 2, every byte belongs to a record, each operand is as required, and the last record is logical
pub record GoodSheet (sheet : List ℕ) : Type 0 where
  pub long : 3 ≤ length sheet
  pub agrees : unsigned_at 2 sheet 0 + 2 ≡ length sheet
  pub version : KnownVersion sheet
  pub framed : length sheet ≤ stop_of sheet
  pub operands : (i : ℕ) → i < length (records_of sheet) → (asked_of (get_or (records_of sheet) i X) ≡ Neither → ⊥)
      → Operand (records_of sheet) i (first_of (get_or (records_of sheet) i X)) × Operand (records_of sheet) i (second_of (get_or (records_of sheet) i X))
  pub solid : last_sort (records_of sheet) ≡ Logical

-- row 9, for leaf i: level at most d, class at most 4, gray only at level d, face 0 unless class 2 or 3, and then a face that may be named; the place is a
-- multiple of the leaf's own 8^(d-level), and the leaf ends at or before 8^d
pub record GoodLeaf (named : ℕ → Bool) (map : List ℕ) (i : ℕ) : Type 0 where
  pub level : (nth_leaf map i).level ≤ (root_of map).d
  pub class : (nth_leaf map i).class ≤ 4
  pub gray : (nth_leaf map i).class ≡ 4 → (nth_leaf map i).level ≡ (root_of map).d
  pub terminal : (nth_leaf map i).class ≡ 2 → named (nth_leaf map i).face ≡ true
  pub complement : (nth_leaf map i).class ≡ 3 → named (nth_leaf map i).face ≡ true
  pub other : ((nth_leaf map i).class ≡ 2 → ⊥) → ((nth_leaf map i).class ≡ 3 → ⊥) → (nth_leaf map i).face ≡ 0
  pub multiple : nth_place map i % 8 ^ ((root_of map).d - (nth_leaf map i).level) ≡ 0
  pub end : nth_place map i + 8 ^ ((root_of map).d - (nth_leaf map i).level) ≤ 8 ^ (root_of map).d

-- row 9: the length agrees and is 15 + 3n, the version is 1, root and depth are in limits, the leaves are good, and the sum over all is exactly 8^d
pub record Opens (named : ℕ → Bool) (map : List ℕ) : Type 0 where
  pub agrees : unsigned_at 4 map 0 + 4 ≡ length map
  pub leaves : unsigned_at 4 map 0 ≡ 15 + 3 * length (leaves_of map)
  pub version : get_or map 4 0 ≡ 1
  pub limits : WithinLimits (root_of map)
  pub good : (i : ℕ) → i < length (leaves_of map) → GoodLeaf named map i
  pub whole : nth_place map (length (leaves_of map)) ≡ 8 ^ (root_of map).d

-- the bounds of record i over a cube
abbrev pub bounds_over : List Record → Cube → ℕ → Interval
bounds_over rs q i = (get_or (entries q rs) i blank).bounds

-- and its state
abbrev pub state_over : List Record → Cube → ℕ → State
state_over rs q i = (get_or (entries q rs) i blank).state

-- row 7: the bounds of each record before record n over a cube lie in -2^60 to 2^60
abbrev pub KeepsBefore : List Record → Cube → ℕ → Type 0
KeepsBefore rs q n = (i : ℕ) → i < n → SmallEnds (bounds_over rs q i)

-- and those of every record
abbrev pub KeepsLimit : List Record → Cube → Type 0
KeepsLimit rs q = (i : ℕ) → SmallEnds (bounds_over rs q i)

-- the new map by the replacement rule of request 2026-01, at depth d
abbrev pub refined_of : List ℕ → List ℕ → ℕ → List ℕ
refined_of sheet map d = refined_map (solid_state (records_of sheet)) map (at_depth d (root_of map))

-- ---- the inputs that no row refuses
pub record CanBuild (sheet : List ℕ) (root : Root) (before : List ℕ) : Type 0 where
  pub good : GoodSheet sheet
  pub limits : WithinLimits root
  pub bounded : KeepsLimit (records_of sheet) (root_cube root)
  pub room : length (built_map (records_of sheet) root) ≤ length before

pub record CanRefine (sheet map : List ℕ) (d : ℕ) (before : List ℕ) : Type 0 where
  pub good : GoodSheet sheet
  pub opens : Opens (has_face (records_of sheet)) map
  pub depth : (root_of map).d ≤ d
  pub limits : WithinLimits (at_depth d (root_of map))
  pub bounded : KeepsLimit (records_of sheet) (root_cube (root_of map))
  pub room : length (refined_of sheet map d) ≤ length before

pub record CanLookUp (sheet map : List ℕ) (p : Point) : Type 0 where
  pub good : GoodSheet sheet
  pub opens : Opens (has_face (records_of sheet)) map
  pub bounded : KeepsLimit (records_of sheet) (root_cube (root_of map))
  pub inside : InRoot (root_of map) p

-- ---- a map that is truthful to a sheet
-- what demand 3 says of a point and a leaf: "If it is in a white leaf's closed cube it is outside the solid; in a black one, inside; in a terminal one, it
-- agrees with the named face or with its complement, as marked." (What is named must be a face: the solid's own record would agree with every point.)
pub record Agrees (rs : List Record) (leaf : Leaf) (p : FractionalPoint) : Type 0 where
  pub white : leaf.class ≡ 0 → in_solid rs p ≡ false
  pub black : leaf.class ≡ 1 → in_solid rs p ≡ true
  pub terminal : leaf.class ≡ 2 → (has_face rs leaf.face ≡ true) × (in_solid rs p ≡ holds_at rs leaf.face p)
  pub complement : leaf.class ≡ 3 → (has_face rs leaf.face ≡ true) × (in_solid rs p ≡ not (holds_at rs leaf.face p))

-- every leaf, as the map's own bytes place it, agrees with the sheet at every fractional point of its closed cube; and the map opens, with no faces but the
-- sheet's, so its leaves cover its root (for bytes that hold no leaf, `agrees` alone would say nothing)
pub record Truthful (sheet map : List ℕ) : Type 0 where
  pub opens : Opens (has_face (records_of sheet)) map
  pub agrees : (p : FractionalPoint) (i : ℕ) → Touches map p i → Agrees (records_of sheet) (nth_leaf map i) p

-- no white leaf of one map shares even a corner with a black leaf of the other
abbrev pub NoTouch : List ℕ → List ℕ → Type 0
NoTouch one other = (p : FractionalPoint) (i j : ℕ) → (nth_leaf one i).class ≡ 0 → (nth_leaf other j).class ≡ 1 → Touches one p i → Touches other p j → ⊥

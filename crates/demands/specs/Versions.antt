-- What request 2026-07 asks for: the rule of each version of a sheet, what two sheets with equal records share, and where they differ.
use Rattle.std.specs.Prelude.{◌≡◌, true, ◌⊎◌, ◌↔◌, List, ℕ, ℤ, pos, length, get_or, ◌≤ℤ◌, ◌<ℤ◌}
use Rattle.sheet.specs.declared.Record.{Record}
use Rattle.sheet.specs.declared.Record.TheVariants.{X}
use Rattle.sheet.specs.Records.{records_of}
use Rattle.sheet.specs.Operands.{first_of}
use Rattle.records.specs.Faces.{has_face}
use Rattle.cube.specs.declared.Root.{Root}
use Rattle.cube.specs.declared.Cube.{Cube}
use Rattle.cube.specs.declared.Point.{Point}
use Rattle.meaning.specs.Fractions.{FractionalPoint}
use Rattle.meaning.specs.Truth.{Value, absent, meanings, holds_at, in_solid}
use Rattle.colour.specs.declared.State.TheVariants.{Out, In, Single}
use Rattle.zone.specs.declared.ZoneReply.{ZoneReply}
use Rattle.zone.specs.Replies.{zone_check_of, zone_build_of, zone_refine_of, zone_lookup_of}
use Rattle.demands.specs.Terms.{Built, GoodSheet, bounds_over, state_over, NoTouch}

-- the number of a face's operand
abbrev pub operand_of : List Record → ℕ → ℕ
operand_of rs f = first_of (get_or rs f X)

-- the value of record i at a point: a numerator over a power of the point's denominator, which is positive
abbrev pub value_at : List Record → ℕ → FractionalPoint → Value
value_at rs i p = (get_or (meanings p rs) i absent).value

-- what face f, of record a, is, where `Meets` and `Fails` say which numbers meet its comparison with 0 and which do not
pub record FaceRule (Meets Fails : ℤ → Type 0) (rs : List Record) (f a : ℕ) : Type 0 where
  -- it holds at a point exactly if the value of record a there meets the comparison
  pub holds : (p : FractionalPoint) → (holds_at rs f p ≡ true) ↔ Meets (value_at rs a p).numerator
  -- over a cube, by the bounds of record a: In if the high one meets it, Out if the low one fails it, otherwise Single
  pub inside : (q : Cube) → Meets (bounds_over rs q a).high → state_over rs q f ≡ In
  pub outside : (q : Cube) → (Meets (bounds_over rs q a).high → ⊥) → Fails (bounds_over rs q a).low → state_over rs q f ≡ Out
  pub otherwise : (q : Cube) → (Meets (bounds_over rs q a).high → ⊥) → (Fails (bounds_over rs q a).low → ⊥) → state_over rs q f ≡ Single f

-- a version 1 and a version 2 sheet with equal records: no other byte differs
pub record EqualRecords (one two : List ℕ) : Type 0 where
  pub first : get_or one 2 0 ≡ 1
  pub second : get_or two 2 0 ≡ 2
  pub long : length one ≡ length two
  pub same : (i : ℕ) → (i ≡ 2 → ⊥) → get_or one i 0 ≡ get_or two i 0

-- at a point, no face's operand is 0: the point lies on no face
abbrev pub OffFaces : List Record → FractionalPoint → Type 0
OffFaces rs p = (f : ℕ) → has_face rs f ≡ true → (value_at rs (operand_of rs f) p).numerator ≡ pos 0 → ⊥

-- two replies are the same, or both have a code of these
abbrev pub SameBut : (ℕ → Type 0) → ZoneReply → ZoneReply → Type 0
SameBut Code r t = (r ≡ t) ⊎ (Code r.code × Code t.code)

-- maps of two such sheets, where a black leaf of the first touches a white leaf of the second
pub record Touching : Type 0 where
  pub one : List ℕ
  pub two : List ℕ
  pub equal : EqualRecords one two
  pub black : List ℕ
  pub white : List ℕ
  pub built-black : Built one black
  pub built-white : Built two white
  pub touch : NoTouch white black → ⊥

-- Request 2026-07: faces that exclude themselves. The three demands are over sheets of either version, and say once what both share. Here is what differs.
pub record Versions : Type 0 where
  -- version 1: kind 16 means at most 0: In if b <= 0, Out if a > 0, otherwise Single
  pub one : (sheet : List ℕ) → GoodSheet sheet → (f : ℕ) → has_face (records_of sheet) f ≡ true → get_or sheet 2 0 ≡ 1
      → FaceRule (λ v. v ≤ℤ pos 0) (λ v. pos 0 <ℤ v) (records_of sheet) f (operand_of (records_of sheet) f)
  -- "In version 2 sheets kind 16 means less than 0: In if b < 0, Out if a >= 0, otherwise Single."
  pub two : (sheet : List ℕ) → GoodSheet sheet → (f : ℕ) → has_face (records_of sheet) f ≡ true → get_or sheet 2 0 ≡ 2
      → FaceRule (λ v. v <ℤ pos 0) (λ v. pos 0 ≤ℤ v) (records_of sheet) f (operand_of (records_of sheet) f)
  -- Two sheets with equal records are both good or are refused alike. Building is refused alike too, but for the room that the map needs, and so are
  -- refining any map and a lookup in it.
  pub same_check : (one two : List ℕ) → EqualRecords one two → zone_check_of one ≡ zone_check_of two
  pub same-build : (one two : List ℕ) → EqualRecords one two → (root : Root) (before : List ℕ)
      → SameBut (λ code. (code ≡ 0) ⊎ (code ≡ 8)) (zone_build_of one root before).reply (zone_build_of two root before).reply
  pub same-refine : (one two : List ℕ) → EqualRecords one two → (map : List ℕ) (d : ℕ) (before : List ℕ)
      → SameBut (λ code. (code ≡ 0) ⊎ (code ≡ 8)) (zone_refine_of one map d before).reply (zone_refine_of two map d before).reply
  pub same-lookup : (one two : List ℕ) → EqualRecords one two → (map : List ℕ) (p : Point) → SameBut (λ code. code ≡ 0) (zone_lookup_of one map p) (zone_lookup_of two map p)
  -- at a point on no face their solids agree
  pub on-faces : (one two : List ℕ) → EqualRecords one two → GoodSheet one → (p : FractionalPoint) → OffFaces (records_of one) p → in_solid (records_of one) p ≡ in_solid (records_of two) p
  -- "a version 1 and a version 2 sheet with equal records are two sheets, and their leaves may touch": demand 3 says nothing of maps of the two together
  pub may-touch : Touching

-- What request 2026-07 asks for: the rule of each version, what two sheets with equal records share, where they differ, and that their leaves may touch.
use Rattle.std.specs.Prelude.{Err, Ok}
use mathlib.Core.Path.{◌≡◌, refl, sym, ap, ap₂, ◌∙◌}
use mathlib.Core.Bool.{Bool, true, false, cond, not, ◌&&◌, ◌||◌}
use mathlib.Core.Logic.{◌⊎◌, inl, inr, ◌↔◌}
use mathlib.Core.List.{List, [], ◌∷◌, ◌++◌, map}
use Prim.Native.Nat.{ℕ, zero, suc, ◌-◌, ◌<◌}
use native.Mathlib.Omega.{arith}
use lib.Dec.{ltb}
use lib.IntN.{ℤ, pos}
use lib.ListN.{length, get_or, replicate}
use lib.Seq.{get_or-append_seam}
use lib.Signed.{le_z, lt_z, ◌≤ℤ◌, ◌<ℤ◌}
use Rattle.bigendian.specs.Numbers.{unsigned_at, signed32}
use Rattle.integers.specs.First.{on_first}
use Rattle.integers.proofs.Order.{≤-both, by-test, le_z-true, le_z-false, lt_z-false, ge-test}
use Rattle.replies.specs.declared.Refusal.{Refusal}
use Rattle.replies.specs.declared.Refusal.TheVariants.{Limits, OverRoot, NotInRoot}
use Rattle.replies.specs.declared.Over.{Over}
use Rattle.replies.specs.Table.{refusal_of}
use Rattle.sheet.specs.declared.Comparison.{Comparison}
use Rattle.sheet.specs.declared.Comparison.TheVariants.{AtMost, LessThan}
use Rattle.sheet.specs.declared.Record.{Record}
use Rattle.sheet.specs.declared.Record.TheVariants.{Constant, X, Y, Z, Sum, Difference, Product, Square, Face, Both, Either, Complement}
use Rattle.sheet.specs.declared.Sort.TheVariants.{Neither, Arithmetic}
use Rattle.sheet.specs.Table.{comparison_of}
use Rattle.sheet.specs.Records.{records_of}
use Rattle.sheet.specs.Check.{check_of}
use Rattle.sheet.specs.StepRoom.{step_sheet_of, step_sheet, strict_sheet}
use Rattle.sheet.specs.Operands.{first_of, second_of}
use Rattle.sheet.specs.Along.{along}
use Rattle.sheet.proofs.Along.{Pairs, prefix-at, related-in}
use Rattle.records.specs.Faces.{is_face, has_face}
use Rattle.cube.specs.declared.Root.{Root}
use Rattle.cube.specs.declared.Cube.{Cube}
use Rattle.cube.specs.declared.Point.{Point}
use Rattle.cube.specs.Limits.{in_limits, at_depth}
use Rattle.cube.specs.Cubes.{root_cube, corner_of, low_at, cube_at}
use Rattle.cube.specs.Points.{holds_point}
use Rattle.zonemap.specs.Opening.{root_of, leaf_in, leaves_in}
use Rattle.zonemap.specs.Leaves.{place_at}
use Rattle.zonemap.specs.StepRoom.{step_root, step_map, strict_map}
use Rattle.meaning.specs.Fractions.{FractionalPoint, whole}
use Rattle.meaning.specs.Truth.{Value, satisfies, Meaning, absent, value_of, holds_of, meaning_of, meanings, holds_at, in_solid}
use Rattle.meaning.proofs.Closed.{lies}
use Rattle.colour.specs.States.{meets}
use Rattle.colour.specs.Entries.{first_past}
use Rattle.pair.specs.Pairs.{pair_refusal}
use Rattle.building.specs.Build.{Outcome, outcome, built_map, stored_of, over_root_with, build_with}
use Rattle.refine.specs.Refine.{refine_of}
use Rattle.lookup.specs.declared.Answer.{Answer}
use Rattle.lookup.specs.Lookup.{Reply}
use Rattle.lookup.specs.Lookup.{answer_of, leaf_holding, numbered, point_reply, lookup_of}
use Rattle.zone.specs.Replies.{by_number, zone_check_of, zone_build_of, zone_refine_of, zone_lookup_of}
use Rattle.demands.specs.Terms.{Built, Touches, GoodSheet, refined_of, NoTouch}
use Rattle.demands.specs.Versions.{FaceRule, operand_of, EqualRecords, OffFaces, SameBut, Touching}
use Rattle.demands.proofs.Sheets.{version-known}
use Rattle.demands.proofs.Rows.{stores, step-1, strict-step-1}
use Rattle.demands.proofs.EqualRecords.{compared, compared-keeps, along-compared, compared-length, same-records, same_check, compared-faces, compared-past, face-comparison}
use Rattle.demands.proofs.Faces.{face-among, face-is, face-rule, at-most-met, at-most-failed, less-than-met, less-than-failed}

-- ---- the faces of a good sheet
module _ (sheet : List ℕ) (good : GoodSheet sheet) (f : ℕ) (face : has_face (records_of sheet) f ≡ true) where
  abbrev rs : List Record
  rs = records_of sheet

  -- a face's operand is an earlier record
  pub earlier : operand_of rs f < f
  earlier =
      let r = face-is rs f face in
      (good.operands f (face-among rs f face) (λ none. let z : Arithmetic ≡ Neither = rw r.2 at none in let y : ◌≡◌ {A = ℕ} 0 1 = cc in omega arith)).0.0

  module _ (Meets Fails : ℤ → Type 0) (by : Comparison) (met : (v : ℤ) → (meets by v ≡ true) ↔ Meets v) (failed : (v : ℤ) → (meets by v ≡ false) ↔ Fails v)
      (is : comparison_of (get_or sheet 2 0) ≡ by) where
    rule : FaceRule Meets Fails rs f (operand_of rs f)
    rule =
        let r = face-is rs f face in
        let c : r.0 ≡ by = face-comparison sheet f r.0 r.1 r.2 ∙ is in
        let e : get_or rs f X ≡ Face by r.1 = r.2 ∙ ap (λ (b : Comparison). Face b r.1) c in
        face-rule rs f by r.1 (face-among rs f face) e (rw e at earlier) Meets Fails met failed

  pub version-1 : get_or sheet 2 0 ≡ 1 → FaceRule (λ v. v ≤ℤ pos 0) (λ v. pos 0 <ℤ v) rs f (operand_of rs f)
  unfolding comparison_of
  version-1 e = rule _ _ AtMost at-most-met at-most-failed (rw e)

  pub version-2 : get_or sheet 2 0 ≡ 2 → FaceRule (λ v. v <ℤ pos 0) (λ v. pos 0 ≤ℤ v) rs f (operand_of rs f)
  unfolding comparison_of
  version-2 e = rule _ _ LessThan less-than-met less-than-failed (rw e)

-- ---- what two sheets with equal records share
-- building and looking up, from what the table of replies tests
abbrev over_root : List Refusal → Bool → List Over → List ℕ → List ℕ → Outcome
over_root refused outside past map out =
    on_first refused (λ why. outcome (Err why) out)
    (cond outside (outcome (Err Limits) out)
    (on_first past (λ o. outcome (Err (OverRoot o)) out)
    (stored_of map out)))

abbrev at_point : List Refusal → List Over → Bool → Answer → Reply
at_point refused past outside answer = on_first refused Err (on_first past (λ o. Err (OverRoot o)) (cond outside (Err NotInRoot) (Ok answer)))

-- a map is stored or does not fit
stored-code : (map out : List ℕ) → ((by_number (stored_of map out).reply).code ≡ 0) ⊎ ((by_number (stored_of map out).reply).code ≡ 8)
unfolding stored_of
stored-code map out = by-test (ltb (length out) (length map)) (λ short. inr (rw short)) (λ fits. inl (rw fits))

-- from the same refusals on, if there is one, two builds are refused alike; otherwise each has a map
built_alike : (refused : List Refusal) (out-of-limits : Bool) (past : List Over) (map other out : List ℕ)
    → SameBut (λ c. (c ≡ 0) ⊎ (c ≡ 8)) (by_number (over_root refused out-of-limits past map out).reply) (by_number (over_root refused out-of-limits past other out).reply)
built_alike (why ∷ later) outside past map other out = inl refl
built_alike [] true past map other out = inl refl
built_alike [] false (o ∷ later) map other out = inl refl
built_alike [] false [] map other out = inr (stored-code map out, stored-code other out)

-- and two lookups; otherwise each has an answer
answered-alike : (refused : List Refusal) (past : List Over) (outside : Bool) (answer other : Answer)
    → SameBut (λ c. c ≡ 0) (by_number (numbered (at_point refused past outside answer))) (by_number (numbered (at_point refused past outside other)))
answered-alike (why ∷ later) past outside answer other = inl refl
answered-alike [] (o ∷ later) outside answer other = inl refl
answered-alike [] [] true answer other = inl refl
answered-alike [] [] false answer other = inr (refl, refl)

module _ (one two : List ℕ) (e : EqualRecords one two) where
  same-sheet : check_of one ≡ check_of two
  same-sheet = same_check one two e.long e.same (version-known _ (inl e.first)) (version-known _ (inr e.second))

  records-are : records_of one ≡ map (compared (comparison_of (get_or one 2 0))) (records_of two)
  records-are = same-records one two e.long e.same

  same-faces : has_face (records_of one) ≡ has_face (records_of two)
  same-faces = ap has_face records-are ∙ compared-faces (comparison_of (get_or one 2 0)) (records_of two)

  same-past : (q : Cube) → first_past (records_of one) q ≡ first_past (records_of two) q
  same-past q = ap (λ (rs : List Record). first_past rs q) records-are ∙ compared-past (comparison_of (get_or one 2 0)) q (records_of two)

  pub same-reply : zone_check_of one ≡ zone_check_of two
  unfolding zone_check_of
  same-reply = ap by_number same-sheet

  pub same-build : (root : Root) (out : List ℕ) → SameBut (λ c. (c ≡ 0) ⊎ (c ≡ 8)) (zone_build_of one root out).reply (zone_build_of two root out).reply
  unfolding zone_build_of build_with over_root_with
  same-build root out =
      rw (same-sheet, same-past (root_cube root))
      (built_alike (refusal_of (check_of two)) (not (in_limits root)) (first_past (records_of two) (root_cube root)) (built_map (records_of one) root) (built_map (records_of two) root) out)

  same-pair : (map : List ℕ) → pair_refusal one map ≡ pair_refusal two map
  unfolding pair_refusal
  same-pair map = rw (same-sheet, same-faces)

  pub same-refine : (map : List ℕ) (d : ℕ) (out : List ℕ) → SameBut (λ c. (c ≡ 0) ⊎ (c ≡ 8)) (zone_refine_of one map d out).reply (zone_refine_of two map d out).reply
  unfolding zone_refine_of refine_of over_root_with
  same-refine map d out =
      let root = at_depth d (root_of map) in
      by-test (ltb d (root_of map).d)
      (λ t. rw (same-pair map, t) (inl refl))
      (λ t.
      rw (same-pair map, t, same-past (root_cube root))
      (built_alike (pair_refusal two map) (not (in_limits root)) (first_past (records_of two) (root_cube root)) (refined_of one map d) (refined_of two map d) out))

  pub same-lookup : (map : List ℕ) (p : Point) → SameBut (λ c. c ≡ 0) (zone_lookup_of one map p) (zone_lookup_of two map p)
  unfolding zone_lookup_of lookup_of point_reply
  same-lookup map p =
      rw (same-pair map, same-past (root_cube (root_of map)))
      (answered-alike (pair_refusal two map) (first_past (records_of two) (root_cube (root_of map))) (not (holds_point (root_cube (root_of map)) p)) (answer_of (records_of one) (leaf_holding map p) p) (answer_of (records_of two) (leaf_holding map p) p))

-- ---- where they differ: on faces alone
-- off 0 both comparisons say the same
at-most-less : (v : Value) → (v.numerator ≡ pos 0 → ⊥) → satisfies AtMost v ≡ satisfies LessThan v
at-most-less v n =
    let a = v.numerator in
    by-test (le_z a (pos 0))
    (λ t. t ∙ sym (by-test (lt_z a (pos 0)) (λ u. u) (λ u. absurd (n (≤-both a (pos 0) (le_z-true a (pos 0) t) (lt_z-false a (pos 0) u))))))
    (λ t. t ∙ sym (ge-test a (pos 0) (le_z-false a (pos 0) t)))

off_zero : (by other : Comparison) (v : Value) → (v.numerator ≡ pos 0 → ⊥) → satisfies by v ≡ satisfies other v
off_zero AtMost AtMost v n = refl
off_zero AtMost LessThan v n = at-most-less v n
off_zero LessThan AtMost v n = sym (at-most-less v n)
off_zero LessThan LessThan v n = refl

module _ (rs : List Record) (p : FractionalPoint) (by : Comparison)
    (before-it : (f : ℕ) → has_face rs f ≡ true → operand_of rs f < f) (off : OffFaces rs p) where
  record Same (m n : Meaning) : Type 0 where
    value : m.value ≡ n.value
    holds : m.holds ≡ n.holds

  abbrev here : List Record → List Meaning
  here = meanings p

  abbrev there : List Record → List Meaning
  there = along (λ ms r. meaning_of p ms (compared by r))

  -- one record's value, from those before it
  same-value : (before : List Record) (r : Record) → Pairs Same absent absent (here before) (there before) → (meaning_of p (here before) r).value ≡ (meaning_of p (there before) (compared by r)).value
  unfolding meaning_of value_of
  same-value before r h =
      ap₂ (λ (v w : Value). value_of p v w r) (h.each (first_of r)).value (h.each (second_of r)).value
      ∙ sym (compared-keeps (λ (s : Record). (meaning_of p (there before) s).value) (λ b o a. refl) by r)

  -- whether a face holds
  module _ (before after : List Record) (other : Comparison) (a : ℕ) (e : before ++ Face other a ∷ after ≡ rs) where
    abbrev f : ℕ
    f = length before

    record-there : get_or rs f X ≡ Face other a
    record-there = ap (λ (l : List Record). get_or l f X) (sym e) ∙ get_or-append_seam before (Face other a) after X

    face-there : has_face rs f ≡ true
    unfolding has_face
    face-there = ap is_face record-there

    operand-there : get_or (here before) a absent ≡ get_or (here rs) a absent
    operand-there =
        sym (ap (λ (l : List Record). get_or (here l) a absent) (sym e)
        ∙ prefix-at (meaning_of p) before (Face other a ∷ after) a absent (rw record-there at (before-it f face-there)))

    off-face : (get_or (here before) a absent).value.numerator ≡ pos 0 → ⊥
    off-face z = off f face-there (rw record-there (ap (λ (m : Meaning). m.value.numerator) (sym operand-there) ∙ z))

  same-holds : (before : List Record) (r : Record) (after : List Record) → before ++ r ∷ after ≡ rs → Pairs Same absent absent (here before) (there before)
      → (meaning_of p (here before) r).holds ≡ (meaning_of p (there before) (compared by r)).holds
  unfolding meaning_of holds_of
  same-holds before (Constant c) after e h = refl
  same-holds before X after e h = refl
  same-holds before Y after e h = refl
  same-holds before Z after e h = refl
  same-holds before (Sum a b) after e h = refl
  same-holds before (Difference a b) after e h = refl
  same-holds before (Product a b) after e h = refl
  same-holds before (Square a) after e h = refl
  same-holds before (Face other a) after e h = off_zero other by _ (off-face before after other a e) ∙ ap (satisfies by) (h.each a).value
  same-holds before (Both a b) after e h = ap₂ ◌&&◌ (h.each a).holds (h.each b).holds
  same-holds before (Either a b) after e h = ap₂ ◌||◌ (h.each a).holds (h.each b).holds
  same-holds before (Complement a) after e h = ap not (h.each a).holds

  pub same-inside : (i : ℕ) → holds_at rs i p ≡ holds_at (map (compared by) rs) i p
  unfolding holds_at
  same-inside i =
      rw (along-compared by (meaning_of p) rs, holds_at)
      ((related-in Same absent absent (record { value = refl; holds = refl }) (meaning_of p) (λ ms r. meaning_of p ms (compared by r)) rs
      (λ before r after e h. record { value = same-value before r h; holds = same-holds before r after e h })).each i).holds

-- so at a point on no face both sheets say the same
pub on-faces : (one two : List ℕ) → EqualRecords one two → GoodSheet one → (p : FractionalPoint) → OffFaces (records_of one) p → in_solid (records_of one) p ≡ in_solid (records_of two) p
unfolding in_solid
on-faces one two e good p off =
    let rs = records_of one in
    let by = comparison_of (get_or two 2 0) in
    let are : records_of two ≡ map (compared by) rs = same-records two one (sym e.long) (λ i n. sym (e.same i n)) in
    same-inside rs p by (λ f face. earlier one good f face) off (length rs - 1)
    ∙ ap₂ (λ (i : ℕ) (l : List Record). holds_at l i p) (ap (λ (n : ℕ). n - 1) (sym (ap length are ∙ compared-length by rs))) (sym are)

-- ---- their leaves may touch: the step room at depth 1, at the point (2,0,0)
-- a buffer with room for its map
abbrev room : List ℕ
room = replicate 43 0

equal : EqualRecords step_sheet strict_sheet
unfolding step_sheet_of
equal = record { first = refl; second = refl; long = refl; same = same }
  where
    same : (i : ℕ) → (i ≡ 2 → ⊥) → get_or step_sheet i 0 ≡ get_or strict_sheet i 0
    same zero n = refl
    same (suc zero) n = refl
    same (suc (suc zero)) n = absurd (n refl)
    same (suc (suc (suc i))) n = refl

built-black : Built step_sheet step_map
unfolding zone_build_of
built-black = record { root = step_root 1; before = room; after = step_map; size = 43; returned = sym (stores _ step_map room 43 (step-1 room) refl (omega arith)); bytes = refl }

built-white : Built strict_sheet strict_map
unfolding zone_build_of
built-white = record { root = step_root 1; before = room; after = strict_map; size = 43; returned = sym (stores _ strict_map room 43 (strict-step-1 room) refl (omega arith)); bytes = refl }

abbrev corner : FractionalPoint
corner = whole (record { x = pos 2; y = pos 0; z = pos 0 })

white-there : Touches strict_map corner 1
unfolding leaves_in leaf_in place_at cube_at low_at corner_of root_of unsigned_at signed32
white-there = record { among = omega arith; closed = record { x = lies tt tt; y = lies tt tt; z = lies tt tt } }

black-there : Touches step_map corner 0
unfolding leaves_in leaf_in place_at cube_at low_at corner_of root_of unsigned_at signed32
black-there = record { among = omega arith; closed = record { x = lies tt tt; y = lies tt tt; z = lies tt tt } }

touches : NoTouch strict_map step_map → ⊥
unfolding leaves_in leaf_in
touches none = none corner 1 0 refl refl white-there black-there

pub may-touch : Touching
may-touch = record { one = step_sheet; two = strict_sheet; equal = equal; black = step_map; white = strict_map; built-black = built-black; built-white = built-white; touch = touches }

-- What zone_lookup returns: code 0 exactly if no row of the table refuses; the leaf that holds the position decides; and in a truthful map inside or outside is
-- true of the solid there.
use Rattle.std.specs.Prelude.{Err}
use mathlib.Core.Path.{◌≡◌, refl, sym, ap, ◌∙◌}
use mathlib.Core.Bool.{Bool, true, false, cond, not}
use mathlib.Core.List.{List, []}
use Prim.Native.Nat.{ℕ, zero, suc, ◌≤◌}
use native.Mathlib.Omega.{arith}
use Rattle.integers.proofs.First.{none_first}
use Rattle.integers.proofs.Order.{by-test}
use Rattle.replies.specs.declared.Refusal.TheVariants.{OverRoot}
use Rattle.replies.proofs.Told.{no_code, not-refused}
use Rattle.sheet.specs.declared.Record.{Record}
use Rattle.sheet.specs.Records.{records_of}
use Rattle.sheet.specs.Check.{check_of}
use Rattle.records.specs.Faces.{has_face}
use Rattle.cube.specs.declared.Point.{Point}
use Rattle.cube.specs.Cubes.{root_cube}
use Rattle.cube.specs.Points.{holds_point, InRoot}
use Rattle.cube.proofs.InRoot.{in-root, root-holds}
use Rattle.meaning.specs.Fractions.{whole}
use Rattle.meaning.specs.Truth.{holds_at, in_solid}
use Rattle.meaning.proofs.Whole.{held-closed}
use Rattle.colour.specs.Entries.{first_past}
use Rattle.colour.proofs.Smaller.{none-keep, keep-none}
use Rattle.zonemap.specs.declared.Leaf.{Leaf}
use Rattle.zonemap.specs.Opening.{root_of, fault_of}
use Rattle.zonemap.specs.Leaves.{nth_leaf, nth_cube}
use Rattle.zonemap.proofs.Finding.{leaf-bytes}
use Rattle.zonemap.proofs.Tiling.{one}
use Rattle.pair.specs.Pairs.{pair_refusal}
use Rattle.pair.proofs.Openings.{pair-good, pair-opens}
use Rattle.lookup.specs.Lookup.{Reply}
use Rattle.lookup.specs.Lookup.{answer_number, answer_of, side_of, leaf_holding, point_reply, lookup_of, numbered}
use Rattle.zone.specs.declared.ZoneReply.{ZoneReply}
use Rattle.zone.specs.Replies.{reply, by_number, zone_check_of, zone_lookup_of}
use Rattle.demands.specs.Terms.{DoneWhere, Touches, GoodSheet, GoodLeaf, CanLookUp, Agrees, Truthful}
use Rattle.demands.specs.Table.{LookupRows}
use Rattle.demands.specs.Demands.{ByTheLeaf}
use Rattle.demands.proofs.Outcomes.{refused_why, row-7}
use Rattle.demands.proofs.Sheets.{check-good, good-check}
use Rattle.demands.proofs.Opening.{opens-told, opens-fault}
use Rattle.demands.proofs.AtPoint.{by-its-face}
use Rattle.demands.proofs.Tiling.{found}

-- ---- a sheet that is refused
pub lookup-refused : (sheet : List ℕ) → ((zone_check_of sheet).code ≡ 0 → ⊥) → (map : List ℕ) (p : Point) → zone_lookup_of sheet map p ≡ zone_check_of sheet
unfolding zone_lookup_of lookup_of pair_refusal zone_check_of
lookup-refused sheet h map p = rw (refused_why (check_of sheet) h).1

-- ---- code 0 exactly if no row refuses
abbrev Answers : Reply → Type 0
Answers r = (by_number (numbered r)).code ≡ 0

module _ (sheet map : List ℕ) (p : Point) where
  abbrev rs : List Record
  rs = records_of sheet

  looks-up-only : (zone_lookup_of sheet map p).code ≡ 0 → CanLookUp sheet map p
  unfolding zone_lookup_of lookup_of point_reply
  looks-up-only e =
      let opened = none_first Answers Err _ (pair_refusal sheet map) (no_code 0 refl) e in
      let over = none_first Answers (λ o. Err (OverRoot o)) _ (first_past rs (root_cube (root_of map))) (λ at z. omega arith) opened.1 in
      let good = not-refused (check_of sheet) (pair-good sheet map opened.0) in
      by-test (holds_point (root_cube (root_of map)) p)
      (λ t. record {
        good = check-good sheet good.0 good.1;
        opens = opens-told (has_face rs) map (pair-opens sheet map opened.0);
        bounded = none-keep rs (root_cube (root_of map)) over.0;
        inside = in-root (root_of map) p t;
      })
      (λ t. let z : ◌≡◌ {A = ℕ} 10 0 = rw t at over.1 in absurd (omega arith))

  -- ---- by the leaf
  module _ (c : CanLookUp sheet map p) where
    opens : fault_of (has_face rs) map ≡ []
    opens = opens-fault (has_face rs) map c.opens

    abbrev number : ℕ
    number = one (has_face rs) map opens p (root-holds (root_of map) p c.inside)

    abbrev leaf : Leaf
    leaf = nth_leaf map number

    answer : zone_lookup_of sheet map p ≡ reply 0 (answer_number (answer_of rs leaf p))
    unfolding zone_lookup_of leaf_holding lookup_of pair_refusal point_reply
    answer =
        let h = found (has_face rs) map opens p c.inside in
        rw (good-check sheet c.good, opens, keep-none rs (root_cube (root_of map)) c.bounded, root-holds (root_of map) p c.inside)
        (ap (λ (l : Leaf). reply 0 (answer_number (answer_of rs l p))) (sym (leaf-bytes map number h.among)))

    good : GoodLeaf (has_face rs) map number
    good = c.opens.good number (found (has_face rs) map opens p c.inside).among

    side-number : (b : Bool) → answer_number (side_of b) ≡ cond b 1 0
    side-number true = refl
    side-number false = refl

    -- whether the point satisfies the leaf's face
    abbrev satisfied : Bool
    satisfied = holds_at rs leaf.face (whole p)

    pub by-the-leaf : ByTheLeaf sheet map p
    unfolding answer_of
    by-the-leaf = record {
      number = number;
      holds = found (has_face rs) map opens p c.inside;
      white = λ k. answer ∙ rw k;
      black = λ k. answer ∙ rw k;
      terminal = λ k. answer ∙ rw (k, by-its-face rs leaf.face p (good.terminal k)) (ap (reply 0) (side-number satisfied));
      complement = λ k. answer ∙ rw (k, by-its-face rs leaf.face p (good.complement k)) (ap (reply 0) (side-number (not satisfied)));
      gray = λ k. answer ∙ rw k;
    }

  pub looks-up : DoneWhere (CanLookUp sheet map p) (zone_lookup_of sheet map p) (zone_lookup_of sheet map p).number
  looks-up = record {
    done = λ c. let e = answer c in rw e;
    only = looks-up-only;
  }

  -- ---- the rows that refuse
  out-of-root : (InRoot (root_of map) p → ⊥) → holds_point (root_cube (root_of map)) p ≡ false
  out-of-root h = by-test (holds_point (root_cube (root_of map)) p) (λ t. absurd (h (in-root (root_of map) p t))) (λ t. t)

  pub lookup-rows : (good : GoodSheet sheet) → LookupRows sheet good map p
  unfolding zone_lookup_of lookup_of pair_refusal point_reply
  lookup-rows good = record {
    row-9 = λ at fault. rw (good-check sheet good, fault);
    row-7 = λ opens. row-7 rs (root_cube (root_of map)) _ (λ o past. rw (good-check sheet good, opens-fault (has_face rs) map opens, past));
    row-10 = λ opens bounded out. rw (good-check sheet good, opens-fault (has_face rs) map opens, keep-none rs (root_cube (root_of map)) bounded, out-of-root out);
  }

-- ---- the truth
-- one of the five classes
pub by-class : {A : Type 0} (class : ℕ) → class ≤ 4 → (class ≡ 0 → A) → (class ≡ 1 → A) → (class ≡ 2 → A) → (class ≡ 3 → A) → (class ≡ 4 → A) → A
by-class zero h white black terminal complement gray = white refl
by-class (suc zero) h white black terminal complement gray = black refl
by-class (suc (suc zero)) h white black terminal complement gray = terminal refl
by-class (suc (suc (suc zero))) h white black terminal complement gray = complement refl
by-class (suc (suc (suc (suc zero)))) h white black terminal complement gray = gray refl
by-class (suc (suc (suc (suc (suc n))))) h white black terminal complement gray = absurd (omega arith)

-- 1 and 0 are different sides, and 2 is neither
same-side : (a b : Bool) → reply 0 (cond a 1 0) ≡ reply 0 (cond b 1 0) → a ≡ b
same-side true true e = refl
same-side true false e = let z : ◌≡◌ {A = ℕ} 1 0 = ap (λ (r : ZoneReply). r.number) e in absurd (omega arith)
same-side false true e = let z : ◌≡◌ {A = ℕ} 0 1 = ap (λ (r : ZoneReply). r.number) e in absurd (omega arith)
same-side false false e = refl

pub no-side : (b : Bool) → reply 0 2 ≡ reply 0 (cond b 1 0) → ⊥
no-side true e = let z : ◌≡◌ {A = ℕ} 2 1 = ap (λ (r : ZoneReply). r.number) e in omega arith
no-side false e = let z : ◌≡◌ {A = ℕ} 2 0 = ap (λ (r : ZoneReply). r.number) e in omega arith

-- a leaf that agrees with the sheet at the position tells the truth, or leaves it open
module _ (sheet map : List ℕ) (p : Point) (t : ByTheLeaf sheet map p) (h : Agrees (records_of sheet) (nth_leaf map t.number) (whole p))
    (class : (nth_leaf map t.number).class ≤ 4) (side : Bool) (e : zone_lookup_of sheet map p ≡ reply 0 (cond side 1 0)) where
  abbrev l : Leaf
  l = nth_leaf map t.number

  leaf-true : in_solid (records_of sheet) (whole p) ≡ side
  leaf-true =
      by-class l.class class
      (λ k. h.white k ∙ same-side false side (sym (t.white k) ∙ e))
      (λ k. h.black k ∙ same-side true side (sym (t.black k) ∙ e))
      (λ k. (h.terminal k).1 ∙ same-side _ side (sym (t.terminal k) ∙ e))
      (λ k. (h.complement k).1 ∙ same-side _ side (sym (t.complement k) ∙ e))
      (λ k. absurd (no-side side (sym (t.gray k) ∙ e)))

-- so a lookup in a truthful map tells the truth
module _ (sheet map : List ℕ) (truthful : Truthful sheet map) (p : Point) where
  pub truth : (side : Bool) → zone_lookup_of sheet map p ≡ reply 0 (cond side 1 0) → in_solid (records_of sheet) (whole p) ≡ side
  truth side e =
      let by = by-the-leaf sheet map p (looks-up-only sheet map p (ap (λ (r : ZoneReply). r.code) e)) in
      let touches : Touches map (whole p) by.number = record { among = by.holds.among; closed = held-closed (nth_cube map by.number) p by.holds.held } in
      leaf-true sheet map p by (truthful.agrees (whole p) by.number touches) (truthful.opens.good by.number by.holds.among).class side e

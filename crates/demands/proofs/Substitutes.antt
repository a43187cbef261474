-- Wrong programs that the contracts of `zone_build` and `zone_refine` rule out, each on the step room: what they would return is not what the contract says. Also why
-- demand 3 needs demand 2 as well, and what `Truthful` cannot do without.
use mathlib.Core.Path.{◌≡◌, refl, sym, ap, ◌∙◌}
use mathlib.Core.List.{List, [], ◌∷◌, ◌++◌}
use Prim.Native.Nat.{ℕ, ◌-◌, ◌<◌}
use native.Mathlib.Omega.{arith}
use lib.ListN.{length, get_or, replicate}
use Rattle.bigendian.specs.Numbers.{bytes_of, unsigned32}
use Rattle.sheet.specs.declared.Record.{Record}
use Rattle.sheet.specs.Records.{records_of}
use Rattle.sheet.specs.StepRoom.{step_sheet}
use Rattle.records.specs.Faces.{has_face}
use Rattle.meaning.specs.Fractions.{FractionalPoint, InClosedRoot}
use Rattle.meaning.specs.Truth.{holds_at, in_solid}
use Rattle.zonemap.specs.declared.Leaf.{Leaf}
use Rattle.zonemap.specs.Map.{leaf_bytes, leaves_bytes, corner_bytes, header_of, map_of}
use Rattle.zonemap.specs.Opening.{root_of, leaves_in, leaves_of}
use Rattle.zonemap.specs.Leaves.{nth_leaf}
use Rattle.zonemap.specs.StepRoom.{step_root, step_map}
use Rattle.zone.specs.declared.ZoneReply.{ZoneReply}
use Rattle.zone.specs.Replies.{reply, ZoneOutcome, zone_outcome, zone_build_of, zone_refine_of, zone_open_of}
use Rattle.demands.specs.Terms.{Touches, Opens, Agrees, Truthful}
use Rattle.demands.specs.Rows.{AllHold}
use Rattle.demands.proofs.Opening.{opens}
use Rattle.demands.proofs.Truthful.{truthful-opens}
use Rattle.demands.proofs.Tiling.{covering}
use Rattle.demands.proofs.Rows.{stores, refuses, step-1}
use Rattle.demands.proofs.RefinedRows.{refined-rows}

-- a buffer of 43 bytes holds the map, one of 42 does not
abbrev room : List ℕ
room = replicate 43 0

abbrev short : List ℕ
short = replicate 42 0

module _ (r : ZoneReply) (out : List ℕ) (e : zone_outcome r out ≡ zone_build_of step_sheet (step_root 1) room) where
  told : zone_outcome r out ≡ zone_outcome (reply 0 43) step_map
  unfolding zone_build_of
  told = e ∙ stores _ step_map room 43 (step-1 room) refl (omega arith)

  -- one that refuses always
  pub not-always-refused : r.code ≡ 0
  not-always-refused = ap (λ (o : ZoneOutcome). o.reply.code) told

  -- one that invents the length in reply 0
  pub no-other-length : r.number ≡ 43
  no-other-length = ap (λ (o : ZoneOutcome). o.reply.number) told

  pub no-other-bytes : out ≡ step_map
  no-other-bytes = ap (λ (o : ZoneOutcome). o.buffer) told

  -- one that never writes
  pub not-unwritten : out ≡ room → ⊥
  not-unwritten h = let z : ◌≡◌ {A = ℕ} 0 39 = ap (λ (b : List ℕ). get_or b 3 0) (sym h ∙ no-other-bytes) in absurd (omega arith)

  -- one that answers one gray leaf for all sheets
  pub not-one-gray-leaf : (rest : List ℕ) → out ≡ map_of (step_root 1) (record { level = 0; class = 4; face = 0 } ∷ []) ++ rest → ⊥
  unfolding map_of header_of corner_bytes bytes_of unsigned32 leaves_bytes leaf_bytes
  not-one-gray-leaf rest h = let z : ◌≡◌ {A = ℕ} 18 39 = ap (λ (b : List ℕ). get_or b 3 0) (sym h ∙ no-other-bytes) in absurd (omega arith)

  -- one that colours the root honestly and calls all below it gray
  pub not-all-gray-below : (ls : List Leaf) → out ≡ map_of (step_root 1) (record { level = 1; class = 4; face = 0 } ∷ ls) → ⊥
  unfolding map_of header_of corner_bytes bytes_of unsigned32 leaves_bytes leaf_bytes
  not-all-gray-below ls h = let z : ◌≡◌ {A = ℕ} 4 1 = ap (λ (b : List ℕ). get_or b 20 0) (sym h ∙ no-other-bytes) in absurd (omega arith)

module _ (r : ZoneReply) (out : List ℕ) (e : zone_outcome r out ≡ zone_build_of step_sheet (step_root 1) short) where
  told-short : zone_outcome r out ≡ zone_outcome (reply 8 43) short
  unfolding zone_build_of
  told-short = e ∙ refuses _ step_map short 43 (step-1 short) refl (omega arith)

  -- one that invents the length in reply 8
  pub no-other-need : r ≡ reply 8 43
  no-other-need = ap (λ (o : ZoneOutcome). o.reply) told-short

  -- one that writes before it refuses
  pub not_written : out ≡ short
  not_written = ap (λ (o : ZoneOutcome). o.buffer) told-short

-- ---- zone_refine of the step room's map at depth 1, to depth 2, with a buffer of 85 bytes
abbrev leaf : ℕ → ℕ → ℕ → Leaf
leaf level class face = record { level = level; class = class; face = face }

abbrev four : List Leaf
four = leaf 1 1 0 ∷ leaf 1 2 5 ∷ leaf 1 2 6 ∷ leaf 1 4 0 ∷ []

module _ (r : ZoneReply) (out : List ℕ) (e : zone_outcome r out ≡ zone_refine_of step_sheet (map_of (step_root 1) (four ++ four)) 2 (replicate 85 0)) where
  told-refined : (r ≡ reply 0 85) × (get_or out 18 0 ≡ 2) × (get_or out 19 0 ≡ 1) × (get_or out 28 0 ≡ 2)
  unfolding AllHold map_of header_of corner_bytes bytes_of unsigned32 leaves_bytes leaf_bytes
  told-refined =
      let told = e ∙ refined-rows.0 (replicate 85 0) (omega arith) in
      let at : (i : ℕ) → get_or out i 0 ≡ _ = λ i. ap (λ (o : ZoneOutcome). get_or o.buffer i 0) told in
      (ap (λ (o : ZoneOutcome). o.reply) told, at 18, at 19, at 28)

  -- one that refuses always, or invents the length
  pub refined-reply : r ≡ reply 0 85
  refined-reply = told-refined.0

  -- one that keeps the old depth in the header
  pub not-old-depth : get_or out 18 0 ≡ 1 → ⊥
  not-old-depth h = absurd (omega (arith, told-refined.1))

  -- one that shifts the levels of leaves that stand
  pub not-shifted : get_or out 19 0 ≡ 2 → ⊥
  not-shifted h = absurd (omega (arith, told-refined.2))

  -- one that copies the old map, gray leaves and all
  pub not-copied : get_or out 28 0 ≡ 1 → ⊥
  not-copied h = absurd (omega (arith, told-refined.3))

-- ---- demand 3 alone
-- A gray leaf agrees with every sheet at every point, so a program that calls cubes gray keeps demand 3. Only the equation of the map rules it out, as above.
gray-agrees : (rs : List Record) (leaf : Leaf) (p : FractionalPoint) → leaf.class ≡ 4 → Agrees rs leaf p
gray-agrees rs leaf p e = record {
  white = λ h. absurd (omega arith);
  black = λ h. absurd (omega arith);
  terminal = λ h. absurd (omega arith);
  complement = λ h. absurd (omega arith);
}

-- a map of gray leaves alone is truthful to every sheet
pub gray-truthful : (sheet map : List ℕ) → Opens (has_face (records_of sheet)) map
    → ((i : ℕ) → i < length (leaves_of map) → (nth_leaf map i).class ≡ 4) → Truthful sheet map
gray-truthful sheet map opens gray = record { opens = opens; agrees = λ p i t. gray-agrees (records_of sheet) (nth_leaf map i) p (gray i t.among) }

-- ---- what `Truthful` cannot do without
-- That the map opens: bytes that hold no leaf agree with every sheet. If that made them truthful, it would be false that zone_open opens every truthful map.
no-leaf-agrees : (sheet map : List ℕ) → length (leaves_of map) ≡ 0 → (p : FractionalPoint) (i : ℕ) → Touches map p i → Agrees (records_of sheet) (nth_leaf map i) p
no-leaf-agrees sheet map none p i t = absurd (omega (arith, none, t.among))

pub opens-needed : ((sheet map : List ℕ) → ((p : FractionalPoint) (i : ℕ) → Touches map p i → Agrees (records_of sheet) (nth_leaf map i) p) → (zone_open_of map).code ≡ 0) → ⊥
unfolding leaves_in
opens-needed opened = let told = (opens []).only (opened [] [] (no-leaf-agrees [] [] refl)) in omega (arith, told.agrees)

-- That what a terminal leaf names is a face: the solid's own record agrees with the solid at every point.
pub solid-agrees : (rs : List Record) (p : FractionalPoint) → in_solid rs p ≡ holds_at rs (length rs - 1) p
unfolding in_solid
solid-agrees rs p = refl

-- As it stands, each point of a truthful map's closed root is in the closed cube of some leaf, which agrees with the sheet there.
pub everywhere : (sheet map : List ℕ) → Truthful sheet map → (p : FractionalPoint) → InClosedRoot (root_of map) p
    → (i : ℕ) × (Touches map p i × Agrees (records_of sheet) (nth_leaf map i) p)
everywhere sheet map t p inside = let c = covering map (truthful-opens sheet map t) p inside in (c.0, (c.1, t.agrees p c.0 c.1))

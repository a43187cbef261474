-- Request 2026-03: where the new map is gray, the old map of that root and depth is gray too. So a position that the old map answered is still answered, and alike.
use mathlib.Core.Path.{◌≡◌, sym, ap, ◌∙◌}
use mathlib.Core.Bool.{Bool, true, false, cond, not}
use mathlib.Core.Logic.{⊎_elim}
use mathlib.Core.List.{List, []}
use Prim.Native.Nat.{ℕ, ◌≤◌, ◌<◌}
use native.Mathlib.Nat.{eq-or-lt_of_le}
use Rattle.sheet.specs.Records.{records_of}
use Rattle.records.specs.Faces.{has_face}
use Rattle.cube.specs.declared.Point.{Point}
use Rattle.cube.specs.Cubes.{cube_around}
use Rattle.cube.specs.Points.{place_of}
use Rattle.cube.proofs.InRoot.{root-holds}
use Rattle.meaning.specs.Fractions.{whole}
use Rattle.meaning.specs.Truth.{holds_at}
use Rattle.zonemap.specs.declared.Leaf.{Leaf}
use Rattle.zonemap.specs.Opening.{root_of, fault_of}
use Rattle.zonemap.specs.Leaves.{nth_leaf, nth_place, nth_cube}
use Rattle.zonemap.proofs.Tiling.{around-point, smallest-place}
use Rattle.tree.specs.Solid.{solid_state, is_gray}
use Rattle.roundtrip.proofs.Named.{solid-good}
use Rattle.zone.specs.declared.ZoneReply.{ZoneReply}
use Rattle.zone.specs.Replies.{reply, zone_build_of, zone_lookup_of}
use Rattle.demands.specs.Terms.{Built, CanLookUp}
use Rattle.demands.specs.Before03.{solid_before, zone_build_before, BuiltBefore}
use Rattle.demands.specs.Demands.{ByTheLeaf}
use Rattle.demands.proofs.Opening.{opens-fault}
use Rattle.demands.proofs.Maps.{leaf-there, above-there, gray-class, class-gray, can-look-up}
use Rattle.demands.proofs.Soundness.{truthful}
use Rattle.demands.proofs.Lookups.{looks-up, by-the-leaf, by-class, no-side, truth}
use Rattle.demands.proofs.Before03.{gray-before, before-good, truthful-before}

-- ---- the leaf of a map that holds a point
module _ (sheet map : List ℕ) (p : Point) (c : CanLookUp sheet map p) where
  abbrev by : ByTheLeaf sheet map p
  by = by-the-leaf sheet map p c

  abbrev number : ℕ
  number = by.number

  abbrev opens : fault_of (has_face (records_of sheet)) map ≡ []
  opens = opens-fault (has_face (records_of sheet)) map c.opens

  -- its cube is the one of its level that the point's place lies in
  around : cube_around (root_of map) (place_of (root_of map) p) (nth_leaf map number).level ≡ nth_cube map number
  around = around-point (has_face (records_of sheet)) map opens p (root-holds (root_of map) p c.inside) number by.holds.among by.holds.held

  -- a gray one is at the point's place
  smallest : (nth_leaf map number).class ≡ 4 → nth_place map number ≡ place_of (root_of map) p
  smallest gray =
      smallest-place (has_face (records_of sheet)) map opens p (root-holds (root_of map) p c.inside) number by.holds.among by.holds.held
      ((c.opens.good number by.holds.among).gray gray)

-- ---- the new map: if the leaf that holds a point is gray, so are all cubes of the tree that hold the point
module _ (sheet new : List ℕ) (b : Built sheet new) (p : Point) (c : CanLookUp sheet new p) (gray : (nth_leaf new (by-the-leaf sheet new p c).number).class ≡ 4) where
  abbrev i : ℕ
  i = (by-the-leaf sheet new p c).number

  gray-around : (level : ℕ) → level ≤ (root_of new).d → is_gray (solid_state (records_of sheet)) (cube_around (root_of new) (place_of (root_of new) p) level) ≡ true
  unfolding zone_build_of
  gray-around level h =
      let among = (by-the-leaf sheet new p c).holds.among in
      let last = (c.opens.good i among).gray gray in
      ⊎_elim
      (λ (same : level ≡ (root_of new).d).
      rw (same ∙ sym last, around sheet new p c) (class-gray _ _ (ap (λ (l : Leaf). l.class) (sym (leaf-there solid_state solid-good sheet new b i among)) ∙ gray)))
      (λ (less : level < (root_of new).d). rw (smallest sheet new p c gray) at (above-there solid_state solid-good sheet new b i level among (rw last less)))
      (eq-or-lt_of_le h)

-- ---- the old map is gray there too
module _ (sheet old new : List ℕ) (b : BuiltBefore sheet old) (n : Built sheet new) (same : root_of old ≡ root_of new) (p : Point) where
  old-gray : (c : CanLookUp sheet old p) (d : CanLookUp sheet new p) → (nth_leaf new (by-the-leaf sheet new p d).number).class ≡ 4 → (nth_leaf old (by-the-leaf sheet old p c).number).class ≡ 4
  unfolding zone_build_before
  old-gray c d gray =
      let j : ℕ = (by-the-leaf sheet old p c).number in
      let among = (by-the-leaf sheet old p c).holds.among in
      let now = gray-around sheet new n p d gray (nth_leaf old j).level (rw same at (c.opens.good j among).level) in
      let there : is_gray (solid_state (records_of sheet)) (nth_cube old j) ≡ true = rw (← same, around sheet old p c) at now in
      ap (λ (l : Leaf). l.class) (leaf-there solid_before before-good sheet old b j among) ∙ gray-class _ _ (gray-before (records_of sheet) (nth_cube old j) there)

  pub still-answered : (inside : Bool) → zone_lookup_of sheet old p ≡ reply 0 (cond inside 1 0) → zone_lookup_of sheet new p ≡ reply 0 (cond inside 1 0)
  still-answered inside told =
      let c = (looks-up sheet old p).only (ap (λ (r : ZoneReply). r.code) told) in
      let d = can-look-up sheet new n p (rw same at c.inside) in
      let t = by-the-leaf sheet new p d in
      let satisfied : Bool = holds_at (records_of sheet) (nth_leaf new t.number).face (whole p) in
      let is = truth sheet old (truthful-before sheet old b) p inside told in
      let alike : (side : Bool) → zone_lookup_of sheet new p ≡ reply 0 (cond side 1 0) → zone_lookup_of sheet new p ≡ reply 0 (cond inside 1 0) =
      λ side e. e ∙ ap (λ (s : Bool). reply 0 (cond s 1 0)) (sym (truth sheet new (truthful sheet new n) p side e) ∙ is) in
      by-class (nth_leaf new t.number).class (d.opens.good t.number t.holds.among).class
      (λ k. alike false (t.white k)) (λ k. alike true (t.black k)) (λ k. alike satisfied (t.terminal k)) (λ k. alike (not satisfied) (t.complement k))
      (λ k. absurd (no-side inside (sym ((by-the-leaf sheet old p c).gray (old-gray c d k)) ∙ told)))

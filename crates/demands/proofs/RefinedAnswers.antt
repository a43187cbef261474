-- Request 2026-01: a position that the old map answered is in a leaf that stands, so the refined map answers it alike.
use mathlib.Core.Path.{◌≡◌, sym, ap, ◌∙◌}
use mathlib.Core.Bool.{Bool, cond, not}
use mathlib.Core.List.{List}
use Prim.Native.Nat.{ℕ}
use Rattle.sheet.specs.declared.Record.{Record}
use Rattle.sheet.specs.Records.{records_of}
use Rattle.records.specs.Faces.{has_face}
use Rattle.cube.specs.declared.Root.{Root}
use Rattle.cube.specs.declared.Cube.{Cube}
use Rattle.cube.specs.declared.Point.{Point}
use Rattle.cube.specs.Limits.{at_depth}
use Rattle.cube.specs.Cubes.{root_cube}
use Rattle.cube.specs.Points.{holds_point, InRoot}
use Rattle.meaning.specs.Fractions.{whole}
use Rattle.meaning.specs.Truth.{holds_at}
use Rattle.zonemap.specs.declared.Leaf.{Leaf}
use Rattle.zonemap.specs.Opening.{root_of}
use Rattle.zonemap.specs.Leaves.{nth_leaf}
use Rattle.zone.specs.declared.ZoneReply.{ZoneReply}
use Rattle.zone.specs.Replies.{reply, zone_lookup_of}
use Rattle.demands.specs.Terms.{Refined, Holds, KeepsLimit, CanLookUp}
use Rattle.demands.specs.Refining.{TheRefined}
use Rattle.demands.proofs.Opening.{any-opens, opens as zone-opens}
use Rattle.demands.proofs.Tiling.{tiling}
use Rattle.demands.proofs.Lookups.{looks-up, by-the-leaf, by-class, no-side}
use Rattle.demands.proofs.Refining.{the-refined}

-- the limit and the points of a root do not depend on its depth
same-limit : (rs : List Record) (d : ℕ) (r : Root) → KeepsLimit rs (root_cube r) → KeepsLimit rs (root_cube (at_depth d r))
unfolding root_cube
same-limit rs d r keeps = keeps

same_points : (d : ℕ) (r : Root) (p : Point) → InRoot r p → InRoot (at_depth d r) p
same_points d r p h = record { x-low = h.x-low; x-high = h.x-high; y-low = h.y-low; y-high = h.y-high; z-low = h.z-low; z-high = h.z-high }

module _ (sheet old map : List ℕ) (r : Refined sheet old map) (p : Point) (inside : Bool) (told : zone_lookup_of sheet old p ≡ reply 0 (cond inside 1 0)) where
  abbrev rs : List Record
  rs = records_of sheet

  abbrev new : TheRefined sheet old map r
  new = the-refined sheet old map r

  looked : CanLookUp sheet old p
  looked = (looks-up sheet old p).only (ap (λ (r : ZoneReply). r.code) told)

  can-look-up : CanLookUp sheet map p
  can-look-up = record {
    good = looked.good;
    opens = new.opens;
    bounded = rw new.root (same-limit rs r.depth (root_of old) looked.bounded);
    inside = rw new.root (same_points r.depth (root_of old) p looked.inside);
  }

  pub still-answered : zone_lookup_of sheet map p ≡ reply 0 (cond inside 1 0)
  still-answered =
      let before = by-the-leaf sheet old p looked in
      let after = by-the-leaf sheet map p can-look-up in
      let stays = new.stands before.number before.holds.among (λ gray. no-side inside (sym (before.gray gray) ∙ told)) in
      let held : Holds map p stays.0 = record { among = stays.1.0; held = ap (λ (q : Cube). holds_point q p) stays.1.2 ∙ before.holds.held } in
      let one = tiling map (ap (λ (r : ZoneReply). r.code) ((zone-opens map).done (any-opens (has_face rs) map new.opens))) p can-look-up.inside in
      let same : nth_leaf map after.number ≡ nth_leaf old before.number = ap (nth_leaf map) (one.no_second after.number after.holds ∙ sym (one.no_second stays.0 held)) ∙ stays.1.1 in
      let class : (nth_leaf map after.number).class ≡ (nth_leaf old before.number).class = ap (λ (l : Leaf). l.class) same in
      let face : holds_at rs (nth_leaf map after.number).face (whole p) ≡ holds_at rs (nth_leaf old before.number).face (whole p) = ap (λ (l : Leaf). holds_at rs l.face (whole p)) same in
      by-class (nth_leaf old before.number).class (looked.opens.good before.number before.holds.among).class
      (λ k. after.white (class ∙ k) ∙ sym (before.white k) ∙ told)
      (λ k. after.black (class ∙ k) ∙ sym (before.black k) ∙ told)
      (λ k. after.terminal (class ∙ k) ∙ ap (λ (b : Bool). reply 0 (cond b 1 0)) face ∙ sym (before.terminal k) ∙ told)
      (λ k. after.complement (class ∙ k) ∙ ap (λ (b : Bool). reply 0 (cond (not b) 1 0)) face ∙ sym (before.complement k) ∙ told)
      (λ k. absurd (no-side inside (sym (before.gray k) ∙ told)))

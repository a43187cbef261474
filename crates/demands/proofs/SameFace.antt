-- What request 2026-03 asks for: the rule in its own words, maps built before it, and worked rows of both.
use mathlib.Core.Path.{◌≡◌, refl, ap, ◌∙◌}
use mathlib.Core.Bool.{true}
use mathlib.Core.Logic.{inl, inr, ⊎_elim}
use mathlib.Core.List.{List, [], ◌++◌}
use Prim.Native.Nat.{ℕ, ◌+◌, ◌*◌, ◌≤◌}
use native.Mathlib.Omega.{arith}
use lib.ListN.{length, drop}
use Rattle.interval.specs.Rules.{difference}
use Rattle.interval.specs.Limit.{is_small, past_end}
use Rattle.sheet.specs.declared.Record.{Record}
use Rattle.sheet.specs.Records.{records_of}
use Rattle.sheet.specs.Along.{along, onward}
use Rattle.cube.specs.declared.Root.{Root}
use Rattle.cube.specs.declared.Cube.{Cube}
use Rattle.cube.specs.Limits.{axis_fits, sizes_fit, in_limits}
use Rattle.cube.specs.Cubes.{root_cube, child_of}
use Rattle.colour.specs.declared.State.{State}
use Rattle.colour.specs.declared.State.TheVariants.{Single, Comp, Mixed}
use Rattle.colour.specs.Bounds.{across, bounds_of}
use Rattle.colour.specs.States.{class_of, face_of, is_same, meets, face_state, complement_of, otherwise_of, joined_by, both_of, state_with}
use Rattle.colour.specs.Entries.{face_bounds, entry_with, past_from, first_past}
use Rattle.colour.proofs.Turned.{either-turned, both-self, both-complement, both-mixed}
use Rattle.zonemap.specs.declared.Leaf.{Leaf}
use Rattle.zonemap.specs.Map.{map_of}
use Rattle.zonemap.proofs.Bytes.{map-length}
use Rattle.tree.specs.Visit.{upto, visit}
use Rattle.tree.specs.Solid.{solid_state, is_gray, leaf_of, leaves_below}
use Rattle.building.specs.Build.{map_by, over_root_with, build_with}
use Rattle.zone.specs.Replies.{reply, zone_outcome, outcome_by_number, zone_build_of}
use Rattle.demands.specs.Terms.{GoodSheet}
use Rattle.demands.specs.SameFace.{OfFace}
use Rattle.demands.specs.Rows.{AllHold, mentioned_twice}
use Rattle.demands.specs.Before03.{solid_before, zone_build_before}
use Rattle.demands.specs.SameFace.{SameFace}
use Rattle.demands.proofs.Sheets.{good-check}
use Rattle.demands.proofs.Truthful.{no_touch}
use Rattle.demands.proofs.Soundness.{truthful}
use Rattle.demands.proofs.Before03.{same-state, truthful-before, no_longer}
use Rattle.demands.proofs.StillAnswered.{still-answered}
use Rattle.demands.proofs.Rows.{stores}

-- ---- the rule
-- a state that names a face is neither Out nor In and has that face, and so has its complement
module _ (f : ℕ) (s : State) (h : OfFace f s) where
  terminal : (2 ≤ class_of s) × (face_of s ≡ f)
  terminal = ⊎_elim (λ (e : s ≡ Single f). rw e (omega arith, refl)) (λ (e : s ≡ Comp f). rw e (omega arith, refl)) h

  turned : OfFace f (complement_of s)
  turned = ⊎_elim (λ (e : s ≡ Single f). inr (ap complement_of e)) (λ (e : s ≡ Comp f). inl (ap complement_of e)) h

both-different : (f g : ℕ) → (f ≡ g → ⊥) → (s t : State) → OfFace f s → OfFace g t → both_of s t ≡ Mixed
both-different f g n s t h k =
    let a = terminal f s h in
    let b = terminal g t k in
    let c = terminal g (complement_of t) (turned g t k) in
    both-mixed s t
    (λ e. omega (arith, a.0, ap class_of e)) (λ e. omega (arith, a.0, ap class_of e))
    (λ e. omega (arith, b.0, ap class_of e)) (λ e. omega (arith, b.0, ap class_of e))
    (λ e. n (omega (arith, a.1, b.1, ap face_of e))) (λ e. n (omega (arith, a.1, c.1, ap face_of e)))

pub same-face : SameFace
same-face = record {
  twice = λ f. (
    both-self (Single f),
    either-turned (Single f) (Single f) ∙ ap complement_of (both-self (Comp f)),
    both-self (Comp f),
    either-turned (Comp f) (Comp f) ∙ ap complement_of (both-self (Single f)),
  );
  opposite = λ f.
      let single = both-complement (Single f) (λ e. omega (arith, ap class_of e)) in
      let comp = both-complement (Comp f) (λ e. omega (arith, ap class_of e)) in
      (single, comp, either-turned (Single f) (Comp f) ∙ ap complement_of comp, either-turned (Comp f) (Single f) ∙ ap complement_of single);
  different = λ f g n s t h k.
      (both-different f g n s t h k, either-turned s t ∙ ap complement_of (both-different f g n (complement_of s) (complement_of t) (turned f s h) (turned g t k)));
  same-state = λ rs q. same-state q rs;
  truthful = truthful-before;
  no_touch = λ sheet old new b c.
      let before = truthful-before sheet old b in
      let now = truthful sheet new c in
      (no_touch sheet old new before now, no_touch sheet new old now before);
  still-answered = still-answered;
  no_longer = no_longer;
}

-- ---- rows
-- the map with these leaves, by any rule for the state of a cube
gives : (over : List Record → Cube → State) (rs : List Record) (root : Root) (leaves : List Leaf)
    → in_limits root ≡ true → first_past rs (root_cube root) ≡ [] → leaves_below (over rs) root.d (root_cube root) ≡ leaves
    → (sheet out : List ℕ) → GoodSheet sheet → records_of sheet ≡ rs → 19 + 3 * length leaves ≤ length out
    → outcome_by_number (build_with (λ rs. map_by (over rs)) sheet root out) ≡ zone_outcome (reply 0 (19 + 3 * length leaves)) (map_of root leaves ++ drop (19 + 3 * length leaves) out)
unfolding build_with over_root_with map_by
gives over rs root leaves within none are sheet out good records room =
    stores (build_with (λ rs. map_by (over rs)) sheet root out) (map_of root leaves) out _ (rw (good-check sheet good, records, within, none, are)) (map-length root leaves) room

pub mentioned-twice : AllHold mentioned_twice
unfolding AllHold zone_build_of zone_build_before leaves_below visit upto is_gray leaf_of solid_state solid_before along onward entry_with face_bounds bounds_of state_with across difference meets face_state joined_by otherwise_of is_same root_cube child_of first_past past_from past_end is_small in_limits sizes_fit axis_fits
mentioned-twice = (
  gives solid_state _ _ _ refl refl refl,
  (gives solid_before _ _ _ refl refl refl, (gives solid_state _ _ _ refl refl refl, (gives solid_state _ _ _ refl refl refl, (gives solid_state _ _ _ refl refl refl, tt)))),
)

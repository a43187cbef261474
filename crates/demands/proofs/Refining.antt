-- What request 2026-01 asks for: the refined map, refining in two steps, equality with a map built afresh, and demand 3.
use Rattle.std.specs.Prelude.{Err}
use mathlib.Core.Path.{◌≡◌, refl, sym, ap, ◌∙◌}
use mathlib.Core.Bool.{true}
use mathlib.Core.List.{List, [], ◌∷◌}
use Prim.Native.Nat.{ℕ, ◌+◌, ◌*◌, ◌^◌, ◌≤◌, ◌<◌}
use native.Mathlib.Omega.{arith}
use borrow.Author.Tests.{le-ltb}
use lib.ListN.{length}
use Rattle.integers.specs.First.{on_first}
use Rattle.replies.specs.declared.Refusal.{Refusal}
use Rattle.replies.specs.Table.{refusal_of}
use Rattle.sheet.specs.declared.Record.{Record}
use Rattle.sheet.specs.Records.{records_of}
use Rattle.sheet.specs.Check.{check_of}
use Rattle.records.specs.Faces.{has_face}
use Rattle.cube.specs.declared.Root.{Root}
use Rattle.cube.specs.Limits.{in_limits, WithinLimits, at_depth}
use Rattle.cube.specs.Cubes.{cube_at}
use Rattle.cube.proofs.Limits.{shallower}
use Rattle.cube.proofs.Numbers.{within-limits, limits-within}
use Rattle.meaning.specs.Fractions.{FractionalPoint, InClosed}
use Rattle.zonemap.specs.declared.Leaf.{Leaf}
use Rattle.zonemap.specs.Map.{map_of}
use Rattle.zonemap.specs.Opening.{root_of, leaves_of, fault_of}
use Rattle.zonemap.specs.Leaves.{place_at, nth_leaf, nth_place, nth_cube}
use Rattle.zonemap.proofs.Bytes.{map-length}
use Rattle.zonemap.proofs.Runs.{Run, Fine, run_at, at-run}
use Rattle.zonemap.proofs.Meeting.{leaf-fine, all_end}
use Rattle.tree.specs.Solid.{solid_state, leaf_of}
use Rattle.replacing.specs.Replace.{refined_leaves, refined_map, gray_map}
use Rattle.replacing.proofs.Grays.{gray-opens, gray-root}
use Rattle.building.specs.Build.{outcome, built_map, over_root_with, build_with}
use Rattle.building.proofs.Answers.{Made}
use Rattle.refine.proofs.Grays.{over-same, gray-builds}
use Rattle.pair.specs.Pairs.{pair_refusal}
use Rattle.pair.proofs.Openings.{pair-good, pair-opens}
use Rattle.refine.specs.Refine.{refine_of}
use Rattle.refine.proofs.Answers.{opened-refines}
use Rattle.roundtrip.proofs.Named.{solid-good}
use Rattle.roundtrip.proofs.Refined.{refined-root, refined-leaves, refined-opens, refined-again, same_place, new-run, stands as leaf-stands}
use Rattle.zone.specs.Replies.{ZoneOutcome, outcome_by_number, zone_build_of, zone_refine_of}
use Rattle.demands.specs.Terms.{Built, Refined, refined_of, Agrees, Truthful}
use Rattle.demands.specs.Refining.{TheRefined}
use Rattle.demands.proofs.Opening.{opens-told}
use Rattle.demands.proofs.Refines.{made}
use Rattle.demands.proofs.Maps.{first-bytes, later-stay, told as built-told}
use Rattle.demands.proofs.Truthful.{leaf-agrees}
use Rattle.demands.proofs.Soundness.{solid-sound}

-- ---- a refined map
module _ (sheet old map : List ℕ) (r : Refined sheet old map) where
  abbrev rs : List Record
  rs = records_of sheet

  abbrev depth : ℕ
  depth = r.depth

  abbrev new : Root
  new = at_depth depth (root_of old)

  told : (pair_refusal sheet old ≡ []) × ((root_of old).d ≤ depth) × Made r.size r.before r.after rs new (refined_of sheet old depth)
  unfolding zone_refine_of
  told =
      let e = r.returned in
      let t = made sheet old depth r.before (sym (ap (λ (o : ZoneOutcome). o.reply.code) e)) in
      (t.0, t.1, rw (← ap (λ (o : ZoneOutcome). o.reply.number) e, ← ap (λ (o : ZoneOutcome). o.buffer) e) at t.2)

  opens : fault_of (has_face rs) old ≡ []
  opens = pair-opens sheet old told.0

  within : in_limits new ≡ true
  within = told.2.within

  is : map ≡ refined_of sheet old depth
  is = r.bytes ∙ first-bytes r.size (refined_of sheet old depth) r.before r.after told.2.size told.2.bytes

  root_is : root_of map ≡ new
  root_is = ap root_of is ∙ refined-root (has_face rs) (solid_state rs) (solid-good rs) old opens depth told.1 within

  leaves-are : leaves_of map ≡ refined_leaves (solid_state rs) depth old
  leaves-are = ap leaves_of is ∙ refined-leaves (has_face rs) (solid_state rs) (solid-good rs) old opens depth told.1 within

  no-fault : fault_of (has_face rs) map ≡ []
  no-fault = ap (fault_of (has_face rs)) is ∙ refined-opens (has_face rs) (solid_state rs) (solid-good rs) old opens depth told.1 within

  pub stands : (i : ℕ) → i < length (leaves_of old) → ((nth_leaf old i).class ≡ 4 → ⊥) → (j : ℕ) × ((j < length (leaves_of map)) × (nth_leaf map j ≡ nth_leaf old i) × (nth_cube map j ≡ nth_cube old i))
  stands i among other = rw is (leaf-stands (has_face rs) (solid_state rs) (solid-good rs) old opens depth told.1 within i among other)

  pub the-refined : TheRefined sheet old map r
  unfolding refined_map
  the-refined = record {
    is = is;
    size = told.2.size ∙ map-length new (refined_leaves (solid_state rs) depth old) ∙ ap (λ (ls : List Leaf). 19 + 3 * length ls) (sym leaves-are);
    later-stay = later-stay r.size (refined_of sheet old depth) r.before r.after told.2.size told.2.bytes;
    opens = opens-told (has_face rs) map no-fault;
    root = root_is;
    stands = stands;
  }

  -- ---- refining it again
  opened : pair_refusal sheet map ≡ []
  unfolding pair_refusal
  opened = rw (pair-good sheet old told.0, no-fault)

  module _ (d : ℕ) (further : depth ≤ d) where
    abbrev deepest : Root
    deepest = at_depth d (root_of old)

    same_map : refined_map (solid_state rs) map deepest ≡ refined_map (solid_state rs) old deepest
    unfolding refined_map
    same_map =
        ap (λ (m : List ℕ). map_of deepest (refined_leaves (solid_state rs) d m)) is
        ∙ ap (map_of deepest) (refined-again (has_face rs) (solid_state rs) (solid-good rs) old opens depth told.1 within d further)

    pub again : (before : List ℕ) → zone_refine_of sheet map d before ≡ zone_refine_of sheet old d before
    unfolding zone_refine_of
    again before =
        ap outcome_by_number
        (opened-refines sheet map d before opened (rw root_is further)
        ∙ ap (λ (r : Root). over_root_with (λ rs. refined_map (solid_state rs) map) rs (at_depth d r) before) root_is
        ∙ over-same (λ rs. refined_map (solid_state rs) map) (λ rs. refined_map (solid_state rs) old) rs deepest before same_map
        ∙ sym (opened-refines sheet old d before told.0 (omega (arith, told.1))))

  -- ---- demand 3
  module _ (t : Truthful sheet old) where
    -- a leaf at a place of a root agrees with the sheet at every point of its closed cube, provided that what it names is a face
    abbrev AgreesAt : Root → ℕ → Leaf → Type 0
    AgreesAt root p l = (pt : FractionalPoint) → InClosed (cube_at root p l.level) pt → (l.class ≡ 2 → has_face rs l.face ≡ true) → (l.class ≡ 3 → has_face rs l.face ≡ true) → Agrees rs l pt

    abbrev From : ℕ → Leaf → Type 0
    From p l = Fine (has_face rs) (root_of old).d p l × AgreesAt (root_of old) p l

    old-run : Run From (root_of old).d 0 (leaves_of old) (8 ^ (root_of old).d)
    old-run =
        at-run From (root_of old).d 0 (8 ^ (root_of old).d) (leaves_of old)
        (λ i among.
        let z : 0 + nth_place old i ≡ nth_place old i = omega arith in
        rw z (leaf-fine old (has_face rs, opens) i among, λ pt closed _ _. t.agrees pt i (record { among = among; closed = closed })))
        (omega (arith, all_end old (has_face rs, opens)))

    -- a leaf that is built for its cube
    built-agrees : (p : ℕ) (l : Leaf) → l ≡ leaf_of (solid_state rs) (cube_at new p l.level) → AgreesAt new p l
    unfolding leaf_of
    built-agrees p l e pt closed =
        let q = cube_at new p l.level in
        leaf-agrees rs q l (record { state = solid_state rs q; class = ap (λ (x : Leaf). x.class) e; face = ap (λ (x : Leaf). x.face) e; sound = solid-sound rs q }) pt closed

    new-agrees : Run (AgreesAt new) depth 0 (refined_leaves (solid_state rs) depth old) (8 ^ depth)
    new-agrees =
        new-run (has_face rs) (solid_state rs) (solid-good rs) old opens depth told.1 within From (AgreesAt new) old-run
        (λ p l from. from.0)
        (λ p l from other good pt closed. from.1 pt (rw (same_place (has_face rs) (solid_state rs) (solid-good rs) old opens depth told.1 within p l.level) at closed))
        (λ g gray from c p l good e low high. built-agrees p l e)

    pub truthful : Truthful sheet map
    truthful =
        let sound = opens-told (has_face rs) map no-fault in
        record {
          opens = sound;
          agrees = λ pt i touches.
              let good = sound.good i touches.among in
              at_leaf i touches.among pt touches.closed good.terminal good.complement;
        }
      where
        at_leaf : (i : ℕ) → i < length (leaves_of map) → AgreesAt (root_of map) (nth_place map i) (nth_leaf map i)
        at_leaf i among =
            let z : 0 + place_at depth i (leaves_of map) ≡ place_at depth i (leaves_of map) = omega arith in
            rw root_is (rw z at (run_at (AgreesAt new) depth 0 (8 ^ depth) i (leaves_of map) (rw leaves-are new-agrees) among))

-- ---- to build is to refine the map of one gray leaf
one-first : {A : Type 0} (xs : List Refusal) (f : Refusal → A) (rest : A) → on_first (on_first xs (λ why. why ∷ []) []) f rest ≡ on_first xs f rest
one-first [] f rest = refl
one-first (x ∷ xs) f rest = refl

pub from-gray : (sheet : List ℕ) (root : Root) → WithinLimits (at_depth 0 root) → (before : List ℕ) → zone_refine_of sheet (gray_map root) root.d before ≡ zone_build_of sheet root before
unfolding zone_refine_of refine_of pair_refusal zone_build_of build_with
from-gray sheet root limits before =
    let top = limits-within (at_depth 0 root) limits in
    rw (gray-opens root top (has_face (records_of sheet)), gray-root root top, le-ltb root.d 0 (omega arith))
    (ap outcome_by_number
    (one-first (refusal_of (check_of sheet)) _ _
    ∙ ap (on_first (refusal_of (check_of sheet)) (λ why. outcome (Err why) before)) (over-same (λ rs. refined_map (solid_state rs) (gray_map root)) built_map (records_of sheet) root before (gray-builds root top (records_of sheet)))))

-- ---- so a map that was built, refined, is the one built afresh
pub as-built : (sheet map : List ℕ) (built : Built sheet map) (d : ℕ) → built.root.d ≤ d → (before : List ℕ) → zone_refine_of sheet map d before ≡ zone_build_of sheet (at_depth d built.root) before
unfolding zone_build_of gray_map
as-built sheet map built d more before =
    again sheet (gray_map built.root) map refined d more before ∙ later
  where
    limits : WithinLimits (at_depth 0 built.root)
    limits = within-limits (at_depth 0 built.root) (shallower built.root (built-told solid_state solid-good sheet map built).1.within 0 (omega arith))

    refined : Refined sheet (gray_map built.root) map
    refined = record {
      depth = built.root.d;
      before = built.before;
      after = built.after;
      size = built.size;
      returned = built.returned ∙ sym (from-gray sheet built.root limits built.before);
      bytes = built.bytes;
    }

    later : zone_refine_of sheet (gray_map built.root) d before ≡ zone_build_of sheet (at_depth d built.root) before
    later = from-gray sheet (at_depth d built.root) limits before

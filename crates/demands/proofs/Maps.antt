-- What a map built from a sheet is: the map that the rules name. It opens, and each of its leaves is that of the cube at its own place.
use Rattle.std.specs.Prelude.{Ok}
use mathlib.Core.Path.{◌≡◌, sym, ap, ◌∙◌}
use mathlib.Core.Bool.{true}
use mathlib.Core.List.{List, ◌++◌}
use Prim.Native.Nat.{ℕ, ◌<◌}
use borrow.Author.Tests.{eqb-true, eq-eqb}
use lib.ListN.{length, take, drop}
use lib.Seq.{take-append_seam, drop-append_seam}
use Rattle.sheet.specs.declared.Record.{Record}
use Rattle.sheet.specs.Records.{records_of}
use Rattle.sheet.specs.Check.{check_of}
use Rattle.records.specs.Faces.{has_face}
use Rattle.cube.specs.declared.Root.{Root}
use Rattle.cube.specs.declared.Cube.{Cube}
use Rattle.cube.specs.declared.Point.{Point}
use Rattle.cube.specs.Limits.{in_limits}
use Rattle.cube.specs.Cubes.{root_cube, cube_around}
use Rattle.cube.specs.Points.{InRoot}
use Rattle.colour.specs.declared.State.{State}
use Rattle.colour.specs.States.{class_of}
use Rattle.colour.proofs.Smaller.{none-keep}
use Rattle.zonemap.specs.Opening.{root_of, leaves_of, face_good, fault_of}
use Rattle.zonemap.specs.Leaves.{nth_leaf, nth_place, nth_cube}
use Rattle.zonemap.proofs.Bytes.{map-length}
use Rattle.tree.specs.Solid.{solid_state, leaf_by, is_gray, leaf_of}
use Rattle.building.specs.Build.{map_by, built_map, build_with}
use Rattle.building.proofs.Answers.{Made}
use Rattle.roundtrip.proofs.Named.{solid-good}
use Rattle.roundtrip.proofs.Built.{all_leaves, tree-root, tree-leaves, tree_opens, tree-leaf, tree-above}
use Rattle.zone.specs.Replies.{ZoneOutcome, outcome_by_number, zone_build_of}
use Rattle.demands.specs.Terms.{BuiltBy, Built, Opens, CanLookUp}
use Rattle.demands.specs.Demands.{TheMap}
use Rattle.demands.proofs.Sheets.{check-good}
use Rattle.demands.proofs.Opening.{opens-told, any-opens, opens as zone-opens}
use Rattle.demands.proofs.Outcomes.{made}

-- a buffer that starts with the map
module _ (n : ℕ) (map before after : List ℕ) (size : n ≡ length map) (bytes : after ≡ map ++ drop (length map) before) where
  pub first-bytes : take n after ≡ map
  first-bytes = rw (bytes, size) (take-append_seam map (drop (length map) before))

  pub later-stay : drop n after ≡ drop n before
  later-stay = rw (bytes, size) (drop-append_seam map (drop (length map) before))

-- ---- a map that was built by any rule for the state of a cube that names no faces but the sheet's
module _ (over : List Record → Cube → State) (good : (rs : List Record) (level : ℕ) (q : Cube) → face_good (has_face rs) (leaf_by level (over rs q)) ≡ true) where
  -- what building by it returns
  abbrev pub build_by : List ℕ → Root → List ℕ → ZoneOutcome
  build_by sheet root before = outcome_by_number (build_with (λ rs. map_by (over rs)) sheet root before)

  module _ (sheet map : List ℕ) (b : BuiltBy build_by sheet map) where
    abbrev rs : List Record
    rs = records_of sheet

    abbrev root : Root
    root = b.root

    -- the sheet is good, and the buffer begins with its map
    pub told : ((n : ℕ) × (check_of sheet ≡ Ok n)) × Made b.size b.before b.after rs root (map_by (over rs) root)
    told =
        let e = b.returned in
        let t = made (λ rs. map_by (over rs)) sheet root b.before (sym (ap (λ (o : ZoneOutcome). o.reply.code) e)) in
        (t.0, rw (← ap (λ (o : ZoneOutcome). o.reply.number) e, ← ap (λ (o : ZoneOutcome). o.buffer) e) at t.1)

    within : in_limits root ≡ true
    within = told.1.within

    -- the map that the rules name
    pub is : map ≡ map_by (over rs) root
    is = b.bytes ∙ first-bytes b.size (map_by (over rs) root) b.before b.after told.1.size told.1.bytes

    pub root_is : root_of map ≡ root
    root_is = ap root_of is ∙ tree-root (over rs) root within

    pub leaves-are : leaves_of map ≡ all_leaves (over rs) root
    leaves-are = ap leaves_of is ∙ tree-leaves (over rs) root

    -- it opens with the faces of the sheet
    pub opens-with : Opens (has_face rs) map
    opens-with = opens-told (has_face rs) map (ap (fault_of (has_face rs)) is ∙ tree_opens (has_face rs) (over rs) (good rs) root within)

    -- each leaf is that of the cube at its own place
    pub leaf-there : (i : ℕ) → i < length (leaves_of map) → nth_leaf map i ≡ leaf_of (over rs) (nth_cube map i)
    leaf-there i h = rw (leaves-are, root_is) (tree-leaf (has_face rs) (over rs) (good rs) root within i (rw leaves-are at h))

    -- and all cubes above it are gray
    pub above-there : (i level : ℕ) → i < length (leaves_of map) → level < (nth_leaf map i).level → is_gray (over rs) (cube_around (root_of map) (nth_place map i) level) ≡ true
    above-there i level h = rw (leaves-are, root_is) (tree-above (has_face rs) (over rs) (good rs) root within i (rw leaves-are at h) level)

-- its class is 4
pub gray-class : (over : Cube → State) (q : Cube) → is_gray over q ≡ true → (leaf_of over q).class ≡ 4
unfolding is_gray leaf_of
gray-class over q e = eqb-true (class_of (over q)) 4 e

pub class-gray : (over : Cube → State) (q : Cube) → (leaf_of over q).class ≡ 4 → is_gray over q ≡ true
unfolding is_gray leaf_of
class-gray over q e = eq-eqb (class_of (over q)) 4 e

-- ---- a map built from a sheet
module _ (sheet map : List ℕ) (b : Built sheet map) where
  -- a lookup in it is refused only if the position is not in the root
  pub can-look-up : (p : Point) → InRoot (root_of map) p → CanLookUp sheet map p
  unfolding zone_build_of
  can-look-up p inside =
      let t = told solid_state solid-good sheet map b in
      record {
        good = check-good sheet t.0.0 t.0.1;
        opens = opens-with solid_state solid-good sheet map b;
        bounded = rw (root_is solid_state solid-good sheet map b) (none-keep (records_of sheet) (root_cube b.root) t.1.none);
        inside = inside;
      }

  pub the-map : TheMap sheet map b
  unfolding zone_build_of map_by
  the-map =
      let made = (told solid_state solid-good sheet map b).1 in
      record {
        is = is solid_state solid-good sheet map b;
        root = root_is solid_state solid-good sheet map b;
        size = made.size ∙ map-length b.root (all_leaves (solid_state (records_of sheet)) b.root) ∙ rw (leaves-are solid_state solid-good sheet map b);
        later-stay = later-stay b.size (built_map (records_of sheet) b.root) b.before b.after made.size made.bytes;
        opens = (zone-opens map).done (any-opens (has_face (records_of sheet)) map (opens-with solid_state solid-good sheet map b));
        leaf = leaf-there solid_state solid-good sheet map b;
        above = λ i level h l. gray-class (solid_state (records_of sheet)) _ (above-there solid_state solid-good sheet map b i level h l);
      }

-- What request 2026-01 asks for.
use Rattle.std.specs.Prelude.{◌≡◌, Bool, cond, List, ℕ, ◌+◌, ◌*◌, ◌≤◌, ◌<◌, length, drop}
use Rattle.sheet.specs.Records.{records_of}
use Rattle.records.specs.Faces.{has_face}
use Rattle.cube.specs.declared.Root.{Root}
use Rattle.cube.specs.Limits.{WithinLimits, at_depth}
use Rattle.cube.specs.declared.Point.{Point}
use Rattle.zonemap.specs.Opening.{root_of, leaves_of}
use Rattle.zonemap.specs.Leaves.{nth_leaf, nth_cube}
use Rattle.replacing.specs.Replace.{gray_map}
use Rattle.zone.specs.Replies.{reply, zone_build_of, zone_refine_of, zone_lookup_of}
use Rattle.demands.specs.Terms.{Built, Refined, Opens, refined_of, Truthful}
use Rattle.demands.specs.Before03.{BuiltBefore}

-- "writes a new map into a second buffer: each gray leaf is replaced by what the building rules give for its cube at the new depth, all others stand as they were,
-- levels included": `refined_of` is this rule, for every map that opens with the sheet
pub record TheRefined (sheet old map : List ℕ) (refined : Refined sheet old map) : Type 0 where
  pub is : map ≡ refined_of sheet old refined.depth
  pub size : refined.size ≡ 19 + 3 * length (leaves_of map)
  pub later-stay : drop refined.size refined.after ≡ drop refined.size refined.before
  -- the new map opens with the sheet too, over the same root at the new depth
  pub opens : Opens (has_face (records_of sheet)) map
  pub root : root_of map ≡ at_depth refined.depth (root_of old)
  -- each leaf of the old map that is not gray is a leaf of the new one, with its level, class and face, and of the same cube
  pub stands : (i : ℕ) → i < length (leaves_of old) → ((nth_leaf old i).class ≡ 4 → ⊥) → (j : ℕ) × ((j < length (leaves_of map)) × (nth_leaf map j ≡ nth_leaf old i) × (nth_cube map j ≡ nth_cube old i))

-- a map built before request 2026-03, which refining at its own depth does not make equal to the one built afresh
pub record BuiltOtherwise : Type 0 where
  pub sheet : List ℕ
  pub map : List ℕ
  pub built : BuiltBefore sheet map
  pub differs : (before : List ℕ) → length map ≤ length before → zone_refine_of sheet map (root_of map).d before ≡ zone_build_of sheet (root_of map) before → ⊥

-- Request 2026-01: refine a finished map.
pub record Refining : Type 0 where
  pub the-refined : (sheet old map : List ℕ) (refined : Refined sheet old map) → TheRefined sheet old map refined
  -- so a position that the old map answered, inside or outside, gets the same answer from the new map
  pub still-answered : (sheet old map : List ℕ) → Refined sheet old map → (p : Point) (inside : Bool) → zone_lookup_of sheet old p ≡ reply 0 (cond inside 1 0) → zone_lookup_of sheet map p ≡ reply 0 (cond inside 1 0)
  -- "for a map built from that sheet the new map equals, byte for byte, the one built afresh at the new depth": so do code and number, refusals included
  pub as-built : (sheet map : List ℕ) (built : Built sheet map) (d : ℕ) → built.root.d ≤ d → (before : List ℕ) → zone_refine_of sheet map d before ≡ zone_build_of sheet (at_depth d built.root) before
  -- "only for maps built by the new rule" of request 2026-03
  pub only-today : BuiltOtherwise
  -- to build is to refine the map whose one leaf is the root, gray
  pub from-gray : (sheet : List ℕ) (root : Root) → WithinLimits (at_depth 0 root) → (before : List ℕ) → zone_refine_of sheet (gray_map root) root.d before ≡ zone_build_of sheet root before
  -- refining in two steps is refining at once
  pub again : (sheet old map : List ℕ) (refined : Refined sheet old map) (d : ℕ) → refined.depth ≤ d → (before : List ℕ) → zone_refine_of sheet map d before ≡ zone_refine_of sheet old d before
  -- "Demand 3 covers refined maps": if the old map is truthful, whatever rule made it, the new one is
  pub truthful : (sheet old map : List ℕ) → Truthful sheet old → Refined sheet old map → Truthful sheet map

-- The customer's three demands, stated of the calls that ship, by document 01's codes and numbers: zone_check_of, zone_build_of, zone_refine_of,
-- zone_open_of and zone_lookup_of are what the contracts of zone_check, zone_build, zone_refine, zone_open and zone_lookup say (proofs/Contracts). proofs/Kept has the proof of all.
use Rattle.std.specs.Prelude.{◌≡◌, Bool, cond, not, List, ℕ, ◌+◌, ◌*◌, ◌<◌, length, drop}
use Rattle.sheet.specs.Records.{records_of}
use Rattle.cube.specs.declared.Root.{Root}
use Rattle.cube.specs.declared.Point.{Point}
use Rattle.cube.specs.Cubes.{cube_around}
use Rattle.cube.specs.Points.{InRoot}
use Rattle.meaning.specs.Fractions.{FractionalPoint, whole, InClosedRoot}
use Rattle.meaning.specs.Truth.{holds_at, in_solid}
use Rattle.zonemap.specs.Opening.{root_of, leaves_of, any_face}
use Rattle.zonemap.specs.Leaves.{nth_leaf, nth_place, nth_cube}
use Rattle.tree.specs.Solid.{solid_state, leaf_of}
use Rattle.building.specs.Build.{built_map}
use Rattle.zone.specs.declared.ZoneReply.{ZoneReply}
use Rattle.zone.specs.Replies.{reply, zone_check_of, ZoneOutcome, zone_outcome, zone_build_of, zone_refine_of, zone_open_of, zone_lookup_of}
use Rattle.demands.specs.Terms.{ExactlyOne, DoneWhere, Built, Holds, Touches, GoodSheet, Opens, refined_of, CanBuild, CanRefine, CanLookUp, Truthful, NoTouch}
use Rattle.demands.specs.Table.{Table}
use Rattle.demands.specs.Rows.{AllHold, eleven_rows, limit_rows, mentioned_twice, strict_rows, refined_rows}
use Rattle.demands.specs.Reply11.{Reply11}
use Rattle.demands.specs.SameFace.{SameFace}
use Rattle.demands.specs.Versions.{Versions}
use Rattle.demands.specs.Refining.{Refining}

-- 1. Every sheet, root cube, depth, map and position gets an answer. A bad one gets the refusal in document 01, in its stated order, without any check by the
-- caller, and the map buffer is then unchanged.
pub record Demand1 : Type 0 where
  -- A contract is one equation: the outcome is what a definition gives for the inputs. So exactly one reply, or one with every byte of the buffer, meets it.
  pub one-reply : (told : ZoneReply) → ExactlyOne (λ (r : ZoneReply). r ≡ told)
  pub one-outcome : (told : ZoneOutcome) → ExactlyOne (λ (o : ZoneReply × List ℕ). zone_outcome o.0 o.1 ≡ told)
  -- code 0 exactly if no row of the table refuses, with the number of records, the map's length, the number of leaves, or what the leaf says (demand 2)
  pub checks : (sheet : List ℕ) → DoneWhere (GoodSheet sheet) (zone_check_of sheet) (length (records_of sheet))
  pub builds : (sheet : List ℕ) (root : Root) (before : List ℕ) → DoneWhere (CanBuild sheet root before) (zone_build_of sheet root before).reply (length (built_map (records_of sheet) root))
  pub refines : (sheet map : List ℕ) (d : ℕ) (before : List ℕ) → DoneWhere (CanRefine sheet map d before) (zone_refine_of sheet map d before).reply (length (refined_of sheet map d))
  pub opens : (map : List ℕ) → DoneWhere (Opens any_face map) (zone_open_of map) (length (leaves_of map))
  pub looks-up : (sheet map : List ℕ) (p : Point) → DoneWhere (CanLookUp sheet map p) (zone_lookup_of sheet map p) (zone_lookup_of sheet map p).number
  -- each refusal, by its code and its number, in the order of the table
  pub refuses : Table
  -- a sheet that zone_check refuses is refused by every call that takes it, with the same code and number
  pub build-refused : (sheet : List ℕ) → ((zone_check_of sheet).code ≡ 0 → ⊥) → (root : Root) (before : List ℕ) → zone_build_of sheet root before ≡ zone_outcome (zone_check_of sheet) before
  pub refine-refused : (sheet : List ℕ) → ((zone_check_of sheet).code ≡ 0 → ⊥) → (map : List ℕ) (d : ℕ) (before : List ℕ) → zone_refine_of sheet map d before ≡ zone_outcome (zone_check_of sheet) before
  pub lookup-refused : (sheet : List ℕ) → ((zone_check_of sheet).code ≡ 0 → ⊥) → (map : List ℕ) (p : Point) → zone_lookup_of sheet map p ≡ zone_check_of sheet
  -- a refusal leaves the buffer unchanged
  pub unchanged : (sheet : List ℕ) (root : Root) (before : List ℕ) → ((zone_build_of sheet root before).reply.code ≡ 0 → ⊥) → (zone_build_of sheet root before).buffer ≡ before
  pub refine-unchanged : (sheet map : List ℕ) (d : ℕ) (before : List ℕ) → ((zone_refine_of sheet map d before).reply.code ≡ 0 → ⊥) → (zone_refine_of sheet map d before).buffer ≡ before

-- 2. The map is exactly the one named by the interval rules in document 01: same cubes, order, colours and length.
pub record TheMap (sheet map : List ℕ) (built : Built sheet map) : Type 0 where
  pub is : map ≡ built_map (records_of sheet) built.root
  pub size : built.size ≡ 19 + 3 * length (leaves_of map)
  pub later-stay : drop built.size built.after ≡ drop built.size built.before
  -- it opens with the root that was asked for, and each leaf is that of the cube at its own place
  pub opens : zone_open_of map ≡ reply 0 (length (leaves_of map))
  pub root : root_of map ≡ built.root
  pub leaf : (i : ℕ) → i < length (leaves_of map) → nth_leaf map i ≡ leaf_of (solid_state (records_of sheet)) (nth_cube map i)
  -- and every cube that it lies in, of a lesser level, is gray: only gray cubes were split
  pub above : (i level : ℕ) → i < length (leaves_of map) → level < (nth_leaf map i).level
      → (leaf_of (solid_state (records_of sheet)) (cube_around (root_of map) (nth_place map i) level)).class ≡ 4

-- A lookup answers by the leaf that holds the position, and by that leaf's one face where it names one. (White answers 0, black 1, gray 2. Terminal works
-- out its face exactly at the point; class 3 turns the answer over.)
pub record ByTheLeaf (sheet map : List ℕ) (p : Point) : Type 0 where
  pub number : ℕ
  pub holds : Holds map p number
  pub white : (nth_leaf map number).class ≡ 0 → zone_lookup_of sheet map p ≡ reply 0 0
  pub black : (nth_leaf map number).class ≡ 1 → zone_lookup_of sheet map p ≡ reply 0 1
  pub terminal : (nth_leaf map number).class ≡ 2 → zone_lookup_of sheet map p ≡ reply 0 (cond (holds_at (records_of sheet) (nth_leaf map number).face (whole p)) 1 0)
  pub complement : (nth_leaf map number).class ≡ 3 → zone_lookup_of sheet map p ≡ reply 0 (cond (not (holds_at (records_of sheet) (nth_leaf map number).face (whole p))) 1 0)
  pub gray : (nth_leaf map number).class ≡ 4 → zone_lookup_of sheet map p ≡ reply 0 2

pub record Demand2 : Type 0 where
  pub the-map : (sheet map : List ℕ) (built : Built sheet map) → TheMap sheet map built
  pub can-look-up : (sheet map : List ℕ) → Built sheet map → (p : Point) → InRoot (root_of map) p → CanLookUp sheet map p
  pub by-the-leaf : (sheet map : List ℕ) (p : Point) → CanLookUp sheet map p → ByTheLeaf sheet map p

-- 3. Take any map built from a sheet, and any point of its closed root cube, its coordinates being fractions with one positive denominator. If it is in a white
-- leaf's closed cube it is outside the solid; in a black one, inside; in a terminal one, it agrees with the named face or with its complement, as marked.
pub record Demand3 : Type 0 where
  -- `Truthful` (specs/Terms) says this of a map: each leaf agrees with the sheet, in these words, at every such point of its closed cube
  pub truthful : (sheet map : List ℕ) → Built sheet map → Truthful sheet map
  -- So no white leaf shares even a corner with a black leaf, in one map or in two maps built from that sheet with other roots or depths.
  pub no-touch-built : (sheet one other : List ℕ) → Built sheet one → Built sheet other → NoTouch one other
  -- the same holds for any two truthful maps of one sheet, however they were made
  pub no_touch : (sheet one other : List ℕ) → Truthful sheet one → Truthful sheet other → NoTouch one other
  -- zone_open opens every truthful map
  pub opens : (sheet map : List ℕ) → Truthful sheet map → (zone_open_of map).code ≡ 0
  -- in every map that it opens, each whole point of the root is in one leaf, and each point of the closed root is in the closed cube of some leaf
  pub tiling : (map : List ℕ) → (zone_open_of map).code ≡ 0 → (p : Point) → InRoot (root_of map) p → ExactlyOne (Holds map p)
  pub covering : (map : List ℕ) → (zone_open_of map).code ≡ 0 → (p : FractionalPoint) → InClosedRoot (root_of map) p → (i : ℕ) × Touches map p i
  -- if a lookup in a truthful map returns 1, inside, or 0, outside, the position is indeed inside or outside the solid
  pub truth : (sheet map : List ℕ) → Truthful sheet map → (p : Point) (inside : Bool) → zone_lookup_of sheet map p ≡ reply 0 (cond inside 1 0)
      → in_solid (records_of sheet) (whole p) ≡ inside

-- the three demands, the eleven rows marked P, that of the limit with both ends (request 2026-04), and what requests 2026-11, 2026-03, 2026-07 and 2026-01 ask for
pub record Demands : Type 0 where
  pub first : Demand1
  pub second : Demand2
  pub third : Demand3
  pub rows : AllHold eleven_rows
  pub limit-rows : AllHold limit_rows
  pub reply-11 : Reply11
  pub same-face : SameFace
  pub mentioned-twice : AllHold mentioned_twice
  pub versions : Versions
  pub strict-rows : AllHold strict_rows
  pub refining : Refining
  pub refined-rows : AllHold refined_rows

-- The eleven rows marked P hold, and the rows of request 2026-07.
use mathlib.Core.Path.{◌≡◌, refl, ap, ◌∙◌}
use mathlib.Core.List.{List, [], ◌∷◌, ◌++◌}
use Prim.Native.Nat.{ℕ, ◌≤◌, ◌<◌}
use native.Mathlib.Omega.{arith}
use borrow.Author.Tests.{lt-ltb, le-ltb}
use lib.ListN.{length, drop}
use Rattle.sheet.specs.declared.Record.{Record}
use Rattle.sheet.specs.Records.{records_of}
use Rattle.sheet.specs.Table.{comparison_of}
use Rattle.sheet.specs.Check.{is_version}
use Rattle.sheet.specs.StepRoom.{step_sheet, strict_sheet}
use Rattle.cube.specs.declared.Root.{Root}
use Rattle.cube.specs.declared.Point.{Point}
use Rattle.cube.specs.Cubes.{root_cube}
use Rattle.zonemap.specs.declared.Leaf.{Leaf}
use Rattle.zonemap.specs.Map.{map_of}
use Rattle.zonemap.specs.Opening.{leaf_in, leaves_in}
use Rattle.zonemap.proofs.Bytes.{map-length}
use Rattle.zonemap.specs.StepRoom.{step_root, step_map, strict_map}
use Rattle.colour.specs.States.{meets, face_state}
use Rattle.colour.proofs.Rows.{product-row, square-row, unrelated-row}
use Rattle.tree.specs.Solid.{solid_state, leaves_below}
use Rattle.building.specs.Build.{Outcome, map_by, built_map, stored_of, build_of}
use Rattle.tree.proofs.Rows.{depth-2, strict-2, one-face}
use Rattle.building.proofs.Rows.{map-1, strict-map-1, build-0, build-1, build-2}
use Rattle.lookup.proofs.Rows.{by-face-5, inside-2-0-0, outside-3-0-0, undecided-2-2-0, not-in-root-4-0-0, strict-2-0-0, strict-2-2-0, strict-by-face-5}
use Rattle.lookup.specs.Lookup.{Reply}
use Rattle.lookup.specs.Lookup.{lookup_of, numbered}
use Rattle.zone.specs.Replies.{reply, by_number, zone_outcome, outcome_by_number, zone_build_of, zone_lookup_of}
use Rattle.demands.specs.Rows.{AllHold, eleven_rows, strict_rows}
use Rattle.demands.proofs.Outcomes.{made}

-- a map of n bytes is stored in a buffer that has room for it, and refused by 8 if there is none
module _ (o : Outcome) (map out : List ℕ) (n : ℕ) (e : o ≡ stored_of map out) (size : length map ≡ n) where
  pub stores : n ≤ length out → outcome_by_number o ≡ zone_outcome (reply 0 n) (map ++ drop n out)
  unfolding stored_of
  stores h = ap outcome_by_number e ∙ rw (size, le-ltb (length out) n h)

  pub refuses : length out < n → outcome_by_number o ≡ zone_outcome (reply 8 n) out
  unfolding stored_of
  refuses h = ap outcome_by_number e ∙ rw (size, lt-ltb (length out) n h)

-- the reply of a lookup by number
looks-up : (sheet map : List ℕ) (p : Point) (r : Reply) → lookup_of sheet map p ≡ r → zone_lookup_of sheet map p ≡ by_number (numbered r)
unfolding zone_lookup_of
looks-up sheet map p r e = ap (λ (q : Reply). by_number (numbered q)) e

-- a map of one leaf, if building returns code 0
module _ (sheet : List ℕ) (root : Root) (out : List ℕ) (e : (zone_build_of sheet root out).reply.code ≡ 0) (l : Leaf) (one : leaves_below (solid_state (records_of sheet)) root.d (root_cube root) ≡ l ∷ []) where
  one-leaf : zone_build_of sheet root out ≡ zone_outcome (reply 0 22) (map_of root (l ∷ []) ++ drop 22 out)
  unfolding zone_build_of map_by
  one-leaf =
      let m = (made built_map sheet root out e).1 in
      let is : built_map (records_of sheet) root ≡ map_of root (l ∷ []) = ap (map_of root) one in
      let size : length (map_of root (l ∷ [])) ≡ 22 = map-length root (l ∷ []) in
      let number : (zone_build_of sheet root out).reply.number ≡ 22 = m.size ∙ ap length is ∙ size in
      let bytes : (zone_build_of sheet root out).buffer ≡ map_of root (l ∷ []) ++ drop 22 out = m.bytes ∙ rw (is, size) in
      λ i. zone_outcome (reply (e i) (number i)) (bytes i)

-- the maps at depth 1, byte by byte
pub step-1 : (out : List ℕ) → build_of step_sheet (step_root 1) out ≡ stored_of step_map out
unfolding is_version comparison_of
step-1 out = build-1 1 refl out ∙ ap (λ (m : List ℕ). stored_of m out) map-1

pub strict-step-1 : (out : List ℕ) → build_of strict_sheet (step_root 1) out ≡ stored_of strict_map out
unfolding is_version comparison_of
strict-step-1 out = build-1 2 refl out ∙ ap (λ (m : List ℕ). stored_of m out) strict-map-1

pub rows : AllHold eleven_rows
unfolding AllHold zone_build_of leaves_in leaf_in meets face_state map_by is_version comparison_of
rows = (
  λ out h. stores _ _ out 22 (build-0 1 refl out) (map-length (step_root 0) _) h,
  (
    (λ out h. stores _ step_map out 43 (step-1 out) refl h, refl, λ out h. refuses _ step_map out 43 (step-1 out) refl (omega arith)),
    (
      λ out h. stores _ _ out 85 (build-2 1 refl out ∙ ap (λ (ls : List Leaf). stored_of (map_of (step_root 2) ls) out) depth-2) (map-length (step_root 2) _) h,
      (
        (looks-up _ _ _ _ inside-2-0-0, by-face-5),
        (
          looks-up _ _ _ _ outside-3-0-0,
          (
            looks-up _ _ _ _ undecided-2-2-0,
            (
              looks-up _ _ _ _ not-in-root-4-0-0,
              (
                product-row,
                (
                  (square-row, unrelated-row),
                  (
                    λ f. (refl, refl),
                    (
                      λ sheet rs by a root out is s e. one-leaf sheet root out e _ (ap (λ (k : List Record). leaves_below (solid_state k) root.d (root_cube root)) is ∙ one-face rs by a root (length rs) s),
                      tt,
                    ),
                  ),
                ),
              ),
            ),
          ),
        ),
      ),
    ),
  ),
)

-- the rows of request 2026-07
pub strict-rows : AllHold strict_rows
unfolding AllHold zone_build_of leaves_in leaf_in meets face_state map_by is_version comparison_of
strict-rows = (
  λ out h. stores _ _ out 22 (build-0 2 refl out) (map-length (step_root 0) _) h,
  (
    (λ out h. stores _ strict_map out 43 (strict-step-1 out) refl h, refl),
    (
      λ out h. stores _ _ out 85 (build-2 2 refl out ∙ ap (λ (ls : List Leaf). stored_of (map_of (step_root 2) ls) out) strict-2) (map-length (step_root 2) _) h,
      (
        looks-up _ _ _ _ strict-2-0-0,
        (looks-up _ _ _ _ strict-2-2-0, (looks-up _ _ _ _ strict-by-face-5, (λ f. (refl, refl, refl, refl), tt))),
      ),
    ),
  ),
)

-- Document 01's table of replies, in order of test: the code and the number of each refusal, if its row is the first that refuses. Replies 1 to 5 are
-- those of zone_check; the other calls return the same for a sheet that it refuses.
use Rattle.std.specs.Prelude.{◌≡◌, Bool, true, false, List, [], ◌∷◌, ℕ, ◌+◌, ◌*◌, ◌^◌, ◌≤◌, ◌<◌, nat_abs, length, get_or}
use Rattle.sheet.specs.declared.Record.{Record}
use Rattle.sheet.specs.declared.Sort.TheVariants.{Logical}
use Rattle.sheet.specs.Records.{records_of, stop_of}
use Rattle.sheet.specs.Operands.{first_unmet, last_sort}
use Rattle.sheet.specs.Check.{length_fails}
use Rattle.records.specs.Faces.{has_face}
use Rattle.cube.specs.declared.Root.{Root}
use Rattle.cube.specs.declared.Cube.{Cube}
use Rattle.cube.specs.declared.Point.{Point}
use Rattle.cube.specs.Limits.{WithinLimits, at_depth}
use Rattle.cube.specs.Cubes.{root_cube}
use Rattle.cube.specs.Points.{InRoot}
use Rattle.zonemap.specs.Opening.{length_good, root_of, leaves_of, fault_of, any_face}
use Rattle.zonemap.specs.Leaves.{nth_place}
use Rattle.building.specs.Build.{built_map}
use Rattle.zone.specs.declared.ZoneReply.{ZoneReply}
use Rattle.zone.specs.Replies.{reply, zone_check_of, zone_build_of, zone_refine_of, zone_open_of, zone_lookup_of}
use Rattle.demands.specs.Terms.{KnownVersion, GoodSheet, GoodLeaf, Opens, bounds_over, KeepsBefore, KeepsLimit, refined_of}

-- for any sheet
pub record SheetRows (sheet : List ℕ) : Type 0 where
  -- under 3 bytes, or its length disagrees
  pub row-1 : length_fails sheet ≡ true → zone_check_of sheet ≡ reply 1 0
  -- version neither 1 nor 2, by request 2026-07
  pub row-2 : length_fails sheet ≡ false → (KnownVersion sheet → ⊥) → zone_check_of sheet ≡ reply 2 0
  -- a record runs over the end, has an unknown kind, a wrong count, or would be the 257th: its byte offset, the first such
  pub row-3 : length_fails sheet ≡ false → KnownVersion sheet → stop_of sheet < length sheet → zone_check_of sheet ≡ reply 3 (stop_of sheet)
  -- an operand isn't an earlier record or is of the wrong sort: record number, the first such
  pub row-4 : length_fails sheet ≡ false → KnownVersion sheet → length sheet ≤ stop_of sheet → first_unmet [] (records_of sheet) < length (records_of sheet)
      → zone_check_of sheet ≡ reply 4 (first_unmet [] (records_of sheet))
  -- no records, or the last isn't logical: number of records
  pub row-5 : length_fails sheet ≡ false → KnownVersion sheet → length sheet ≤ stop_of sheet → first_unmet [] (records_of sheet) ≡ length (records_of sheet)
      → (last_sort (records_of sheet) ≡ Logical → ⊥) → zone_check_of sheet ≡ reply 5 (length (records_of sheet))

-- row 7 of the reply r, by request 2026-04: n is the first record whose bounds over the root q pass 2^60. The number is twice n, plus 1 for the high end: "the
-- low end if it does" lie outside -2^60 to 2^60, on either side, "otherwise the high end".
pub record Row7 (rs : List Record) (q : Cube) (r : ZoneReply) : Type 0 where
  pub low : (n : ℕ) → KeepsBefore rs q n → 2 ^ 60 < nat_abs (bounds_over rs q n).low → r ≡ reply 7 (2 * n)
  pub high : (n : ℕ) → KeepsBefore rs q n → nat_abs (bounds_over rs q n).low ≤ 2 ^ 60 → 2 ^ 60 < nat_abs (bounds_over rs q n).high → r ≡ reply 7 (2 * n + 1)

-- for a good sheet, zone_build
pub record BuildRows (sheet : List ℕ) (good : GoodSheet sheet) (root : Root) (before : List ℕ) : Type 0 where
  -- root or depth out of limits
  pub row-6 : (WithinLimits root → ⊥) → (zone_build_of sheet root before).reply ≡ reply 6 0
  -- a record's bounds over the root pass 2^60: the first such record, and its end
  pub row-7 : WithinLimits root → Row7 (records_of sheet) (root_cube root) (zone_build_of sheet root before).reply
  -- lent buffer shorter than the map: bytes needed
  pub row-8 : WithinLimits root → KeepsLimit (records_of sheet) (root_cube root) → length before < length (built_map (records_of sheet) root)
      → (zone_build_of sheet root before).reply ≡ reply 8 (length (built_map (records_of sheet) root))

-- for a good sheet, zone_refine (request 2026-01), which tests in an order of its own: 9, then 6 for a smaller or illegal depth, 7, 8
pub record RefineRows (sheet : List ℕ) (good : GoodSheet sheet) (map : List ℕ) (d : ℕ) (before : List ℕ) : Type 0 where
  -- map doesn't open, or a terminal leaf names a record that isn't a face of the sheet: the offset of the first fault
  pub row-9 : (at : ℕ) → fault_of (has_face (records_of sheet)) map ≡ at ∷ [] → (zone_refine_of sheet map d before).reply ≡ reply 9 at
  -- a depth smaller than the map's
  pub smaller : Opens (has_face (records_of sheet)) map → d < (root_of map).d → (zone_refine_of sheet map d before).reply ≡ reply 6 0
  -- a depth out of limits: over 10, or over the map's k
  pub illegal : Opens (has_face (records_of sheet)) map → (WithinLimits (at_depth d (root_of map)) → ⊥) → (zone_refine_of sheet map d before).reply ≡ reply 6 0
  -- a record's bounds over the root pass 2^60: the first such record, and its end
  pub row-7 : Opens (has_face (records_of sheet)) map → (root_of map).d ≤ d → WithinLimits (at_depth d (root_of map)) → Row7 (records_of sheet) (root_cube (root_of map)) (zone_refine_of sheet map d before).reply
  -- lent buffer shorter than the new map: bytes needed
  pub row-8 : Opens (has_face (records_of sheet)) map → (root_of map).d ≤ d → WithinLimits (at_depth d (root_of map)) → KeepsLimit (records_of sheet) (root_cube (root_of map))
      → length before < length (refined_of sheet map d) → (zone_refine_of sheet map d before).reply ≡ reply 8 (length (refined_of sheet map d))

-- for a good sheet, zone_lookup
pub record LookupRows (sheet : List ℕ) (good : GoodSheet sheet) (map : List ℕ) (p : Point) : Type 0 where
  -- map doesn't open, or a terminal leaf names a record that isn't a face of the sheet: the offset of the first fault
  pub row-9 : (at : ℕ) → fault_of (has_face (records_of sheet)) map ≡ at ∷ [] → zone_lookup_of sheet map p ≡ reply 9 at
  -- a record's bounds over the root pass 2^60: the first such record, and its end
  pub row-7 : Opens (has_face (records_of sheet)) map → Row7 (records_of sheet) (root_cube (root_of map)) (zone_lookup_of sheet map p)
  -- point not in the root, high planes left out
  pub row-10 : Opens (has_face (records_of sheet)) map → KeepsLimit (records_of sheet) (root_cube (root_of map)) → (InRoot (root_of map) p → ⊥) → zone_lookup_of sheet map p ≡ reply 10 0

-- the offset of a map's first fault, where `named` says which face numbers a terminal leaf may have: 0 length, 4 version, 5 root or depth, a bad leaf's first
-- byte, or the map's length if leaves stop short; the first such
pub record Faults (named : ℕ → Bool) (map : List ℕ) : Type 0 where
  pub at-0 : length_good map ≡ false → fault_of named map ≡ 0 ∷ []
  pub at-4 : length_good map ≡ true → (get_or map 4 0 ≡ 1 → ⊥) → fault_of named map ≡ 4 ∷ []
  pub at_5 : length_good map ≡ true → get_or map 4 0 ≡ 1 → (WithinLimits (root_of map) → ⊥) → fault_of named map ≡ 5 ∷ []
  pub at_leaf : length_good map ≡ true → get_or map 4 0 ≡ 1 → WithinLimits (root_of map) → (i : ℕ) → i < length (leaves_of map)
      → ((j : ℕ) → j < i → GoodLeaf named map j) → (GoodLeaf named map i → ⊥) → fault_of named map ≡ (19 + 3 * i) ∷ []
  pub at-end : length_good map ≡ true → get_or map 4 0 ≡ 1 → WithinLimits (root_of map) → ((i : ℕ) → i < length (leaves_of map) → GoodLeaf named map i)
      → (nth_place map (length (leaves_of map)) ≡ 8 ^ (root_of map).d → ⊥) → fault_of named map ≡ length map ∷ []

pub record Table : Type 0 where
  pub sheets : (sheet : List ℕ) → SheetRows sheet
  pub builds : (sheet : List ℕ) (good : GoodSheet sheet) (root : Root) (before : List ℕ) → BuildRows sheet good root before
  pub faults : (named : ℕ → Bool) (map : List ℕ) → Faults named map
  -- zone_open, without the sheet clause
  pub opens : (map : List ℕ) (at : ℕ) → fault_of any_face map ≡ at ∷ [] → zone_open_of map ≡ reply 9 at
  pub refines : (sheet : List ℕ) (good : GoodSheet sheet) (map : List ℕ) (d : ℕ) (before : List ℕ) → RefineRows sheet good map d before
  pub lookups : (sheet : List ℕ) (good : GoodSheet sheet) (map : List ℕ) (p : Point) → LookupRows sheet good map p

-- What opening a map with its sheet returns at each test, and what follows from its result.
use Rattle.std.specs.Prelude.{Err, Ok, Result}
use mathlib.Core.Path.{◌≡◌, refl, sym, ◌∙◌}
use mathlib.Core.Bool.{Bool, true}
use mathlib.Core.List.{List, [], ◌∷◌}
use Prim.Native.Nat.{ℕ, ◌+◌, ◌≤◌}
use lib.ListN.{length}
use Rattle.integers.proofs.First.{none_first}
use Rattle.replies.specs.declared.Refusal.{Refusal}
use Rattle.replies.specs.declared.Refusal.TheVariants.{Map}
use Rattle.replies.specs.Table.{Reply}
use Rattle.replies.specs.Table.{refusal_of}
use Rattle.sheet.specs.declared.Record.{Record}
use Rattle.sheet.specs.Records.{records_of}
use Rattle.sheet.specs.Check.{check_of}
use Rattle.records.specs.Faces.{has_face, Marks}
use Rattle.cube.specs.declared.Point.{Point}
use Rattle.cube.specs.declared.Cube.{Cube}
use Rattle.cube.specs.Limits.{in_limits, Near}
use Rattle.cube.specs.Cubes.{root_cube}
use Rattle.cube.proofs.Cubes.{root-small, near-once}
use Rattle.zonemap.specs.declared.Found.{Found}
use Rattle.zonemap.specs.Opening.{root_of, fault_of, place_or_first, found_of}
use Rattle.zonemap.specs.Inner.{marked}
use Rattle.zonemap.proofs.Finding.{opens-parts, opens-sizes, found_inside}
use Rattle.zonemap.proofs.Opens.{found-good, found-bad, first_below, good-told}
use Rattle.pair.specs.declared.Pair.{Pair}
use Rattle.pair.specs.Pairs.{pair_refusal, pair_of, opened_of}

-- ---- replies 1 to 5: r is what `check` returned
pub sheet-good : (s : List ℕ) (r : Reply) → r ≡ check_of s → (n : ℕ) → r ≡ Ok n → refusal_of (check_of s) ≡ []
sheet-good s r e n h = rw (sym e ∙ h)

-- ---- reply 9: the marks are those of the sheet's faces, and o is what `find` returned
named : (rs : List Record) (marks : List Bool) → Marks marks rs → marked marks ≡ has_face rs
named rs marks m = λ i f. m.each f i

module _ (s : List ℕ) (good : refusal_of (check_of s) ≡ []) (marks : List Bool) (m : Marks marks (records_of s)) (map : List ℕ) (p : Point) (o : Result Found ℕ) (e : o ≡ found_of (marked marks) map p) where
  found : o ≡ found_of (has_face (records_of s)) map p
  found = rw (named (records_of s) marks m) at e

  pub map-opened : (count : ℕ) → count ≡ length (records_of s) → (f : Found) → o ≡ Ok f → Ok (record { count = count; root = f.root; at = f.at }) ≡ opened_of s map p
  unfolding opened_of pair_refusal
  map-opened count is f h =
      let t = found-good (has_face (records_of s)) map p o found f h in
      rw (good, t.0, is, t.1)

  pub map-refused : (at : ℕ) → o ≡ Err at → Err (Map at) ≡ opened_of s map p
  unfolding opened_of pair_refusal
  map-refused at h = rw (good, found-bad (has_face (records_of s)) map p o found at h (λ n. Map n ∷ []) [])

-- ---- what follows from its result
module _ (s map : List ℕ) (p : Point) (o : Result Pair Refusal) (e : o ≡ opened_of s map p) (pair : Pair) (h : o ≡ Ok pair) where
  told : (pair_refusal s map ≡ []) × (pair ≡ pair_of s map p)
  unfolding opened_of
  told = good-told (pair_refusal s map) _ o e pair h

  pub not-shut : pair_refusal s map ≡ []
  not-shut = told.0

  pub pair_is : pair ≡ pair_of s map p
  pair_is = told.1

module _ (s map : List ℕ) (none : pair_refusal s map ≡ []) where
  parts : (refusal_of (check_of s) ≡ []) × (fault_of (has_face (records_of s)) map ≡ [])
  unfolding pair_refusal
  parts =
      let t = none_first (λ (rs : List Refusal). rs ≡ []) (λ why. why ∷ []) _ (refusal_of (check_of s)) one none in
      (t.0, (none_first (λ (rs : List Refusal). rs ≡ []) (λ at. Map at ∷ []) [] (fault_of (has_face (records_of s)) map) (λ at. one (Map at)) t.1).0)
    where
      one : (why : Refusal) → ◌≡◌ {A = List Refusal} (why ∷ []) [] → ⊥
      one why e = cc

  pub pair-good : refusal_of (check_of s) ≡ []
  pair-good = parts.0

  pub pair-opens : fault_of (has_face (records_of s)) map ≡ []
  pair-opens = parts.1

  module _ (p : Point) (pair : Pair) (is : pair ≡ pair_of s map p) where
    pub pair-count : pair.count ≡ length (records_of s)
    pair-count = rw is

    pub pair-within : in_limits pair.root ≡ true
    pair-within = rw is (opens-sizes (has_face (records_of s)) map pair-opens).2

    pub pair_small : pair.root.k ≤ 16
    pair_small = root-small pair.root pair-within

    pub pair-near : (q : Cube) → q ≡ root_cube pair.root → Near 0 q
    pair-near q e = near-once pair.root pair-within q e

    -- the leaf's bytes are in the map
    pub pair-room : pair.at + 3 ≤ length map
    pair-room = rw is (found_inside (has_face (records_of s)) map (place_or_first (root_of map) p) (opens-sizes (has_face (records_of s)) map pair-opens).0 (first_below (root_of map) p _ refl) (opens-parts (has_face (records_of s)) map pair-opens).1)

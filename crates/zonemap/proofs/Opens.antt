-- What the results on the way to opening a map say about it, and opening without a sheet.
use Rattle.std.specs.Prelude.{Err, Ok, Result}
use mathlib.Core.Path.{◌≡◌, refl, sym, ap, ◌∙◌}
use mathlib.Core.Bool.{Bool, true, false}
use mathlib.Core.List.{List, []}
use Prim.Native.Nat.{ℕ, zero, suc, ◌+◌, ◌-◌, ◌/◌, ◌%◌, ◌^◌, ◌≤◌, ◌<◌}
use native.Mathlib.Omega.{arith}
use Rattle.std.proofs.lemmas.Bool.Decides.{nat_tests}
use mir.Syntax.{w8}
use mir.Val.{Fits}
use lib.ListN.{length, get_or, replicate, get_or-replicate}
use Rattle.integers.specs.First.{on_first}
use Rattle.integers.proofs.First.{none_first, bad-first}
use Rattle.replies.specs.declared.Refusal.TheVariants.{Map}
use Rattle.cube.specs.declared.Root.{Root}
use Rattle.cube.specs.declared.Cube.{Cube}
use Rattle.cube.specs.declared.Point.{Point}
use Rattle.cube.specs.Limits.{in_limits}
use Rattle.cube.specs.Cubes.{root_cube}
use Rattle.cube.specs.Points.{holds_point}
use Rattle.cube.proofs.Limits.{limits-sizes}
use Rattle.cube.proofs.Places.{place-below}
use Rattle.zonemap.specs.declared.Found.{Found}
use Rattle.zonemap.specs.Opening.{root_of, leaf_in, leaves_in, leaves_of, face_good, leaf_good, size_of, leaves_fault, header_fault, fault_of, any_face, open_of, offset_at, place_or_first, found_of}
use Rattle.zonemap.specs.Inner.{marked}
use Rattle.zonemap.proofs.Powers.{power_above}
use Rattle.zonemap.proofs.Finding.{header-sizes, opens-sizes}
use Rattle.replies.proofs.Mapped.{clash}

-- ---- a result that the first fault decides: o is what was returned, and v is good
module _ {A E : Type 0} (faults : List E) (v : A) (o : Result A E) (e : o ≡ on_first faults Err (Ok v)) where
  pub good-told : (a : A) → o ≡ Ok a → (faults ≡ []) × (a ≡ v)
  good-told a k =
      let t = none_first (λ (q : Result A E). q ≡ Ok a) Err _ faults (λ n. clash n a) (sym e ∙ k) in
      (t.0, cc)

  pub bad-told : (first : E) → o ≡ Err first → {C : Type 0} (f : E → C) (rest : C) → on_first faults f rest ≡ f first
  bad-told first k f rest = bad-first Err _ (λ n. clash n v) (λ n m q. cc) faults first (sym e ∙ k) f rest

-- ---- the place of a point: b is what `holds` returned for the root's cube q
pub root-holds : (root : Root) (p : Point) (q : Cube) → q ≡ root_cube root → (b : Bool) → b ≡ holds_point q p → b ≡ true → holds_point (root_cube root) p ≡ true
root-holds root p q is b e t = sym (ap (λ (k : Cube). holds_point k p) is) ∙ sym e ∙ t

pub first_below : (root : Root) (p : Point) (m : ℕ) → m ≡ place_or_first root p → m < 8 ^ root.d
unfolding place_or_first
first_below root p m e = grind (arith, nat_tests, place-below root p, power_above root.d)

-- ---- what `scan` requires: h is what `read_header` returned
module _ (map : List ℕ) (h : Result Root ℕ) (e : h ≡ on_first (header_fault map) Err (Ok (root_of map))) (root : Root) (k : h ≡ Ok root) where
  told : (header_fault map ≡ []) × (root ≡ root_of map)
  told = good-told (header_fault map) _ h e root k

  pub root-within : in_limits root ≡ true
  root-within = rw told.1 (header-sizes map told.0).2

  pub root-deep : root.d ≤ 10
  root-deep = (limits-sizes root root-within).1

  pub header-long : 19 ≤ length map
  header-long = (header-sizes map told.0).0

  pub header-whole : length map % 3 ≡ 1
  header-whole = (header-sizes map told.0).1

-- ---- what the result of `find` says about the map
module _ (named : ℕ → Bool) (map : List ℕ) (p : Point) (o : Result Found ℕ) (e : o ≡ found_of named map p) where
  pub found-good : (f : Found) → o ≡ Ok f → (fault_of named map ≡ []) × (f ≡ record { root = root_of map; at = offset_at map (place_or_first (root_of map) p) })
  unfolding found_of
  found-good f k = good-told (fault_of named map) _ o e f k

  pub found-bad : (at : ℕ) → o ≡ Err at → {C : Type 0} (f : ℕ → C) (rest : C) → on_first (fault_of named map) f rest ≡ f at
  unfolding found_of
  found-bad at k f rest = bad-told (fault_of named map) _ o e at k f rest

-- ---- opening without a sheet
module _ (map : List ℕ) (bytes : (i : ℕ) → Fits w8 (get_or map i 0)) where
  -- all face numbers are marked, and a byte is one of them
  every-face : (at : ℕ) → marked (replicate 256 true) (leaf_in map at).face ≡ true
  unfolding leaf_in
  every-face at = get_or-replicate 256 (get_or map (at + 2) 0) true false (omega (arith, bytes (at + 2)))

  same-leaf : (d place at : ℕ) → leaf_good (marked (replicate 256 true)) d place (leaf_in map at) ≡ leaf_good any_face d place (leaf_in map at)
  unfolding leaf_good face_good
  same-leaf d place at = rw (every-face at)

  same-faults : (d n place at from : ℕ) → leaves_fault (marked (replicate 256 true)) d place at (leaves_in map n from) ≡ leaves_fault any_face d place at (leaves_in map n from)
  unfolding leaves_fault leaves_in
  same-faults d zero place at from = refl
  same-faults d (suc n) place at from = rw (same-leaf d place from, same-faults d n (place + size_of d (leaf_in map from)) (at + 3) (from + 3))

  same-fault : fault_of (marked (replicate 256 true)) map ≡ fault_of any_face map
  unfolding fault_of
  same-fault = rw (same-faults (root_of map).d ((length map - 19) / 3) 0 19 19)

  -- o is what `find` returned
  module _ (p : Point) (o : Result Found ℕ) (e : o ≡ found_of (marked (replicate 256 true)) map p) where
    module _ (f : Found) (k : o ≡ Ok f) where
      none : fault_of (marked (replicate 256 true)) map ≡ []
      none = (found-good (marked (replicate 256 true)) map p o e f k).0

      pub opened-long : 19 ≤ length map
      opened-long = (opens-sizes (marked (replicate 256 true)) map none).0

      pub opened : (n : ℕ) → n ≡ length (leaves_of map) → Ok n ≡ open_of map
      unfolding open_of
      opened n is = rw (sym same-fault ∙ none) (ap Ok is)

    pub not_opened : (at : ℕ) → o ≡ Err at → Err (Map at) ≡ open_of map
    unfolding open_of
    not_opened at k = rw (← same-fault) (sym (found-bad (marked (replicate 256 true)) map p o e at k (λ n. Err (Map n)) _))

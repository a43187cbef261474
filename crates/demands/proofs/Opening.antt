-- What it means that a map opens: it has no fault exactly if the length, the version, the root and every leaf at its own place are good.
use Rattle.std.specs.Prelude.{Err, Ok}
use mathlib.Core.Path.{◌≡◌, refl, ap, ◌∙◌}
use mathlib.Core.Bool.{Bool, true, false, ◌&&◌, and-eq-true_iff}
use mathlib.Core.List.{List, [], ◌∷◌}
use Prim.Native.Nat.{ℕ, ◌+◌, ◌-◌, ◌*◌, ◌/◌, ◌%◌, ◌^◌, ◌≤◌, ◌<◌}
use native.Mathlib.Omega.{arith}
use borrow.Author.Tests.{eqb-true, eqb-false, eq-eqb, ne_eqb, leb-true, le-leb}
use lib.Dec.{eqb, leb}
use lib.ListN.{length, get_or}
use Rattle.bigendian.specs.Numbers.{unsigned_at}
use Rattle.integers.proofs.First.{none_first}
use Rattle.integers.proofs.Order.{by-test}
use Rattle.replies.specs.declared.Refusal.TheVariants.{Map}
use Rattle.replies.specs.Table.{Reply}
use Rattle.cube.specs.Limits.{WithinLimits}
use Rattle.cube.proofs.Numbers.{within-limits, limits-within, out-of-limits}
use Rattle.zonemap.specs.declared.Leaf.{Leaf}
use Rattle.zonemap.specs.Map.{map_version}
use Rattle.zonemap.specs.Opening.{length_good, root_of, leaves_of, size_of, level_good, face_good, place_good, leaf_good, leaves_fault, header_fault, fault_of, any_face, open_of}
use Rattle.zonemap.specs.Leaves.{nth_leaf, nth_place}
use Rattle.zonemap.proofs.Runs.{level-told, place-told, leaf-parts, Fine, run_at, run_end, at-run, opens-run, leaf-fault, end-fault, run-opens}
use Rattle.zonemap.proofs.Finding.{leaves-count, header-told, opens-parts}
use Rattle.zone.specs.Replies.{reply, zone_open_of}
use Rattle.zone.proofs.ByNumber.{done-code}
use Rattle.demands.specs.Terms.{DoneWhere, GoodLeaf, Opens}
use Rattle.demands.specs.Table.{Faults}

-- ---- one leaf
module _ (d : ℕ) (l : Leaf) where
  level-good : l.level ≤ d → l.class ≤ 4 → (l.class ≡ 4 → l.level ≡ d) → level_good d l ≡ true
  unfolding level_good
  level-good h c g =
      rw (le-leb _ _ h, le-leb _ _ c) (by-test (eqb l.class 4) (λ t. rw (t, eq-eqb _ _ (g (eqb-true _ _ t)))) (λ t. rw t))

  face-told : (named : ℕ → Bool) → face_good named l ≡ true → (l.class ≡ 2 → named l.face ≡ true) × (l.class ≡ 3 → named l.face ≡ true) × ((l.class ≡ 2 → ⊥) → (l.class ≡ 3 → ⊥) → l.face ≡ 0)
  unfolding face_good
  face-told named e = (λ c. rw c at e, λ c. rw c at e, λ m n. eqb-true _ _ (rw (ne_eqb _ _ m, ne_eqb _ _ n) at e))

  face-good : (named : ℕ → Bool) → (l.class ≡ 2 → named l.face ≡ true) → (l.class ≡ 3 → named l.face ≡ true) → ((l.class ≡ 2 → ⊥) → (l.class ≡ 3 → ⊥) → l.face ≡ 0) → face_good named l ≡ true
  unfolding face_good
  face-good named two three other =
      by-test (eqb l.class 2)
      (λ t. rw (t, two (eqb-true _ _ t)))
      (λ t. by-test (eqb l.class 3)
      (λ u. rw (t, u, three (eqb-true _ _ u)))
      (λ u. rw (t, u, other (eqb-false _ _ t) (eqb-false _ _ u))))

  place-good : (place : ℕ) → place % size_of d l ≡ 0 → place + size_of d l ≤ 8 ^ d → place_good d place l ≡ true
  unfolding place_good
  place-good place m h = rw (m, le-leb _ _ h)

module _ (named : ℕ → Bool) (map : List ℕ) (i : ℕ) where
  leaf-told : Fine named (root_of map).d (nth_place map i) (nth_leaf map i) → GoodLeaf named map i
  leaf-told e =
      let d : ℕ = (root_of map).d in
      let l : Leaf = nth_leaf map i in
      let t = leaf-parts named d (nth_place map i) l e in
      let level = level-told d l t.0 in
      let face = face-told d l named t.1 in
      let place = place-told d l (nth_place map i) t.2 in
      record {
        level = level.0;
        class = level.1;
        gray = level.2;
        terminal = face.0;
        complement = face.1;
        other = face.2;
        multiple = place.0;
        end = place.1;
      }

  leaf-good : GoodLeaf named map i → Fine named (root_of map).d (nth_place map i) (nth_leaf map i)
  unfolding leaf_good
  leaf-good g =
      let d : ℕ = (root_of map).d in
      let l : Leaf = nth_leaf map i in
      rw (level-good d l g.level g.class g.gray, face-good d l named g.terminal g.complement g.other, place-good d l (nth_place map i) g.multiple g.end)

-- ---- the length, and the number of leaves
module _ (map : List ℕ) where
  counted : length (leaves_of map) ≡ (length map - 19) / 3
  counted = leaves-count map ((length map - 19) / 3) 19

  length-told : length_good map ≡ true → (unsigned_at 4 map 0 + 4 ≡ length map) × (unsigned_at 4 map 0 ≡ 15 + 3 * length (leaves_of map))
  unfolding length_good
  length-told e =
      let t = (and-eq-true_iff (eqb (unsigned_at 4 map 0 + 4) (length map) && leb 15 (unsigned_at 4 map 0)) _).0 e in
      let u = (and-eq-true_iff (eqb (unsigned_at 4 map 0 + 4) (length map)) (leb 15 (unsigned_at 4 map 0))).0 t.0 in
      let same : unsigned_at 4 map 0 + 4 ≡ length map = eqb-true _ _ u.0 in
      let some : 15 ≤ unsigned_at 4 map 0 = leb-true _ _ u.1 in
      let thirds : unsigned_at 4 map 0 % 3 ≡ 0 = eqb-true _ _ t.1 in
      (same, omega (arith, same, some, thirds, counted))

  length-good : unsigned_at 4 map 0 + 4 ≡ length map → unsigned_at 4 map 0 ≡ 15 + 3 * length (leaves_of map) → length_good map ≡ true
  unfolding length_good
  length-good same n =
      let thirds : unsigned_at 4 map 0 % 3 ≡ 0 = omega (arith, n) in
      rw (eq-eqb _ _ same, le-leb 15 (unsigned_at 4 map 0) (omega (arith, n)), thirds)

-- ---- the whole map
module _ (named : ℕ → Bool) (map : List ℕ) where
  abbrev d : ℕ
  d = (root_of map).d

  pub opens-told : fault_of named map ≡ [] → Opens named map
  opens-told e =
      let p = opens-parts named map e in
      let h = header-told map p.0 in
      let l = length-told map h.0 in
      let run = opens-run named d 0 19 (leaves_of map) p.1 in
      record {
        agrees = l.0;
        leaves = l.1;
        version = h.1;
        limits = within-limits (root_of map) h.2;
        good = λ i among. leaf-told named map i (let z : 0 + nth_place map i ≡ nth_place map i = omega arith in rw z at (run_at (Fine named d) d 0 (8 ^ d) i (leaves_of map) run among));
        whole = omega (arith, run_end (Fine named d) d 0 (8 ^ d) (leaves_of map) run);
      }

  pub opens-fault : Opens named map → fault_of named map ≡ []
  unfolding fault_of header_fault
  opens-fault o =
      let run = at-run (Fine named d) d 0 (8 ^ d) (leaves_of map) (λ i among. let z : 0 + nth_place map i ≡ nth_place map i = omega arith in rw z (leaf-good named map i (o.good i among))) (omega (arith, o.whole)) in
      rw (length-good map o.agrees o.leaves, o.version, limits-within (root_of map) o.limits) (run-opens named d 0 19 (leaves_of map) run)

  -- ---- the first fault
  module _ (agrees : length_good map ≡ true) (version : get_or map 4 0 ≡ 1) (limits : WithinLimits (root_of map)) where
    in-leaves : fault_of named map ≡ leaves_fault named d 0 19 (leaves_of map)
    unfolding fault_of header_fault
    in-leaves = rw (agrees, version, limits-within (root_of map) limits)

    fine-at : (i : ℕ) → GoodLeaf named map i → Fine named d (0 + nth_place map i) (nth_leaf map i)
    fine-at i g = let z : 0 + nth_place map i ≡ nth_place map i = omega arith in rw z (leaf-good named map i g)

    at_leaf : (i : ℕ) → i < length (leaves_of map) → ((j : ℕ) → j < i → GoodLeaf named map j) → (GoodLeaf named map i → ⊥) → fault_of named map ≡ (19 + 3 * i) ∷ []
    at_leaf i among good bad =
        let z : 0 + nth_place map i ≡ nth_place map i = omega arith in
        let not-fine : leaf_good named d (0 + nth_place map i) (nth_leaf map i) ≡ false = by-test (leaf_good named d (0 + nth_place map i) (nth_leaf map i)) (λ t. absurd (bad (leaf-told named map i (rw z at t)))) (λ t. t) in
        in-leaves ∙ leaf-fault named d 0 19 i (leaves_of map) among (λ j h. fine-at j (good j h)) not-fine

    at-end : ((i : ℕ) → i < length (leaves_of map) → GoodLeaf named map i) → (nth_place map (length (leaves_of map)) ≡ 8 ^ d → ⊥) → fault_of named map ≡ length map ∷ []
    at-end good short =
        let n : ℕ = nth_place map (length (leaves_of map)) in
        let run = at-run (Fine named d) d 0 n (leaves_of map) (λ i among. fine-at i (good i among)) (omega arith) in
        let l = length-told map agrees in
        let end : 19 + 3 * length (leaves_of map) ≡ length map = omega (arith, l.0, l.1) in
        in-leaves ∙ end-fault named d 0 19 n (leaves_of map) run short ∙ ap (λ (k : ℕ). k ∷ []) end

  pub faults : Faults named map
  unfolding fault_of header_fault
  faults = record {
    at-0 = λ fails. rw fails;
    at-4 = λ agrees other. rw (agrees, ne_eqb (get_or map 4 0) map_version other);
    at_5 = λ agrees version out. rw (agrees, version, out-of-limits (root_of map) out);
    at_leaf = at_leaf;
    at-end = at-end;
  }

-- a map that opens when only some faces may be named opens when any may be
any-leaf : (named : ℕ → Bool) (map : List ℕ) (i : ℕ) → GoodLeaf named map i → GoodLeaf any_face map i
any-leaf named map i g = record {
  level = g.level;
  class = g.class;
  gray = g.gray;
  terminal = λ _. refl;
  complement = λ _. refl;
  other = g.other;
  multiple = g.multiple;
  end = g.end;
}

pub any-opens : (named : ℕ → Bool) (map : List ℕ) → Opens named map → Opens any_face map
any-opens named map o = record {
  agrees = o.agrees;
  leaves = o.leaves;
  version = o.version;
  limits = o.limits;
  good = λ i among. any-leaf named map i (o.good i among);
  whole = o.whole;
}

-- ---- zone_open
module _ (map : List ℕ) where
  no-fault : (n : ℕ) → open_of map ≡ Ok n → fault_of any_face map ≡ []
  unfolding open_of
  no-fault n e = (none_first (λ (r : Reply). r ≡ Ok n) (λ at. Err (Map at)) _ (fault_of any_face map) (λ at c. let z : ◌≡◌ {A = ℕ} 0 1 = cc in omega arith) e).0

  -- a map that zone_open opens has no fault
  pub opened-fault : (zone_open_of map).code ≡ 0 → fault_of any_face map ≡ []
  unfolding zone_open_of
  opened-fault e = no-fault _ (done-code (open_of map) e)

  pub opens : DoneWhere (Opens any_face map) (zone_open_of map) (length (leaves_of map))
  unfolding zone_open_of open_of
  opens = record { done = λ o. rw (opens-fault any_face map o); only = λ e. opens-told any_face map (opened-fault e) }

  pub open_row : (at : ℕ) → fault_of any_face map ≡ at ∷ [] → zone_open_of map ≡ reply 9 at
  unfolding zone_open_of open_of
  open_row at e = rw e

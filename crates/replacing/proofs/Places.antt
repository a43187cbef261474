-- The places of a map's leaves: which leaf begins a cube, and how many leaves can come of those before a place.
use mathlib.Core.Path.{◌≡◌, refl, sym, ap, ◌∙◌}
use mathlib.Core.Bool.{Bool}
use mathlib.Core.List.{List, [], ◌∷◌}
use Prim.Native.Nat.{ℕ, zero, suc, ◌+◌, ◌-◌, ◌*◌, ◌/◌, ◌^◌, ◌≤◌, ◌<◌}
use native.Mathlib.Nat.{one-le-pow, zero-lt-suc, le_trans, mul-le-mul, mul-le-mul_left, mul-div_cancel, div-add-mod', pow-le-pow_right}
use native.Mathlib.Omega.{arith}
use borrow.Author.Tests.{eqb-true, ltb-true, ltb-false}
use lib.Dec.{eqb, ltb}
use lib.Pow.{pow-add}
use lib.ListN.{length, length-append}
use Rattle.integers.proofs.Order.{by-test}
use Rattle.cube.specs.declared.Cube.{Cube}
use Rattle.colour.specs.declared.State.{State}
use Rattle.zonemap.specs.declared.Leaf.{Leaf}
use Rattle.zonemap.specs.Opening.{root_of, leaves_of, fault_of}
use Rattle.zonemap.specs.Leaves.{place_at, nth_leaf, nth_place, nth_cube}
use Rattle.zonemap.proofs.Runs.{level-told, leaf-parts, good-level, good-place}
use Rattle.zonemap.proofs.Meeting.{place-on, leaf-fine, all_end}
use Rattle.tree.specs.Visit.{upto}
use Rattle.tree.proofs.Cubes.{leaves-most}
use Rattle.replacing.specs.Replace.{replaced, replaced_at}

-- past the last leaf, places do not grow
past_end_lem : (d i : ℕ) (ls : List Leaf) → length ls ≤ i → place_at d i ls ≡ place_at d (length ls) ls
unfolding place_at
past_end_lem d zero [] h = refl
past_end_lem d (suc i) [] h = refl
past_end_lem d zero (l ∷ ls) h = absurd (omega arith)
past_end_lem d (suc i) (l ∷ ls) h = omega (arith, past_end_lem d i ls (omega arith))

pub size-some : (n : ℕ) → 1 ≤ 8 ^ n
size-some n = one-le-pow n 8 (zero-lt-suc 7)

regroup : (j a b s : ℕ) → s ≡ 8 * a * b → 8 * (j * b) * a ≡ j * s
regroup j a b s e = rw e (omega arith)

module _ (map : List ℕ) (opens : (named : ℕ → Bool) × (fault_of named map ≡ [])) where
  abbrev d : ℕ
  d = (root_of map).d

  abbrev level : ℕ → ℕ
  level i = (nth_leaf map i).level

  -- there is a leaf at every place before the end
  pub leaf-among : (i : ℕ) → nth_place map i < 8 ^ d → i < length (leaves_of map)
  leaf-among i h =
      by-test (ltb i (length (leaves_of map))) (ltb-true i (length (leaves_of map)))
      (λ t. absurd (omega (arith, past_end_lem d i (leaves_of map) (ltb-false i (length (leaves_of map)) t), all_end map opens)))

  -- and the last one ends there
  pub leaf_last : (i : ℕ) → i ≤ length (leaves_of map) → nth_place map i ≡ 8 ^ d → i ≡ length (leaves_of map)
  leaf_last i most h =
      by-test (ltb i (length (leaves_of map)))
      (λ t. absurd (omega (arith, (good-place opens.0 d (nth_place map i) (nth_leaf map i) (leaf-fine map opens i (ltb-true i (length (leaves_of map)) t))).1, size-some (d - level i))))
      (λ t. omega (arith, ltb-false i (length (leaves_of map)) t))

  module _ (i : ℕ) (among : i < length (leaves_of map)) where
    pub level-most : level i ≤ d
    level-most = good-level opens.0 d (nth_place map i) (nth_leaf map i) (leaf-fine map opens i among)

    -- gray only at level d
    pub gray-last : (nth_leaf map i).class ≡ 4 → level i ≡ d
    gray-last = (level-told d (nth_leaf map i) (leaf-parts opens.0 d (nth_place map i) (nth_leaf map i) (leaf-fine map opens i among)).0).2

    pub place-next : nth_place map (i + 1) ≡ nth_place map i + 8 ^ (d - level i)
    place-next = place-on d i (leaves_of map) among

    -- a leaf that has more than m levels below it is at a multiple of 8^(m+1), so its place is not that of a later child
    pub not-larger : (c k m : ℕ) → nth_place map i ≡ (c * 8 + k) * 8 ^ m → 0 < k → k < 8 → d - level i ≤ m
    not-larger c k m at h l =
        by-test (ltb m (d - level i))
        (λ t.
        let e : d - level i ≡ suc m + (d - level i - suc m) = omega (arith, ltb-true m (d - level i) t) in
        let size : 8 ^ suc m ≡ 8 * 8 ^ m = omega arith in
        let s : 8 ^ (d - level i) ≡ 8 * 8 ^ m * 8 ^ (d - level i - suc m) = ap (λ n. 8 ^ n) e ∙ pow-add 8 (suc m) (d - level i - suc m) ∙ ap (λ n. n * 8 ^ (d - level i - suc m)) size in
        let j = nth_place map i / 8 ^ (d - level i) in
        let u = 8 ^ (d - level i - suc m) in
        let whole : j * 8 ^ (d - level i) ≡ nth_place map i = omega (arith, div-add-mod' (nth_place map i) (8 ^ (d - level i)), (good-place opens.0 d (nth_place map i) (nth_leaf map i) (leaf-fine map opens i among)).0) in
        let v : 8 * (j * u) * 8 ^ m ≡ (c * 8 + k) * 8 ^ m = regroup j (8 ^ m) u (8 ^ (d - level i)) s ∙ whole ∙ at in
        let w : 8 * (j * u) ≡ c * 8 + k = sym (mul-div_cancel (8 * (j * u)) (size-some m)) ∙ ap (λ n. n / 8 ^ m) v ∙ mul-div_cancel (c * 8 + k) (size-some m) in
        absurd (omega (arith, w)))
        (ltb-false m (d - level i))

  place-most : (i : ℕ) → i ≤ length (leaves_of map) → nth_place map i ≤ 8 ^ d
  place-most i h =
      by-test (ltb i (length (leaves_of map)))
      (λ t. omega (arith, (good-place opens.0 d (nth_place map i) (nth_leaf map i) (leaf-fine map opens i (ltb-true i (length (leaves_of map)) t))).1))
      (λ t. let e : i ≡ length (leaves_of map) = omega (arith, ltb-false i (length (leaves_of map)) t) in rw e (omega (arith, all_end map opens)))

  -- ---- how many
  module _ (over : Cube → State) (deep : ℕ) (more : d ≤ deep) where
    one-few : (i : ℕ) → i < length (leaves_of map) → length (replaced_at over deep map i) ≤ 8 ^ (deep - d) * 8 ^ (d - level i)
    unfolding replaced
    one-few i among =
        by-test (eqb (nth_leaf map i).class 4)
        (λ t.
        let e : level i ≡ d = gray-last i among (eqb-true _ _ t) in
        let z : d - level i ≡ 0 = omega arith in
        let y : deep - level i ≡ deep - d = omega arith in
        rw (t, z, y) (omega (arith, leaves-most over (deep - d) (nth_cube map i))))
        (λ t. rw t (mul-le-mul {n₁ = 1} {m₁ = 1} (size-some (deep - d)) (size-some (d - level i))))

    leaves-before : (i : ℕ) → i ≤ length (leaves_of map) → length (upto (replaced_at over deep map) i) ≤ 8 ^ (deep - d) * nth_place map i
    unfolding upto
    leaves-before zero h = omega arith
    leaves-before (suc i) h =
        let z : suc i ≡ i + 1 = omega arith in
        let q : 8 ^ (deep - d) * nth_place map (suc i) ≡ 8 ^ (deep - d) * nth_place map i + 8 ^ (deep - d) * 8 ^ (d - level i) =
        ap (λ n. 8 ^ (deep - d) * nth_place map n) z ∙ ap (λ n. 8 ^ (deep - d) * n) (place-next i (omega arith)) ∙ omega arith in
        omega (arith, length-append (upto (replaced_at over deep map) i) (replaced_at over deep map i), leaves-before i (omega arith), one-few i (omega arith), q)

    -- so at most 2^30 leaves come of all
    pub few-before : deep ≤ 10 → (i : ℕ) → i ≤ length (leaves_of map) → length (upto (replaced_at over deep map) i) ≤ 2 ^ 30
    few-before most i h =
        let all = 8 ^ (deep - d) * 8 ^ d in
        let e : all ≡ 8 ^ deep = let z : deep - d + d ≡ deep = omega arith in sym (rw z at (pow-add 8 (deep - d) d)) in
        let ends : nth_place map i ≤ 8 ^ d = place-most i h in
        le_trans (leaves-before i h) (le_trans (mul-le-mul_left (8 ^ (deep - d)) ends) (rw e (pow-le-pow_right (zero-lt-suc 7) most)))

-- The map of one gray leaf: its bytes, that it opens, and that its leaf is replaced by the leaves of the whole root.
use mathlib.Core.Path.{◌≡◌, refl, sym, ap, ap₂, ◌∙◌}
use mathlib.Core.Bool.{Bool, true}
use mathlib.Core.List.{List, [], ◌∷◌, ◌++◌, append-nil}
use Prim.Native.Nat.{ℕ, ◌-◌}
use native.Mathlib.Nat.{zero-add}
use native.Mathlib.Omega.{arith}
use lib.ListN.{length, get_or, drop}
use lib.Seq.{sets, sets-eq, drop-length}
use Rattle.integers.proofs.Stores.{sets-append}
use Rattle.cube.specs.declared.Root.{Root}
use Rattle.cube.specs.declared.Cube.{Cube}
use Rattle.cube.specs.Limits.{in_limits, at_depth}
use Rattle.cube.specs.Cubes.{root_cube, cube_at}
use Rattle.cube.proofs.Cubes.{root-cube}
use Rattle.colour.specs.declared.State.{State}
use Rattle.zonemap.specs.declared.Leaf.{Leaf}
use Rattle.zonemap.specs.Map.{leaf_bytes, leaves_bytes, header_of, map_of}
use Rattle.zonemap.specs.Opening.{root_of, leaves_of, level_good, face_good, place_good, leaf_good, fault_of, any_face}
use Rattle.zonemap.specs.Leaves.{place_at, nowhere}
use Rattle.zonemap.proofs.Bytes.{header-length, map-length}
use Rattle.zonemap.proofs.Runs.{Run}
use Rattle.zonemap.proofs.Trip.{leaves-back, root-back, map-opens}
use Rattle.tree.specs.Visit.{upto}
use Rattle.tree.specs.Solid.{leaves_below}
use Rattle.replacing.specs.Replace.{replaced, refined_leaves, gray_map}
use Rattle.replacing.specs.Walk.{Deeper}

-- what leaf i of a list is replaced by at depth d, and all leaves, over a root
abbrev pub grown_at : (Cube → State) → ℕ → Root → List Leaf → ℕ → List Leaf
grown_at over d r ls i = let l = get_or ls i nowhere in replaced over (d - l.level) (cube_at r (place_at r.d i ls) l.level) l

abbrev pub grown : (Cube → State) → ℕ → Root → List Leaf → List Leaf
grown over d r ls = upto (grown_at over d r ls) (length ls)

pub refined-grown : (over : Cube → State) (d : ℕ) (map : List ℕ) → refined_leaves over d map ≡ grown over d (root_of map) (leaves_of map)
unfolding refined_leaves
refined-grown over d map = refl

abbrev gray : Leaf
gray = record { level = 0; class = 4; face = 0 }

module _ (root : Root) where
  abbrev top : Root
  top = at_depth 0 root

  gray-length : length (gray_map root) ≡ 22
  unfolding gray_map
  gray-length = map-length top (gray ∷ [])

  -- what `put_header` and `put_leaf` leave in 22 bytes
  pub gray-told : (r : Root) → r ≡ top → (d d₁ d₂ : List ℕ) → length d ≡ 22 → d₁ ≡ sets d 0 (header_of r 1) → (end : ℕ) → (end ≡ 22) × (d₂ ≡ sets d₁ 19 (leaf_bytes gray)) → d₂ ≡ gray_map root
  unfolding gray_map map_of leaves_bytes
  gray-told r is d d₁ d₂ long e end f =
      f.1
      ∙ ap (λ (x : List ℕ). sets x 19 (leaf_bytes gray)) (e ∙ ap (λ (x : Root). sets d 0 (header_of x 1)) is)
      ∙ sets-append d 0 19 (header_of top 1) (leaf_bytes gray) (omega (arith, header-length top 1))
      ∙ ap (sets d 0) (ap (λ (x : List ℕ). header_of top 1 ++ x) (sym (append-nil (leaf_bytes gray))))
      ∙ sets-eq (gray_map root) d 0 (omega (arith, gray-length))
      ∙ ap (λ (n : ℕ). gray_map root ++ drop n d) (zero-add _ ∙ gray-length ∙ sym long)
      ∙ ap (λ (x : List ℕ). gray_map root ++ x) (drop-length d)
      ∙ append-nil (gray_map root)

  module _ (within-top : in_limits top ≡ true) where
    pub gray-root : root_of (gray_map root) ≡ top
    unfolding gray_map
    gray-root = root-back top (gray ∷ []) within-top

    leaves-are : leaves_of (gray_map root) ≡ gray ∷ []
    unfolding gray_map
    leaves-are = leaves-back top (gray ∷ [])

    -- it opens, whatever faces may be named
    pub gray-opens : (named : ℕ → Bool) → fault_of named (gray_map root) ≡ []
    unfolding gray_map Run leaf_good level_good face_good place_good
    gray-opens named = map-opens named top (gray ∷ []) within-top (omega arith) (refl, refl)

    pub gray-deeper : in_limits root ≡ true → Deeper (gray_map root) root
    gray-deeper within =
        record {
          opens = (any_face, gray-opens any_face);
          same = λ i. record { x = (sym gray-root i).x; y = (sym gray-root i).y; z = (sym gray-root i).z; k = (sym gray-root i).k; d = root.d };
          depth = rw gray-root (omega arith);
          within = within;
        }

    -- to build is to refine it
    one-leaf : (over : Cube → State) → grown over root.d top (gray ∷ []) ≡ leaves_below over root.d (root_cube root)
    unfolding upto replaced place_at root_cube
    one-leaf over = let z : root.d - 0 ≡ root.d = omega arith in ap (λ (n : ℕ). leaves_below over n (cube_at top 0 0)) z ∙ ap (leaves_below over root.d) (root-cube top)

    pub gray-refined : (over : Cube → State) → refined_leaves over root.d (gray_map root) ≡ leaves_below over root.d (root_cube root)
    gray-refined over = refined-grown over root.d (gray_map root) ∙ ap₂ (grown over root.d) gray-root leaves-are ∙ one-leaf over

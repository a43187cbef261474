-- What one leaf is replaced by.
use mathlib.Core.Path.{◌≡◌}
use mathlib.Core.List.{[], ◌∷◌}
use Prim.Native.Nat.{ℕ}
use borrow.Author.Tests.{eq-eqb, ne_eqb}
use Rattle.cube.specs.declared.Cube.{Cube}
use Rattle.colour.specs.declared.State.{State}
use Rattle.zonemap.specs.declared.Leaf.{Leaf}
use Rattle.tree.specs.Solid.{leaves_below}
use Rattle.replacing.specs.Replace.{replaced}

module _ (over : Cube → State) (left : ℕ) (q : Cube) (l : Leaf) where
  -- a gray one by the leaves of its cube
  pub gray-is : l.class ≡ 4 → replaced over left q l ≡ leaves_below over left q
  unfolding replaced
  gray-is gray = rw (eq-eqb l.class 4 gray)

  -- any other stands
  pub stands-is : (l.class ≡ 4 → ⊥) → replaced over left q l ≡ l ∷ []
  unfolding replaced
  stands-is other = rw (ne_eqb l.class 4 other)

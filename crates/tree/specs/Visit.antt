-- The order in which the cubes of a tree are visited, and what its leaves contribute.
use Rattle.std.specs.Prelude.{ℕ, zero, suc, Bool, cond, List, [], ◌++◌}
use Rattle.cube.specs.declared.Cube.{Cube}
use Rattle.cube.specs.Cubes.{child_of}

-- the n lists f 0, f 1 and so on, one after the other
unfoldable pub upto : {A : Type 0} → (ℕ → List A) → ℕ → List A
upto f zero = []
upto f (suc n) = upto f n ++ f n

-- A cube that is gray at a level less than d is split into eight children, 0 to 7 in order; every other cube is a leaf. `left` is d minus the cube's level.
module _ {A : Type 0} (is_gray : Cube → Bool) (leaf : Cube → List A) where
  unfoldable pub visit : ℕ → Cube → List A
  visit zero q = leaf q
  visit (suc left) q = cond (is_gray q) (upto (λ k. visit left (child_of q k)) 8) (leaf q)

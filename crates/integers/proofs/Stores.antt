-- Stores into a list of bytes.
use mathlib.Core.Path.{◌≡◌}
use mathlib.Core.List.{List, [], ◌∷◌, ◌++◌}
use Prim.Native.Nat.{ℕ, suc, ◌+◌}
use native.Mathlib.Omega.{arith}
use lib.ListN.{length, set}
use lib.Seq.{sets}

-- two adjacent stores are one store
pub sets-append : (d : List ℕ) (i j : ℕ) (a b : List ℕ) → j ≡ i + length a → sets (sets d i a) j b ≡ sets d i (a ++ b)
sets-append d i j [] b e = let k : j ≡ i = omega arith in rw k
sets-append d i j (x ∷ a) b e = sets-append (set d i x) (suc i) j a b (omega arith)

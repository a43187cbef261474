-- The leaf that is found: exactly one leaf holds a place, and its three bytes are in the map.
use mathlib.Core.Path.{◌≡◌, refl, ap}
use mathlib.Core.Bool.{Bool, true}
use mathlib.Core.List.{List, [], ◌∷◌}
use Prim.Native.Nat.{ℕ, zero, suc, ◌+◌, ◌-◌, ◌*◌, ◌/◌, ◌%◌, ◌^◌, ◌≤◌, ◌<◌}
use native.Mathlib.Omega.{arith}
use borrow.Author.Tests.{lt-ltb, le-ltb, ltb-true, ltb-false}
use Rattle.std.proofs.lemmas.Bool.Decides.{nat_tests}
use lib.Dec.{ltb}
use lib.ListN.{length, get_or}
use Rattle.integers.proofs.Order.{by-test}
use Rattle.integers.proofs.First.{none_first}
use Rattle.cube.specs.Limits.{in_limits}
use Rattle.zonemap.specs.declared.Leaf.{Leaf}
use Rattle.zonemap.specs.Opening.{length_good, root_of, leaf_in, leaves_in, leaves_of, size_of, leaves_fault, header_fault, fault_of, leaf_at, offset_at}
use Rattle.zonemap.specs.Leaves.{place_at, nowhere, Holds}
use Rattle.zonemap.proofs.Runs.{Run, Fine, opens-run, one-fault}
use Rattle.zonemap.proofs.Tests.{length-told}

-- ---- the leaf that holds a place
pub leaf-holds : (Each : ℕ → Leaf → Type 0) (d m p e : ℕ) (ls : List Leaf) → Run Each d p ls e → p ≤ m → m < e → Holds d m p (leaf_at d m p ls) ls
unfolding Run leaf_at place_at
leaf-holds Each d m p e [] r h k = let z : ⊥ = omega arith in absurd z
leaf-holds Each d m p e (l ∷ ls) r h k =
    by-test (ltb m (p + size_of d l))
    (λ t. rw t (record { among = omega arith; from = omega arith; till = omega (arith, ltb-true m (p + size_of d l) t) }))
    (λ t.
    let i = leaf-holds Each d m (p + size_of d l) e ls r.1 (ltb-false m (p + size_of d l) t) k in
    rw t (record { among = omega (arith, i.among); from = omega (arith, i.from); till = omega (arith, i.till) }))

-- and no other leaf holds it
pub holds-one : (d m p i : ℕ) (ls : List Leaf) → Holds d m p i ls → i ≡ leaf_at d m p ls
unfolding leaf_at place_at
holds-one d m p i [] h = let z : ⊥ = omega (arith, h.among) in absurd z
holds-one d m p zero (l ∷ ls) h = rw (lt-ltb m (p + size_of d l) (omega (arith, h.till)))
holds-one d m p (suc i) (l ∷ ls) h =
    rw (le-ltb m (p + size_of d l) (omega (arith, h.from)))
    (ap suc (holds-one d m (p + size_of d l) i ls (record { among = omega (arith, h.among); from = omega (arith, h.from); till = omega (arith, h.till) })))

-- ---- its bytes
pub leaves-count : (s : List ℕ) (n at : ℕ) → length (leaves_in s n at) ≡ n
unfolding leaves_in
leaves-count s zero at = refl
leaves-count s (suc n) at = ap suc (leaves-count s n (at + 3))

leaf-in : (s : List ℕ) (n at i : ℕ) → i < n → get_or (leaves_in s n at) i nowhere ≡ leaf_in s (at + 3 * i)
unfolding leaves_in
leaf-in s zero at i h = absurd (omega arith)
leaf-in s (suc n) at zero h = let z : at + 3 * 0 ≡ at = omega arith in rw z
leaf-in s (suc n) at (suc i) h = let z : at + 3 * suc i ≡ at + 3 + 3 * i = omega arith in rw z (leaf-in s n (at + 3) i (omega arith))

pub leaf-bytes : (s : List ℕ) (i : ℕ) → i < length (leaves_of s) → get_or (leaves_of s) i nowhere ≡ leaf_in s (19 + 3 * i)
leaf-bytes s i h = leaf-in s ((length s - 19) / 3) 19 i (omega (arith, leaves-count s ((length s - 19) / 3) 19))

pub found_inside : (named : ℕ → Bool) (s : List ℕ) (m : ℕ) → 19 ≤ length s → m < 8 ^ (root_of s).d → leaves_fault named (root_of s).d 0 19 (leaves_of s) ≡ [] → offset_at s m + 3 ≤ length s
found_inside named s m n k e =
    let d : ℕ = (root_of s).d in
    let r : Run (Fine named d) d 0 (leaves_of s) (8 ^ d) = opens-run named d 0 19 (leaves_of s) e in
    let h : Holds d m 0 (leaf_at d m 0 (leaves_of s)) (leaves_of s) = leaf-holds (Fine named d) d m 0 (8 ^ d) (leaves_of s) r (omega arith) k in
    omega (arith, h.among, leaves-count s ((length s - 19) / 3) 19)

-- ---- the bytes before the leaves
pub header-told : (s : List ℕ) → header_fault s ≡ [] → (length_good s ≡ true) × (get_or s 4 0 ≡ 1) × (in_limits (root_of s) ≡ true)
unfolding header_fault
header-told s e = (grind (arith, nat_tests), grind (arith, nat_tests), grind (arith, nat_tests))

pub header-sizes : (s : List ℕ) → header_fault s ≡ [] → (19 ≤ length s) × (length s % 3 ≡ 1) × (in_limits (root_of s) ≡ true)
header-sizes s e = let t = header-told s e in ((length-told s t.0).0, (length-told s t.0).1, t.2)

-- a map that opens has no fault before its leaves, and none in them
pub opens-parts : (named : ℕ → Bool) (s : List ℕ) → fault_of named s ≡ [] → (header_fault s ≡ []) × (leaves_fault named (root_of s).d 0 19 (leaves_of s) ≡ [])
unfolding fault_of
opens-parts named s e = none_first (λ (ns : List ℕ). ns ≡ []) (λ at. at ∷ []) _ (header_fault s) one-fault e

pub opens-sizes : (named : ℕ → Bool) (s : List ℕ) → fault_of named s ≡ [] → (19 ≤ length s) × (length s % 3 ≡ 1) × (in_limits (root_of s) ≡ true)
opens-sizes named s e = header-sizes s (opens-parts named s e).0

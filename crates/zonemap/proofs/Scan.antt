-- The loop over a map's leaves: what the proof of `scan` needs.
use Rattle.std.specs.Prelude.{Err, Ok, Result, None, Option, Some}
use mathlib.Core.Path.{◌≡◌, refl, ◌∙◌}
use mathlib.Core.Bool.{Bool, cond}
use mathlib.Core.List.{List, [], ◌∷◌}
use Prim.Native.Nat.{ℕ, suc, ◌+◌, ◌-◌, ◌*◌, ◌/◌, ◌%◌, ◌^◌, ◌≤◌, ◌<◌}
use native.Mathlib.Omega.{arith}
use borrow.Author.Tests.{eq-eqb, ne_eqb, lt-leb, le-leb}
use Rattle.std.proofs.lemmas.Bool.Decides.{nat_tests}
use lib.Dec.{leb}
use lib.ListN.{length}
use mir.Syntax.{w32}
use mir.Val.{Fits}
use Rattle.integers.specs.First.{on_first}
use Rattle.zonemap.specs.declared.Leaf.{Leaf}
use Rattle.zonemap.specs.Opening.{leaf_in, leaves_in, leaves_from, leaves_of, size_of, leaf_good, leaves_fault, leaf_at}
use Rattle.zonemap.proofs.Powers.{power_below}
use Rattle.zonemap.proofs.Tests.{sized-good, sized-bad, sized-room}

-- ---- the remaining leaves
module _ (s : List ℕ) (at : ℕ) where
  more : at < length s → at % 3 ≡ 1 → length s % 3 ≡ 1 → leaves_from s at ≡ leaf_in s at ∷ leaves_from s (at + 3)
  unfolding leaves_in
  more h a b = let e : (length s - at) / 3 ≡ suc ((length s - (at + 3)) / 3) = omega arith in rw e

  no_more : length s ≤ at → leaves_from s at ≡ []
  unfolding leaves_in
  no_more h = let e : (length s - at) / 3 ≡ 0 = omega arith in rw e

-- ---- the leaf that holds place m
-- its offset, when the leaves from `at` on remain: it is one of them, or the one at `found` if m was passed
abbrev offset_from : ℕ → ℕ → ℕ → ℕ → ℕ → List Leaf → ℕ
offset_from d m place at found ls = cond (leb place m) (at + 3 * leaf_at d m place ls) found

module _ (d m place at found : ℕ) (l : Leaf) (ls : List Leaf) where
  -- it is the same one leaf further on
  offset-on : offset_from d m (place + size_of d l) (at + 3) (cond (leb place m) at found) ls ≡ offset_from d m place at found (l ∷ ls)
  unfolding leaf_at
  offset-on = grind (arith, nat_tests)

-- ---- the invariant: the remaining leaves give the same result as all of them
pub record Scan (named : ℕ → Bool) (s : List ℕ) (d m place at found : ℕ) : Type 0 where
  pub beat : at % 3 ≡ 1
  pub whole : length s % 3 ≡ 1
  pub room : place ≤ 8 ^ d
  pub small : 8 ^ d ≤ 2 ^ 30
  pub same-fault : leaves_fault named d place at (leaves_from s at) ≡ leaves_fault named d 0 19 (leaves_of s)
  pub same-leaf : offset_from d m place at found (leaves_from s at) ≡ 19 + 3 * leaf_at d m 0 (leaves_of s)

pub scan-less : (s : List ℕ) (at : ℕ) → at < length s → length s - (at + 3) < length s - at
scan-less s at h = omega arith

module _ (named : ℕ → Bool) (s : List ℕ) (d m : ℕ) where
  -- what `scan` returns
  abbrev Answer : Result ℕ ℕ
  Answer = on_first (leaves_fault named d 0 19 (leaves_of s)) Err (Ok (19 + 3 * leaf_at d m 0 (leaves_of s)))

  pub scan-start : d ≤ 10 → length s % 3 ≡ 1 → Scan named s d m 0 19 19
  scan-start h e =
      record { beat = refl; whole = e; room = omega arith; small = power_below d h; same-fault = refl; same-leaf = rw (le-leb 0 m (omega arith)) }

  module _ (place at found : ℕ) (v : Scan named s d m place at found) where
    -- l and o are what `leaf_at` and `good_size` returned
    module _ (l : Leaf) (el : l ≡ leaf_in s at) (o : Option ℕ) (eo : o ≡ cond (leaf_good named d place l) (Some (size_of d l)) None) where
      pub scan-fits : (r : ℕ) → o ≡ Some r → Fits w32 (place + r)
      scan-fits r k = record { fits = omega (arith, sized-room named d place l o eo r k, v.small) }

      module _ (h : at < length s) where
        pub scan-bad : o ≡ None → Err at ≡ Answer
        unfolding leaves_fault
        scan-bad k = rw (← v.same-fault, more s at h v.beat v.whole, ← el, sized-bad named d place l o eo k)

        pub scan-on : (r f : ℕ) → o ≡ Some r → f ≡ cond (leb place m) at found → Scan named s d m (place + r) (at + 3) f
        unfolding leaves_fault
        scan-on r f k ef =
            let t = sized-good named d place l o eo r k in
            let left : leaves_from s at ≡ l ∷ leaves_from s (at + 3) = rw (more s at h v.beat v.whole, el) in
            record {
              beat = omega (arith, v.beat);
              whole = v.whole;
              room = sized-room named d place l o eo r k;
              small = v.small;
              same-fault = rw t.1 (rw (left, t.0) at v.same-fault);
              same-leaf = rw (t.1, ef) (offset-on d m place at found l (leaves_from s (at + 3)) ∙ rw left at v.same-leaf);
            }

    -- w is what `eight_to d` returned
    module _ (h : length s ≤ at) (w : ℕ) (e : w ≡ 8 ^ d) where
      pub scan-short : place < w → Err at ≡ Answer
      unfolding leaves_fault
      scan-short k = rw (← v.same-fault, no_more s at h, ne_eqb place (8 ^ d) (λ z. omega arith))

      -- no leaf ends past 8^d, so that the sum is 8^d where it is not less
      pub scan_good : m < 8 ^ d → w ≤ place → Ok found ≡ Answer
      unfolding leaves_fault
      scan_good k j =
          rw (← v.same-fault, no_more s at h, eq-eqb place (8 ^ d) (omega (arith, v.room)), ← v.same-leaf, lt-leb place m (omega arith))

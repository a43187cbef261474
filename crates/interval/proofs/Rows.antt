-- Worked rows of the rules and of the limit, each by computation: the paper's, and those at an edge.
use Rattle.std.specs.Prelude.{Err, Ok}
use mathlib.Core.Path.{◌≡◌, refl}
use Prim.Native.Nat.{ℕ, ◌+◌, ◌-◌, ◌^◌}
use lib.IntN.{ℤ, pos, neg_ℤ}
use Rattle.integers.specs.Least.{lesser_of, greater_of}
use Rattle.replies.specs.declared.End.TheVariants.{Low, High}
use Rattle.interval.specs.Rules.{from, only, span, sum, difference, product, square}
use Rattle.interval.specs.Limit.{is_small, past_end, bounded_of}

abbrev minus : ℕ → ℤ
minus n = neg_ℤ (pos n)

record RuleRows : Type 0 where
  sum-across-zero : sum (from (pos 1) (pos 2)) (from (minus 3) (pos 5)) ≡ from (minus 2) (pos 7)
  difference-of-ends : difference (from (pos 1) (pos 2)) (from (pos 3) (pos 5)) ≡ from (minus 4) (minus 1)
  -- x (10 - x) over 4 to 6
  product-of-difference : product (from (pos 4) (pos 6)) (difference (only (pos 10)) (from (pos 4) (pos 6))) ≡ from (pos 16) (pos 36)
  product-above-zero : product (from (pos 2) (pos 3)) (from (pos 4) (pos 5)) ≡ from (pos 8) (pos 15)
  product-below-zero : product (from (minus 3) (minus 2)) (from (minus 5) (minus 4)) ≡ from (pos 8) (pos 15)
  product-above-below : product (from (pos 2) (pos 3)) (from (minus 5) (minus 4)) ≡ from (minus 15) (minus 8)
  product-below-above : product (from (minus 3) (minus 2)) (from (pos 4) (pos 5)) ≡ from (minus 15) (minus 8)
  product-above-across : product (from (pos 2) (pos 3)) (from (minus 4) (pos 5)) ≡ from (minus 12) (pos 15)
  product-below-across : product (from (minus 3) (minus 2)) (from (minus 4) (pos 5)) ≡ from (minus 15) (pos 12)
  product-across-above : product (from (minus 2) (pos 3)) (from (pos 4) (pos 5)) ≡ from (minus 10) (pos 15)
  product-across-below : product (from (minus 2) (pos 3)) (from (minus 5) (minus 4)) ≡ from (minus 15) (pos 10)
  product-from-zero : product (from (pos 0) (pos 3)) (from (minus 4) (pos 5)) ≡ from (minus 12) (pos 15)
  product-to-zero : product (from (minus 3) (pos 0)) (from (minus 4) (pos 5)) ≡ from (minus 15) (pos 12)
  product-of-zero : product (only (pos 0)) (from (minus 4) (pos 5)) ≡ only (pos 0)
  product-of-one-number : product (from (minus 4) (pos 5)) (only (minus 3)) ≡ from (minus 15) (pos 12)
  product-across-zero : product (from (minus 2) (pos 3)) (from (minus 7) (pos 5)) ≡ from (minus 21) (pos 15)
  -- the square of an interval is narrower than its product by itself
  product-by-itself : product (from (minus 3) (pos 2)) (from (minus 3) (pos 2)) ≡ from (minus 6) (pos 9)
  square-across-zero : square (from (minus 3) (pos 2)) ≡ from (pos 0) (pos 9)
  square-above-zero : square (from (pos 2) (pos 3)) ≡ from (pos 4) (pos 9)
  square-below-zero : square (from (minus 3) (minus 2)) ≡ from (pos 4) (pos 9)
  square-from-zero : square (from (pos 0) (pos 3)) ≡ from (pos 0) (pos 9)
  square-to-zero : square (from (minus 3) (pos 0)) ≡ from (pos 0) (pos 9)

rule-rows : RuleRows
unfolding sum difference span product square lesser_of greater_of
rule-rows = record {
  sum-across-zero = refl;
  difference-of-ends = refl;
  product-of-difference = refl;
  product-above-zero = refl;
  product-below-zero = refl;
  product-above-below = refl;
  product-below-above = refl;
  product-above-across = refl;
  product-below-across = refl;
  product-across-above = refl;
  product-across-below = refl;
  product-from-zero = refl;
  product-to-zero = refl;
  product-of-zero = refl;
  product-of-one-number = refl;
  product-across-zero = refl;
  product-by-itself = refl;
  square-across-zero = refl;
  square-above-zero = refl;
  square-below-zero = refl;
  square-from-zero = refl;
  square-to-zero = refl;
}

record LimitRows : Type 0 where
  greatest-end : bounded_of (only (pos (2 ^ 60))) ≡ Ok (only (pos (2 ^ 60)))
  past-greatest : bounded_of (from (pos 0) (pos (2 ^ 60 + 1))) ≡ Err High
  least-end : bounded_of (only (minus (2 ^ 60))) ≡ Ok (only (minus (2 ^ 60)))
  past-least : bounded_of (from (minus (2 ^ 60 + 1)) (pos 0)) ≡ Err Low
  whole-limit : bounded_of (from (minus (2 ^ 60)) (pos (2 ^ 60))) ≡ Ok (from (minus (2 ^ 60)) (pos (2 ^ 60)))
  -- the low end counts first
  past-both : bounded_of (from (minus (2 ^ 60 + 1)) (pos (2 ^ 60 + 1))) ≡ Err Low
  -- and it is outside above 2^60 as well as below -2^60
  all_above : bounded_of (from (pos (2 ^ 60 + 1)) (pos (2 ^ 60 + 2))) ≡ Err Low
  all-below : bounded_of (from (minus (2 ^ 60 + 2)) (minus (2 ^ 60 + 1))) ≡ Err Low
  from-limit-up : bounded_of (from (pos (2 ^ 60)) (pos (2 ^ 60 + 1))) ≡ Err High
  up-to-limit : bounded_of (from (minus (2 ^ 60 + 1)) (pos (2 ^ 60))) ≡ Err Low
  -- an operand's other end makes the record pass
  past-by-high-end : bounded_of (difference (only (minus 1)) (from (pos 0) (pos (2 ^ 60)))) ≡ Err Low
  past-by-turned-end : bounded_of (product (from (minus 2) (minus 1)) (only (minus (2 ^ 60)))) ≡ Err High
  past-by-low-end : bounded_of (square (from (minus (2 ^ 30 + 1)) (minus (2 ^ 30)))) ≡ Err High
  sum-to-limit : bounded_of (sum (only (pos (2 ^ 59))) (only (pos (2 ^ 59)))) ≡ Ok (only (pos (2 ^ 60)))
  square-to-limit : bounded_of (square (only (pos (2 ^ 30)))) ≡ Ok (only (pos (2 ^ 60)))
  square-past-limit : bounded_of (square (only (pos (2 ^ 30 + 1)))) ≡ Err Low
  product-to-limit : bounded_of (product (only (pos (2 ^ 40))) (only (pos (2 ^ 20)))) ≡ Ok (only (pos (2 ^ 60)))
  product-past-limit : bounded_of (product (only (pos (2 ^ 40 + 1))) (only (pos (2 ^ 20)))) ≡ Err Low
  -- (2^30 - 1)(2^30 + 1) = 2^60 - 1, and 4562284561 × 252707057 = 2^60 + 1
  product-before-limit : bounded_of (product (only (pos (2 ^ 30 - 1))) (only (pos (2 ^ 30 + 1)))) ≡ Ok (only (pos (2 ^ 60 - 1)))
  product-past-by-one : bounded_of (product (only (pos 4562284561)) (only (pos 252707057))) ≡ Err Low
  product-to-least : bounded_of (product (only (minus (2 ^ 30))) (only (pos (2 ^ 30)))) ≡ Ok (only (minus (2 ^ 60)))
  product-past-least-by-one : bounded_of (product (only (minus 4562284561)) (only (pos 252707057))) ≡ Err Low
  across-to-limit : bounded_of (product (from (minus (2 ^ 30)) (pos (2 ^ 30))) (from (minus (2 ^ 30)) (pos (2 ^ 30)))) ≡ Ok (from (minus (2 ^ 60)) (pos (2 ^ 60)))
  across-past-limit : bounded_of (product (from (minus (2 ^ 30)) (pos 4562284561)) (from (minus (2 ^ 20)) (pos 252707057))) ≡ Err High
  zero-of-limit : bounded_of (product (only (pos 0)) (only (pos (2 ^ 60)))) ≡ Ok (only (pos 0))
  turned-limit : bounded_of (product (only (minus (2 ^ 60))) (only (minus 1))) ≡ Ok (only (pos (2 ^ 60)))

limit-rows : LimitRows
unfolding sum difference span product square lesser_of greater_of is_small past_end bounded_of
limit-rows = record {
  greatest-end = refl;
  past-greatest = refl;
  least-end = refl;
  past-least = refl;
  whole-limit = refl;
  past-both = refl;
  all_above = refl;
  all-below = refl;
  from-limit-up = refl;
  up-to-limit = refl;
  past-by-high-end = refl;
  past-by-turned-end = refl;
  past-by-low-end = refl;
  sum-to-limit = refl;
  square-to-limit = refl;
  square-past-limit = refl;
  product-to-limit = refl;
  product-past-limit = refl;
  product-before-limit = refl;
  product-past-by-one = refl;
  product-to-least = refl;
  product-past-least-by-one = refl;
  across-to-limit = refl;
  across-past-limit = refl;
  zero-of-limit = refl;
  turned-limit = refl;
}

-- Sum, difference, product and square of intervals, in exact whole numbers.
use Rattle.std.specs.Prelude.{cond, ℤ, pos, ◌+ℤ◌, ◌-ℤ◌, ◌*ℤ◌}
use Rattle.std.specs.Int.Signed.{le_z}
use Rattle.integers.specs.Least.{greater_of, least_of, greatest_of}
use Rattle.interval.specs.declared.Interval.{Interval}

-- [a, b]
abbrev pub from : ℤ → ℤ → Interval
from a b = record { low = a; high = b }

-- [a, a]
abbrev pub only : ℤ → Interval
only a = from a a

-- [a,b] + [c,d] = [a+c, b+d]
unfoldable pub sum : Interval → Interval → Interval
sum i j = from (i.low +ℤ j.low) (i.high +ℤ j.high)

-- [a,b] - [c,d] = [a-d, b-c]
unfoldable pub difference : Interval → Interval → Interval
difference i j = from (i.low -ℤ j.high) (i.high -ℤ j.low)

-- the least and greatest of four numbers
unfoldable pub span : ℤ → ℤ → ℤ → ℤ → Interval
span p q r s = from (least_of p q r s) (greatest_of p q r s)

-- product: least and greatest of ac, ad, bc, bd
unfoldable pub product : Interval → Interval → Interval
product i j = span (i.low *ℤ j.low) (i.low *ℤ j.high) (i.high *ℤ j.low) (i.high *ℤ j.high)

-- square of [a,b]: [a²,b²] if a >= 0; else [b²,a²] if b <= 0; else [0, greater of a² and b²]
unfoldable pub square : Interval → Interval
square i =
    let a = i.low in
    let b = i.high in
    cond (le_z (pos 0) a) (from (a *ℤ a) (b *ℤ b)) (cond (le_z b (pos 0)) (from (b *ℤ b) (a *ℤ a)) (from (pos 0) (greater_of (a *ℤ a) (b *ℤ b))))

-- Powers of 8 by shifts.
use mathlib.Core.Path.{◌≡◌}
use Prim.Native.Nat.{ℕ, ◌*◌, ◌%◌, ◌^◌, ◌≤◌, ◌<◌}
use native.Mathlib.Nat.{zero-lt-suc, pow-le-pow_right, one-le-pow}
use native.Mathlib.Omega.{arith}
use Rattle.cube.proofs.Corners.{two-eight}

pub power_above : (n : ℕ) → 0 < 8 ^ n
power_above n = omega (arith, one-le-pow n 8 (zero-lt-suc 7))

pub power_below : (n : ℕ) → n ≤ 10 → 8 ^ n ≤ 2 ^ 30
power_below n h = pow-le-pow_right (zero-lt-suc 7) h

pub shifted : (n : ℕ) → n ≤ 10 → 1 * 2 ^ (3 * n) % 4294967296 ≡ 8 ^ n
shifted n h = omega (arith, two-eight n, power_below n h)

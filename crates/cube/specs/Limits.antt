-- The limits of root and depth: reply 6.
use Rattle.std.specs.Prelude.{ℕ, ◌+◌, ◌≤◌, ◌^◌, Bool, ◌&&◌, leb, ℤ, pos, neg_ℤ, nat_abs, ◌+ℤ◌, ◌≤ℤ◌}
use Rattle.std.specs.Int.Signed.{le_z}
use Rattle.cube.specs.declared.Root.{Root}
use Rattle.cube.specs.declared.Cube.{Cube}

-- Each low coordinate is at least -2^20 and each high one (low + 2^k) at most 2^20.
unfoldable pub axis_fits : ℤ → ℕ → Bool
axis_fits low side = le_z (neg_ℤ (pos (2 ^ 20))) low && le_z (low +ℤ pos side) (pos (2 ^ 20))

-- side 2^k, with 0 <= k <= 16; depth d: 0 <= d <= 10 and d <= k
unfoldable pub sizes_fit : ℕ → ℕ → Bool
sizes_fit k d = leb k 16 && leb d 10 && leb d k

unfoldable pub in_limits : Root → Bool
in_limits r = sizes_fit r.k r.d && axis_fits r.x (2 ^ r.k) && axis_fits r.y (2 ^ r.k) && axis_fits r.z (2 ^ r.k)

-- the same root at another depth
abbrev pub at_depth : ℕ → Root → Root
at_depth d r = record { x = r.x; y = r.y; z = r.z; k = r.k; d = d }

-- the limits, with one per line
pub record WithinLimits (r : Root) : Type 0 where
  pub k-most : r.k ≤ 16
  pub d-most : r.d ≤ 10
  pub d-below : r.d ≤ r.k
  pub x-least : neg_ℤ (pos (2 ^ 20)) ≤ℤ r.x
  pub y-least : neg_ℤ (pos (2 ^ 20)) ≤ℤ r.y
  pub z-least : neg_ℤ (pos (2 ^ 20)) ≤ℤ r.z
  pub x-most : (r.x +ℤ pos (2 ^ r.k)) ≤ℤ pos (2 ^ 20)
  pub y-most : (r.y +ℤ pos (2 ^ r.k)) ≤ℤ pos (2 ^ 20)
  pub z-most : (r.z +ℤ pos (2 ^ r.k)) ≤ℤ pos (2 ^ 20)

-- (Only inner contracts cite this.) The cube, with `left` levels below it, is so near the origin that no sum of its coordinates and side wraps
pub record Near (left : ℕ) (q : Cube) : Type 0 where
  pub x : nat_abs q.x + q.side ≤ 2 ^ 21
  pub y : nat_abs q.y + q.side ≤ 2 ^ 21
  pub z : nat_abs q.z + q.side ≤ 2 ^ 21
  pub deep : q.level + left ≤ 10

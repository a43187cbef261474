-- The cube of a level that a place lies in.
use mathlib.Core.Path.{◌≡◌, sym, ap, ◌∙◌}
use Prim.Native.Nat.{ℕ, suc, ◌+◌, ◌-◌, ◌*◌, ◌/◌, ◌^◌, ◌≤◌, ◌<◌}
use native.Mathlib.Nat.{one-le-pow, zero-lt-suc, mul-le-mul_right, div-eq_of_lt, div-eq_of_lt-le, div-div-eq-div-mul, mul-add-div_right}
use native.Mathlib.Omega.{arith}
use lib.Pow.{pow-add}
use Rattle.cube.specs.declared.Root.{Root}
use Rattle.cube.specs.Cubes.{cube_at, cube_around}

size-some : (n : ℕ) → 0 < 8 ^ n
size-some n = one-le-pow n 8 (zero-lt-suc 7)

-- it is the cube that has the place among its own
pub around-is : (r : Root) (n level c m : ℕ) → level + n ≡ r.d → c * 8 ^ n ≤ m → m < c * 8 ^ n + 8 ^ n → cube_around r m level ≡ cube_at r (c * 8 ^ n) level
unfolding cube_around
around-is r n level c m e l u =
    let w : r.d - level ≡ n = omega arith in
    rw w (ap (λ (i : ℕ). cube_at r (i * 8 ^ n) level) (div-eq_of_lt-le {k = c} (8 ^ n) {m = m} l (omega arith)))

-- a number and its multiple of M below have the same quotient by each multiple of M
quotient : (M E c k : ℕ) → k < M → (c * M + k) / (M * E) ≡ c / E
quotient M E c k h =
    let z : c + k / M ≡ c = ap (λ (i : ℕ). c + i) (div-eq_of_lt h) ∙ omega arith in
    sym (div-div-eq-div-mul (c * M + k) M E) ∙ ap (λ (i : ℕ). i / E) (mul-add-div_right {m = M} (omega arith) c k ∙ z)

-- for the places of a cube's children it is the same, if its level is less than the cube's or the same
pub around-child : (r : Root) (n c k level : ℕ) → level + suc n ≤ r.d → k < 8 → cube_around r (c * 8 ^ suc n + k * 8 ^ n) level ≡ cube_around r (c * 8 ^ suc n) level
unfolding cube_around
around-child r n c k level h l =
    let m = r.d - level - suc n in
    let w : r.d - level ≡ suc n + m = omega arith in
    let s : 8 ^ (r.d - level) ≡ 8 ^ suc n * 8 ^ m = ap (λ (i : ℕ). 8 ^ i) w ∙ pow-add 8 (suc n) m in
    let z : c * 8 ^ suc n + 0 ≡ c * 8 ^ suc n = omega arith in
    let most : k ≤ 7 = omega arith in
    let small : k * 8 ^ n < 8 ^ suc n = omega (arith, mul-le-mul_right (8 ^ n) most, size-some n) in
    let q : (c * 8 ^ suc n + k * 8 ^ n) / (8 ^ suc n * 8 ^ m) ≡ c * 8 ^ suc n / (8 ^ suc n * 8 ^ m) =
    quotient (8 ^ suc n) (8 ^ m) c (k * 8 ^ n) small ∙ sym (rw z at (quotient (8 ^ suc n) (8 ^ m) c 0 (size-some (suc n)))) in
    rw (s, q)

-- The low corner of the cube at a place: what the proofs of `digit` and `corner` need, and the corner of a child.
use mathlib.Core.Path.{◌≡◌, refl, ap, ◌∙◌}
use Prim.Native.Nat.{ℕ, zero, suc, ◌+◌, ◌-◌, ◌*◌, ◌/◌, ◌%◌, ◌^◌, ◌≤◌, ◌<◌}
use native.Mathlib.Nat.{zero-div, div-div-eq-div-mul}
use native.Mathlib.Omega.{arith}
use lib.Pow.{pow_mono}
use Rattle.cube.specs.Cubes.{half, corner_of}

-- ---- digit
pub two-eight : (n : ℕ) → 2 ^ (3 * n) ≡ 8 ^ n
two-eight zero = refl
two-eight (suc n) = let e : 3 * suc n ≡ suc (suc (suc (3 * n))) = omega arith in rw e (omega (arith, two-eight n))

pub digit_is : (place i : ℕ) → place / 2 ^ (3 * i) % 8 ≡ place / 8 ^ i % 8
digit_is place i = rw (two-eight i)

-- ---- corner
pub half-below : (axis k : ℕ) → half axis k < 2
half-below axis k = omega arith

pub corner-below : (axis d place : ℕ) → corner_of axis d place < 2 ^ d
unfolding corner_of
corner-below axis zero place = omega arith
corner-below axis (suc d) place = omega (arith, corner-below axis d (place / 8), half-below axis (place % 8))

eighths : (place i : ℕ) → place / 8 ^ i / 8 ≡ place / 8 ^ suc i
eighths place i = let e : 8 ^ i * 8 ≡ 8 ^ suc i = omega arith in div-div-eq-div-mul place (8 ^ i) 8 ∙ ap (λ (n : ℕ). place / n) e

-- the corner by the child numbers that have i others or more below them: with i = d none yet, with i = 0 all of them
pub corner_start : (axis d place : ℕ) → corner_of axis (d - d) place ≡ 0
unfolding corner_of
corner_start axis d place = let e : d - d ≡ 0 = omega arith in rw e

pub corner_small : (axis d i place : ℕ) → d ≤ 10 → corner_of axis (d - i) place < 2 ^ 10
corner_small axis d i place h = omega (arith, corner-below axis (d - i) place, pow_mono {i = d - i} {j = 10} (omega arith))

pub corner_next : (axis d i place : ℕ) → 0 < i → i ≤ d → corner_of axis (d - (i - 1)) (place / 8 ^ (i - 1)) ≡ 2 * corner_of axis (d - i) (place / 8 ^ i) + half axis (place / 8 ^ (i - 1) % 8)
unfolding corner_of
corner_next axis d zero place z h = absurd (omega arith)
corner_next axis d (suc i) place z h =
    let j : suc i - 1 ≡ i = omega arith in
    let m : d - i ≡ suc (d - suc i) = omega arith in
    rw (j, m, eighths place i)

pub ruleset corner_steps = (corner_start, corner_small, corner_next, half-below)

-- ---- the corner of a child
pub times_eight : (c n : ℕ) → c * 8 ^ suc n ≡ 8 * (c * 8 ^ n)
times_eight c n = let e : 8 ^ suc n ≡ 8 * 8 ^ n = omega arith in rw e (omega arith)

pub times-two : (c n : ℕ) → c * 2 ^ suc n ≡ 2 * (c * 2 ^ n)
times-two c n = let e : 2 ^ suc n ≡ 2 * 2 ^ n = omega arith in rw e (omega arith)

pub half-zero : (axis : ℕ) → half axis 0 ≡ 0
half-zero axis = omega (arith, zero-div (2 ^ axis))

pub corner-zero : (axis d : ℕ) → corner_of axis d 0 ≡ 0
unfolding corner_of
corner-zero axis zero = refl
corner-zero axis (suc d) = rw (half-zero axis) (omega (arith, corner-zero axis d))

-- child k of a cube with n + 1 levels below it
pub corner-child : (axis n d c k : ℕ) → suc n ≤ d → k < 8 → corner_of axis d (c * 8 ^ suc n + k * 8 ^ n) ≡ corner_of axis d (c * 8 ^ suc n) + half axis k * 2 ^ n
unfolding corner_of
corner-child axis n zero c k l b = absurd (omega arith)
corner-child axis zero (suc d) c k l b =
    let t = times_eight c 0 in
    let e : (c * 8 ^ 1 + k * 8 ^ 0) / 8 ≡ c * 8 ^ 1 / 8 = omega arith in
    let r : (c * 8 ^ 1 + k * 8 ^ 0) % 8 ≡ k = omega arith in
    let r0 : c * 8 ^ 1 % 8 ≡ 0 = omega arith in
    rw (e, r, r0, half-zero axis) (omega arith)
corner-child axis (suc n) (suc d) c k l b =
    let t = times_eight c (suc n) in
    let u = times_eight k n in
    let e : (c * 8 ^ suc (suc n) + k * 8 ^ suc n) / 8 ≡ c * 8 ^ suc n + k * 8 ^ n = omega arith in
    let r : (c * 8 ^ suc (suc n) + k * 8 ^ suc n) % 8 ≡ 0 = omega arith in
    let e0 : c * 8 ^ suc (suc n) / 8 ≡ c * 8 ^ suc n = omega arith in
    let r0 : c * 8 ^ suc (suc n) % 8 ≡ 0 = omega arith in
    let w = times-two (half axis k) n in
    rw (e, r, e0, r0, half-zero axis) (omega (arith, corner-child axis n d c k (omega arith) b, w))

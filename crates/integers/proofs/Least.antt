-- Laws of the lesser and the greater of two whole numbers, and of the least and the greatest of four.
use mathlib.Core.Path.{◌≡◌, sym, ap₂, ◌∙◌}
use lib.IntN.{ℤ}
use lib.Signed.{le_z, ◌≤ℤ◌, ≤ℤ_refl}
use Rattle.integers.specs.Least.{lesser_of, greater_of, least_of, greatest_of}
use Rattle.integers.proofs.Order.{≤_trans, ≤-both, by-test, le_z-true, le_z-false, le_test}

-- ---- of two
-- what holds of both numbers holds of the lesser and of the greater
pub lesser-either : (P : ℤ → Type 0) (a b : ℤ) → P a → P b → P (lesser_of a b)
unfolding lesser_of
lesser-either P a b x y = by-test (le_z a b) (λ h. rw h x) (λ h. rw h y)

pub greater-either : (P : ℤ → Type 0) (a b : ℤ) → P a → P b → P (greater_of a b)
unfolding greater_of
greater-either P a b x y = by-test (le_z a b) (λ h. rw h y) (λ h. rw h x)

module _ (a b : ℤ) where
  pub lesser-left : lesser_of a b ≤ℤ a
  unfolding lesser_of
  lesser-left = by-test (le_z a b) (λ h. rw h (≤ℤ_refl a)) (λ h. rw h (le_z-false a b h))

  pub lesser-right : lesser_of a b ≤ℤ b
  unfolding lesser_of
  lesser-right = by-test (le_z a b) (λ h. rw h (le_z-true a b h)) (λ h. rw h (≤ℤ_refl b))

  pub greater-left : a ≤ℤ greater_of a b
  unfolding greater_of
  greater-left = by-test (le_z a b) (λ h. rw h (le_z-true a b h)) (λ h. rw h (≤ℤ_refl a))

  pub greater-right : b ≤ℤ greater_of a b
  unfolding greater_of
  greater-right = by-test (le_z a b) (λ h. rw h (≤ℤ_refl b)) (λ h. rw h (le_z-false a b h))

  pub lesser-first : a ≤ℤ b → lesser_of a b ≡ a
  unfolding lesser_of
  lesser-first h = rw (le_test a b h)

  pub greater-second : a ≤ℤ b → greater_of a b ≡ b
  unfolding greater_of
  greater-second h = rw (le_test a b h)

  pub lesser-second : b ≤ℤ a → lesser_of a b ≡ b
  lesser-second h = ≤-both _ _ lesser-right (lesser-either (λ z. b ≤ℤ z) a b h (≤ℤ_refl b))

  pub greater-first : b ≤ℤ a → greater_of a b ≡ a
  greater-first h = ≤-both _ _ (greater-either (λ z. z ≤ℤ a) a b (≤ℤ_refl a) h) greater-left

-- the order of the two does not matter
module _ (a b : ℤ) where
  pub lesser-commutes : lesser_of a b ≡ lesser_of b a
  lesser-commutes =
      by-test (le_z a b) (λ t. let h = le_z-true a b t in lesser-first a b h ∙ sym (lesser-second b a h))
      (λ t. let h = le_z-false a b t in lesser-second a b h ∙ sym (lesser-first b a h))

  pub greater-commutes : greater_of a b ≡ greater_of b a
  greater-commutes =
      by-test (le_z a b) (λ t. let h = le_z-true a b t in greater-second a b h ∙ sym (greater-first b a h))
      (λ t. let h = le_z-false a b t in greater-first a b h ∙ sym (greater-second b a h))

-- ---- of four
module _ (P : ℤ → Type 0) (p q r s : ℤ) (hp : P p) (hq : P q) (hr : P r) (hs : P s) where
  pub least-any : P (least_of p q r s)
  least-any = lesser-either P (lesser_of p q) (lesser_of r s) (lesser-either P p q hp hq) (lesser-either P r s hr hs)

  pub greatest-any : P (greatest_of p q r s)
  greatest-any = greater-either P (greater_of p q) (greater_of r s) (greater-either P p q hp hq) (greater-either P r s hr hs)

-- each of the four lies between the least and the greatest
module _ (p q r s : ℤ) where
  abbrev pub Spanned : ℤ → Type 0
  Spanned x = (least_of p q r s ≤ℤ x) × (x ≤ℤ greatest_of p q r s)

  in_left : (x : ℤ) → lesser_of p q ≤ℤ x → x ≤ℤ greater_of p q → Spanned x
  in_left x h k = (≤_trans _ _ _ (lesser-left (lesser_of p q) (lesser_of r s)) h, ≤_trans _ _ _ k (greater-left (greater_of p q) (greater_of r s)))

  in_right : (x : ℤ) → lesser_of r s ≤ℤ x → x ≤ℤ greater_of r s → Spanned x
  in_right x h k = (≤_trans _ _ _ (lesser-right (lesser_of p q) (lesser_of r s)) h, ≤_trans _ _ _ k (greater-right (greater_of p q) (greater_of r s)))

  pub first-spanned : Spanned p
  first-spanned = in_left p (lesser-left p q) (greater-left p q)

  pub second-spanned : Spanned q
  second-spanned = in_left q (lesser-right p q) (greater-right p q)

  pub third-spanned : Spanned r
  third-spanned = in_right r (lesser-left r s) (greater-left r s)

  pub fourth-spanned : Spanned s
  fourth-spanned = in_right s (lesser-right r s) (greater-right r s)

-- the order of the second and the third does not matter
module _ (p q r s : ℤ) where
  least-below : least_of p q r s ≤ℤ least_of p r q s
  least-below = least-any (λ z. least_of p q r s ≤ℤ z) p r q s (first-spanned p q r s).0 (third-spanned p q r s).0 (second-spanned p q r s).0 (fourth-spanned p q r s).0

  greatest-above : greatest_of p r q s ≤ℤ greatest_of p q r s
  greatest-above = greatest-any (λ z. z ≤ℤ greatest_of p q r s) p r q s (first-spanned p q r s).1 (third-spanned p q r s).1 (second-spanned p q r s).1 (fourth-spanned p q r s).1

pub least-crossed : (p q r s : ℤ) → least_of p q r s ≡ least_of p r q s
least-crossed p q r s = ≤-both _ _ (least-below p q r s) (least-below p r q s)

pub greatest-crossed : (p q r s : ℤ) → greatest_of p q r s ≡ greatest_of p r q s
greatest-crossed p q r s = ≤-both _ _ (greatest-above p r q s) (greatest-above p q r s)

-- ---- a function that keeps the order keeps the lesser and the greater
module _ (f : ℤ → ℤ) (keeps : (a b : ℤ) → a ≤ℤ b → f a ≤ℤ f b) where
  pub lesser-kept : (a b : ℤ) → lesser_of (f a) (f b) ≡ f (lesser_of a b)
  unfolding lesser_of
  lesser-kept a b =
      by-test (le_z a b) (λ h. rw h (lesser-first (f a) (f b) (keeps a b (le_z-true a b h)))) (λ h. rw h (lesser-second (f a) (f b) (keeps b a (le_z-false a b h))))

  pub greater-kept : (a b : ℤ) → greater_of (f a) (f b) ≡ f (greater_of a b)
  unfolding greater_of
  greater-kept a b =
      by-test (le_z a b) (λ h. rw h (greater-second (f a) (f b) (keeps a b (le_z-true a b h)))) (λ h. rw h (greater-first (f a) (f b) (keeps b a (le_z-false a b h))))

  pub least_kept : (p q r s : ℤ) → least_of (f p) (f q) (f r) (f s) ≡ f (least_of p q r s)
  least_kept p q r s = ap₂ lesser_of (lesser-kept p q) (lesser-kept r s) ∙ lesser-kept (lesser_of p q) (lesser_of r s)

  pub greatest-kept : (p q r s : ℤ) → greatest_of (f p) (f q) (f r) (f s) ≡ f (greatest_of p q r s)
  greatest-kept p q r s = ap₂ greater_of (greater-kept p q) (greater-kept r s) ∙ greater-kept (greater_of p q) (greater_of r s)

-- Laws of `along`: its length, that an entry depends only on its record and those before it, and the induction that gives everything else.
use mathlib.Core.Path.{◌≡◌, refl, sym, ap, ◌∙◌}
use mathlib.Core.List.{List, [], ◌∷◌, ◌++◌, append_assoc}
use Prim.Native.Nat.{ℕ, zero, suc, ◌+◌, ◌≤◌, ◌<◌}
use native.Mathlib.Omega.{arith}
use lib.ListN.{length, get_or, take, drop, length-append, take-append-drop}
use lib.Seq.{length-take-le, split_at, get_or_at, get_or-take, take-take, take-length, take-append_seam}
use Rattle.sheet.specs.declared.Record.{Record}
use Rattle.sheet.specs.declared.Record.TheVariants.{X}
use Rattle.sheet.specs.Along.{onward, along}

module _ {A : Type 0} (step : List A → Record → A) where
  onward-append : (vs : List A) (rs ss : List Record) → onward step vs (rs ++ ss) ≡ onward step (onward step vs rs) ss
  unfolding onward
  onward-append vs [] ss = refl
  onward-append vs (r ∷ rs) ss = onward-append (vs ++ step vs r ∷ []) rs ss

  -- records in two parts: the second continues from the first
  pub along-append : (rs ss : List Record) → along step (rs ++ ss) ≡ onward step (along step rs) ss
  unfolding along
  along-append rs ss = onward-append [] rs ss

  -- one more record adds one more entry
  pub along-more : (rs : List Record) (r : Record) → along step (rs ++ r ∷ []) ≡ along step rs ++ step (along step rs) r ∷ []
  unfolding onward
  along-more rs r = along-append rs (r ∷ [])

  length-onward : (vs : List A) (rs : List Record) → length (onward step vs rs) ≡ length vs + length rs
  unfolding onward
  length-onward vs [] = omega arith
  length-onward vs (r ∷ rs) = omega (arith, length-onward (vs ++ step vs r ∷ []) rs, length-append vs (step vs r ∷ []))

  -- there is one entry per record
  pub length-along : (rs : List Record) → length (along step rs) ≡ length rs
  unfolding along
  length-along rs = omega (arith, length-onward [] rs)

  onward-take : (vs : List A) (rs : List Record) → take (length vs) (onward step vs rs) ≡ vs
  unfolding onward
  onward-take vs [] = take-length vs
  onward-take vs (r ∷ rs) =
      let ws = vs ++ step vs r ∷ [] in
      sym (take-take (length vs) (length ws) (onward step ws rs) (omega (arith, length-append vs (step vs r ∷ []))))
      ∙ ap (take (length vs)) (onward-take ws rs)
      ∙ take-append_seam vs (step vs r ∷ [])

  -- the first entries are those of the first records, whatever records follow
  pub prefix : (before after : List Record) → take (length before) (along step (before ++ after)) ≡ along step before
  prefix before after =
      rw (along-append before after, ← length-along before) (onward-take (along step before) after)

  pub prefix-at : (before after : List Record) (i : ℕ) (d : A) → i < length before → get_or (along step (before ++ after)) i d ≡ get_or (along step before) i d
  prefix-at before after i d h = sym (get_or-take (length before) _ i d h) ∙ ap (λ l. get_or l i d) (prefix before after)

  -- the entries of the first n records
  pub take-along : (rs : List Record) (n : ℕ) → n ≤ length rs → take n (along step rs) ≡ along step (take n rs)
  take-along rs n h =
      let m : length (take n rs) ≡ n = length-take-le n rs h in
      ap (λ l. take n (along step l)) (sym (take-append-drop n rs)) ∙ ap (λ k. take k (along step (take n rs ++ drop n rs))) (sym m) ∙ prefix (take n rs) (drop n rs)

  -- a record's entry is its step from the entries before it
  pub entry : (before : List Record) (r : Record) (after : List Record) (d : A) → get_or (along step (before ++ r ∷ after)) (length before) d ≡ step (along step before) r
  entry before r after d =
      let e = append_assoc before (r ∷ []) after in
      sym (ap (λ l. get_or (along step l) (length before) d) e)
      ∙ prefix-at (before ++ r ∷ []) after (length before) d (omega (arith, length-append before (r ∷ [])))
      ∙ ap (λ l. get_or l (length before) d) (along-more before r)
      ∙ get_or_at (along step before) (step (along step before) r) [] d (length before) (length-along before)

  -- the same of record f, and of a record before it
  pub entry_at : (rs : List Record) (f : ℕ) (d : A) → f < length rs → get_or (along step rs) f d ≡ step (along step (take f rs)) (get_or rs f X)
  entry_at rs f d h =
      let before : List Record = take f rs in
      let split : rs ≡ before ++ get_or rs f X ∷ drop (suc f) rs = split_at rs f X h in
      let n : length before ≡ f = length-take-le f rs (omega arith) in
      ap (λ l. get_or (along step l) f d) split
      ∙ ap (λ k. get_or (along step (before ++ get_or rs f X ∷ drop (suc f) rs)) k d) (sym n)
      ∙ entry before (get_or rs f X) (drop (suc f) rs) d

  pub before_at : (rs : List Record) (f i : ℕ) (d : A) → f ≤ length rs → i < f → get_or (along step (take f rs)) i d ≡ get_or (along step rs) i d
  before_at rs f i d h k = ap (λ l. get_or l i d) (sym (take-along rs f h)) ∙ get_or-take f (along step rs) i d k

-- two lists, entry by entry; d and e are the defaults for a missing entry
pub record Pairs {A B : Type 0} (R : A → B → Type 0) (d : A) (e : B) (vs : List A) (ws : List B) : Type 0 where
  pub same : length vs ≡ length ws
  pub each : (i : ℕ) → R (get_or vs i d) (get_or ws i e)

module _ {A B : Type 0} (R : A → B → Type 0) (d : A) (e : B) (none : R d e) where
  more-each : (vs : List A) (ws : List B) (v : A) (w : B) → length vs ≡ length ws → ((i : ℕ) → R (get_or vs i d) (get_or ws i e)) → R v w → (i : ℕ)
      → R (get_or (vs ++ v ∷ []) i d) (get_or (ws ++ w ∷ []) i e)
  more-each [] [] v w s h p zero = p
  more-each [] [] v w s h p (suc i) = none
  more-each [] (y ∷ ys) v w s h p i = let z : ⊥ = omega arith in absurd z
  more-each (x ∷ xs) [] v w s h p i = let z : ⊥ = omega arith in absurd z
  more-each (x ∷ xs) (y ∷ ys) v w s h p zero = h zero
  more-each (x ∷ xs) (y ∷ ys) v w s h p (suc i) = more-each xs ys v w (omega arith) (λ j. h (suc j)) p i

  pairs-more : (vs : List A) (ws : List B) (v : A) (w : B) → Pairs R d e vs ws → R v w → Pairs R d e (vs ++ v ∷ []) (ws ++ w ∷ [])
  pairs-more vs ws v w h p =
      record { same = omega (arith, h.same, length-append vs (v ∷ []), length-append ws (w ∷ [])); each = more-each vs ws v w h.same h.each p }

  module _ (f : List A → Record → A) (g : List B → Record → B) where
    -- THE INDUCTION. If each record's step keeps R, given the entries before it, R holds of all entries
    module _ (rs : List Record)
        (keeps : (before : List Record) (r : Record) (after : List Record) → before ++ r ∷ after ≡ rs
        → Pairs R d e (along f before) (along g before) → R (f (along f before) r) (g (along g before) r)) where
      go : (before after : List Record) → before ++ after ≡ rs → Pairs R d e (along f before) (along g before)
          → Pairs R d e (onward f (along f before) after) (onward g (along g before) after)
      unfolding onward
      go before [] p h = h
      go before (r ∷ after) p h =
          rw (← along-more f before r, ← along-more g before r)
          (go (before ++ r ∷ []) after (append_assoc before (r ∷ []) after ∙ p)
          (rw (along-more f before r, along-more g before r) (pairs-more _ _ _ _ h (keeps before r after p h))))

      pub related-in : Pairs R d e (along f rs) (along g rs)
      unfolding along onward
      related-in = go [] rs refl (record { same = refl; each = λ i. none })

    -- the same, if a step keeps R whatever the entries before it are
    pub related : ((vs : List A) (ws : List B) (r : Record) → Pairs R d e vs ws → R (f vs r) (g ws r)) → (rs : List Record) → Pairs R d e (along f rs) (along g rs)
    related keeps rs = related-in rs (λ before r after _ h. keeps (along f before) (along g before) r h)

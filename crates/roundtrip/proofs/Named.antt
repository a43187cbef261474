-- A state that names a face names a face of the sheet.
use mathlib.Core.Path.{◌≡◌, refl, sym, ap, ◌∙◌}
use mathlib.Core.Bool.{Bool, true, false, cond, not, ◌||◌}
use mathlib.Core.List.{List, ◌∷◌, ◌++◌}
use Prim.Native.Nat.{ℕ, ◌-◌}
use lib.ListN.{length, get_or}
use lib.Seq.{get_or-append_seam}
use Rattle.interval.specs.declared.Interval.{Interval}
use Rattle.sheet.specs.declared.Comparison.{Comparison}
use Rattle.sheet.specs.declared.Record.{Record}
use Rattle.sheet.specs.declared.Record.TheVariants.{Constant, X, Y, Z, Sum, Difference, Product, Square, Face, Both, Either, Complement}
use Rattle.sheet.specs.Along.{along}
use Rattle.sheet.proofs.Along.{Pairs, length-along, related-in}
use Rattle.records.specs.Faces.{is_face, has_face}
use Rattle.cube.specs.declared.Cube.{Cube}
use Rattle.zonemap.specs.Opening.{face_good}
use Rattle.colour.specs.declared.State.{State}
use Rattle.colour.specs.declared.State.TheVariants.{Out, In, Single, Comp, Mixed}
use Rattle.colour.specs.States.{is_in, is_out, is_same, meets, face_state, complement_of, otherwise_of, joined_by, state_with}
use Rattle.colour.specs.Entries.{Entry, blank, entry_with, entry_of, entries}
use Rattle.tree.specs.Solid.{solid_state, leaf_by}

module _ (rs : List Record) where
  -- the face that a state names, if it names one, is a face of the sheet
  abbrev names : State → Bool
  names Out = true
  names In = true
  names (Single f) = has_face rs f
  names (Comp f) = has_face rs f
  names Mixed = true

  face-names : (by : Comparison) (i : Interval) (f : ℕ) → has_face rs f ≡ true → names (face_state by i f) ≡ true
  unfolding face_state
  face-names by i f h = any (meets by i.high) (meets by i.low)
    where
      any : (a b : Bool) → names (cond a In (cond (not b) Out (Single f))) ≡ true
      any true b = refl
      any false true = h
      any false false = refl

  complement-names : (s : State) → names s ≡ true → names (complement_of s) ≡ true
  complement-names Out h = refl
  complement-names In h = refl
  complement-names (Single f) h = h
  complement-names (Comp f) h = h
  complement-names Mixed h = refl

  -- both and either
  module _ (decided : State) (hd : names decided ≡ true) (s t : State) (hs : names s ≡ true) (ht : names t ≡ true) where
    -- two states where neither decides and neither leaves it to the other
    otherwise-names : names (otherwise_of decided s t) ≡ true
    unfolding otherwise_of
    otherwise-names = by (is_same s t) (is_same s (complement_of t))
      where
        by : (a b : Bool) → names (cond a s (cond b decided Mixed)) ≡ true
        by true b = hs
        by false true = hd
        by false false = refl

    joined-names : (decides leaves : State → Bool) → names (joined_by otherwise_of decides decided leaves s t) ≡ true
    unfolding joined_by
    joined-names decides leaves = by (decides s || decides t) (leaves s) (leaves t)
      where
        by : (a b c : Bool) → names (cond a decided (cond b t (cond c s (otherwise_of decided s t)))) ≡ true
        by true b c = hd
        by false true c = ht
        by false false true = hs
        by false false false = otherwise-names

  module _ (q : Cube) where
    abbrev itself : List Record → Record → Record
    itself _ r = r

    abbrev Names : Entry → Record → Type 0
    Names e _ = names e.state ≡ true

    -- a face's own number is that of a face
    own : (by : Comparison) (before after : List Record) (a : ℕ) → before ++ Face by a ∷ after ≡ rs → has_face rs (length (along (entry_of q) before)) ≡ true
    unfolding has_face
    own by before after a e =
        ap is_face (ap (λ n. get_or rs n X) (length-along (entry_of q) before) ∙ ap (λ l. get_or l (length before) X) (sym e) ∙ get_or-append_seam before (Face by a) after X)

    step-names : (before : List Record) (r : Record) (after : List Record) → before ++ r ∷ after ≡ rs
        → Pairs Names blank X (along (entry_of q) before) (along itself before) → names (entry_of q (along (entry_of q) before) r).state ≡ true
    unfolding entry_with state_with
    step-names before (Constant c) after e p = refl
    step-names before X after e p = refl
    step-names before Y after e p = refl
    step-names before Z after e p = refl
    step-names before (Sum a b) after e p = refl
    step-names before (Difference a b) after e p = refl
    step-names before (Product a b) after e p = refl
    step-names before (Square a) after e p = refl
    step-names before (Face by a) after e p = face-names by _ _ (own by before after a e)
    step-names before (Both a b) after e p = joined-names Out refl _ _ (p.each a) (p.each b) is_out is_in
    step-names before (Either a b) after e p = joined-names In refl _ _ (p.each a) (p.each b) is_in is_out
    step-names before (Complement a) after e p = complement-names (get_or (along (entry_of q) before) a blank).state (p.each a)

    state-names : (i : ℕ) → names (get_or (entries q rs) i blank).state ≡ true
    state-names i = (related-in Names blank X refl (entry_of q) itself rs step-names).each i

  -- so the face number of a leaf is good
  state-good : (level : ℕ) (s : State) → names s ≡ true → face_good (has_face rs) (leaf_by level s) ≡ true
  unfolding face_good
  state-good level Out h = refl
  state-good level In h = refl
  state-good level (Single f) h = h
  state-good level (Comp f) h = h
  state-good level Mixed h = refl

  pub solid-good : (level : ℕ) (q : Cube) → face_good (has_face rs) (leaf_by level (solid_state rs q)) ≡ true
  unfolding solid_state
  solid-good level q = state-good level (solid_state rs q) (state-names q (length rs - 1))

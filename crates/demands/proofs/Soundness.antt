-- The solid's state over a cube is sound at every point of the closed cube, so a built map is truthful.
use mathlib.Core.Path.{◌≡◌, ap}
use mathlib.Core.Bool.{true}
use mathlib.Core.List.{List}
use Prim.Native.Nat.{ℕ, ◌-◌}
use lib.ListN.{length}
use Rattle.sheet.specs.declared.Record.{Record}
use Rattle.sheet.specs.Records.{records_of}
use Rattle.records.specs.Faces.{has_face}
use Rattle.cube.specs.declared.Cube.{Cube}
use Rattle.meaning.specs.Fractions.{FractionalPoint, InClosed}
use Rattle.meaning.specs.Truth.{holds_at, in_solid}
use Rattle.zonemap.specs.declared.Leaf.{Leaf}
use Rattle.zonemap.specs.Opening.{face_good}
use Rattle.zonemap.specs.Leaves.{nth_leaf, nth_cube}
use Rattle.colour.specs.declared.State.{State}
use Rattle.soundness.specs.Claims.{Sound}
use Rattle.soundness.proofs.StatesSound.{states-sound}
use Rattle.tree.specs.Solid.{solid_state, leaf_by, leaf_of}
use Rattle.roundtrip.proofs.Named.{solid-good}
use Rattle.zone.specs.Replies.{zone_build_of}
use Rattle.demands.specs.Terms.{BuiltBy, Built, Truthful}
use Rattle.demands.proofs.Maps.{build_by, opens-with, leaf-there}
use Rattle.demands.proofs.Truthful.{Says, truthful-map}

-- a state of the solid that is sound over a cube
abbrev pub SoundOver : List Record → Cube → State → Type 0
SoundOver rs q state = (p : FractionalPoint) → InClosed q p → Sound (λ f. holds_at rs f p) state (in_solid rs p)

pub solid-sound : (rs : List Record) (q : Cube) → SoundOver rs q (solid_state rs q)
unfolding solid_state in_solid
solid-sound rs q p closed = states-sound q p closed rs (length rs - 1)

-- a map built by such states, which name no faces but the sheet's
module _ (over : List Record → Cube → State) (good : (rs : List Record) (level : ℕ) (q : Cube) → face_good (has_face rs) (leaf_by level (over rs q)) ≡ true)
    (sound : (rs : List Record) (q : Cube) → SoundOver rs q (over rs q)) where
  state-says : (rs : List Record) (q : Cube) (l : Leaf) → l ≡ leaf_of (over rs) q → Says rs q l
  unfolding leaf_of
  state-says rs q l e = record { state = over rs q; class = ap (λ (l : Leaf). l.class) e; face = ap (λ (l : Leaf). l.face) e; sound = sound rs q }

  pub truthful-by : (sheet map : List ℕ) → BuiltBy (build_by over good) sheet map → Truthful sheet map
  truthful-by sheet map b =
      truthful-map sheet map (opens-with over good sheet map b)
      (λ i among. state-says (records_of sheet) (nth_cube map i) (nth_leaf map i) (leaf-there over good sheet map b i among))

pub truthful : (sheet map : List ℕ) → Built sheet map → Truthful sheet map
unfolding zone_build_of
truthful = truthful-by solid_state solid-good solid-sound

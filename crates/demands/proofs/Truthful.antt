-- Demand 3, however a map was made: a leaf that says of its cube what a sound state says agrees with the sheet at every point of the closed cube. So a map that
-- opens and has only such leaves is truthful. In two truthful maps of one sheet no white leaf touches a black one.
use mathlib.Core.Path.{◌≡◌, sym, ap, ◌∙◌}
use mathlib.Core.Bool.{true, true≢false}
use mathlib.Core.List.{List}
use Prim.Native.Nat.{ℕ, ◌<◌}
use lib.ListN.{length}
use Rattle.sheet.specs.declared.Record.{Record}
use Rattle.sheet.specs.Records.{records_of}
use Rattle.records.specs.Faces.{has_face}
use Rattle.cube.specs.declared.Cube.{Cube}
use Rattle.meaning.specs.Fractions.{FractionalPoint, InClosed}
use Rattle.meaning.specs.Truth.{holds_at, in_solid}
use Rattle.colour.specs.declared.State.{State}
use Rattle.colour.specs.States.{class_of, face_of}
use Rattle.colour.proofs.Otherwise.{state_by}
use Rattle.colour.proofs.Otherwise.{back-again}
use Rattle.soundness.specs.Claims.{Sound}
use Rattle.zonemap.specs.declared.Leaf.{Leaf}
use Rattle.zonemap.specs.Opening.{leaves_of}
use Rattle.zonemap.specs.Leaves.{nth_leaf, nth_cube}
use Rattle.zone.specs.declared.ZoneReply.{ZoneReply}
use Rattle.zone.specs.Replies.{zone_open_of}
use Rattle.demands.specs.Terms.{Opens, Agrees, Truthful, NoTouch}
use Rattle.demands.proofs.Opening.{any-opens, opens}

-- the leaf has the class and the face of a state that is sound at every point of the closed cube
pub record Says (rs : List Record) (q : Cube) (l : Leaf) : Type 0 where
  pub state : State
  pub class : l.class ≡ class_of state
  pub face : l.face ≡ face_of state
  pub sound : (p : FractionalPoint) → InClosed q p → Sound (λ f. holds_at rs f p) state (in_solid rs p)

-- then it agrees with the sheet at each of these points, provided that what it names is a face of the sheet
module _ (rs : List Record) (q : Cube) (l : Leaf) (says : Says rs q l) (p : FractionalPoint) (closed : InClosed q p) where
  state-is : state_by l.class l.face ≡ says.state
  state-is = rw (says.class, says.face) (back-again says.state)

  by-class : (class : ℕ) → l.class ≡ class → Sound (λ f. holds_at rs f p) (state_by class l.face) (in_solid rs p)
  by-class class e = rw (← e, state-is) (says.sound p closed)

  pub leaf-agrees : (l.class ≡ 2 → has_face rs l.face ≡ true) → (l.class ≡ 3 → has_face rs l.face ≡ true) → Agrees rs l p
  unfolding Sound state_by
  leaf-agrees terminal complement = record {
    white = by-class 0;
    black = by-class 1;
    terminal = λ e. (terminal e, by-class 2 e);
    complement = λ e. (complement e, by-class 3 e);
  }

-- a map is truthful if it opens with the faces of the sheet and each leaf says what a sound state says of its cube
pub truthful-map : (sheet map : List ℕ) → Opens (has_face (records_of sheet)) map
    → ((i : ℕ) → i < length (leaves_of map) → Says (records_of sheet) (nth_cube map i) (nth_leaf map i)) → Truthful sheet map
truthful-map sheet map opens says = record {
  opens = opens;
  agrees = λ p i t.
      let good = opens.good i t.among in
      leaf-agrees (records_of sheet) (nth_cube map i) (nth_leaf map i) (says i t.among) p t.closed good.terminal good.complement;
}

-- zone_open opens it
pub truthful-opens : (sheet map : List ℕ) → Truthful sheet map → (zone_open_of map).code ≡ 0
truthful-opens sheet map t = ap (λ (r : ZoneReply). r.code) ((opens map).done (any-opens (has_face (records_of sheet)) map t.opens))

pub no_touch : (sheet one other : List ℕ) → Truthful sheet one → Truthful sheet other → NoTouch one other
no_touch sheet one other t u p i j white black touches-one touches-other =
    true≢false (sym ((u.agrees p j touches-other).black black) ∙ (t.agrees p i touches-one).white white)

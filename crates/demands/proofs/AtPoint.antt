-- At a whole point a face's state over the cube of side 0 says whether the face holds there.
use mathlib.Core.Path.{◌≡◌, refl, sym, ap, ◌∙◌}
use mathlib.Core.Bool.{Bool, true, cond}
use mathlib.Core.List.{List}
use Prim.Native.Nat.{ℕ}
use lib.IntN.{ℤ}
use lib.ListN.{get_or, take}
use Rattle.integers.proofs.Order.{by-test}
use Rattle.interval.specs.declared.Interval.{Interval}
use Rattle.interval.specs.Rules.{only}
use Rattle.sheet.specs.declared.Comparison.{Comparison}
use Rattle.sheet.specs.declared.Record.{Record}
use Rattle.records.specs.Faces.{has_face}
use Rattle.cube.specs.declared.Cube.{Cube}
use Rattle.cube.specs.declared.Point.{Point}
use Rattle.cube.specs.Points.{point_cube}
use Rattle.meaning.specs.Fractions.{whole}
use Rattle.meaning.specs.Truth.{holds_at}
use Rattle.meaning.proofs.Whole.{in_itself}
use Rattle.colour.specs.declared.State.TheVariants.{Out, In}
use Rattle.colour.specs.States.{is_in, meets, face_state}
use Rattle.colour.specs.Entries.{blank, entries}
use Rattle.colour.proofs.Exact.{exact-face}
use Rattle.soundness.specs.Claims.{Sound}
use Rattle.soundness.proofs.StatesSound.{states-sound}
use Rattle.lookup.specs.Lookup.{face_holds}
use Rattle.demands.proofs.Faces.{face-among, face-is, face-state}

point-side : (p : Point) → (point_cube p).side ≡ 0
unfolding point_cube
point-side p = refl

-- ---- over an interval of one number a face is In or Out
point-state : (by : Comparison) (v : ℤ) (f : ℕ) → face_state by (only v) f ≡ cond (meets by v) In Out
unfolding face_state
point-state by v f = by-test (meets by v) (λ t. rw t) (λ t. rw t)

-- so the state says whether the face holds
told : (face : ℕ → Bool) (by : Comparison) (v : ℤ) (f : ℕ) (b : Bool) → Sound face (face_state by (only v) f) b → is_in (face_state by (only v) f) ≡ b
unfolding Sound
told face by v f b h =
    let e = point-state by v f in
    by-test (meets by v) (λ t. rw (e, t) (sym (rw (e, t) at h))) (λ t. rw (e, t) (sym (rw (e, t) at h)))

module _ (rs : List Record) (f : ℕ) (p : Point) (e : has_face rs f ≡ true) where
  -- at the point, the face's state is its state over an interval of one number
  state-is : (by : Comparison) × (v : ℤ) × ((get_or (entries (point_cube p) rs) f blank).state ≡ face_state by (only v) f)
  state-is =
      let q : Cube = point_cube p in
      let r = face-is rs f e in
      let v = exact-face q (point-side p) (take f rs) r.1 in (
        r.0,
        v.0,
        face-state rs f r.0 r.1 (face-among rs f e) r.2 q ∙ ap (λ (i : Interval). face_state r.0 i f) v.1,
      )

  -- what lookup computes for a face at a whole point is whether the face holds there
  pub by-its-face : face_holds rs f p ≡ holds_at rs f (whole p)
  unfolding face_holds
  by-its-face =
      let s = state-is in
      let h = states-sound (point_cube p) (whole p) (in_itself p) rs f in
      rw s.2 (told (λ g. holds_at rs g (whole p)) s.0 s.1 f (holds_at rs f (whole p)) (rw s.2 at h))

-- Request 2026-03: over every cube a record's state by the old rule is Mixed or is its state by the new one. So what was true of a map's states still is.
use mathlib.Core.Path.{◌≡◌, refl, sym, ap, ap₂, ◌∙◌}
use mathlib.Core.Bool.{Bool, true, false, or-true, true≢false}
use mathlib.Core.Logic.{◌⊎◌, inl, inr, ⊎_elim}
use mathlib.Core.List.{List}
use Prim.Native.Nat.{ℕ, ◌-◌, ◌≤◌}
use native.Mathlib.Omega.{arith}
use lib.ListN.{length}
use Rattle.integers.proofs.Order.{by-test}
use Rattle.interval.specs.declared.Interval.{Interval}
use Rattle.sheet.specs.declared.Record.{Record}
use Rattle.sheet.specs.declared.Record.TheVariants.{Constant, X, Y, Z, Sum, Difference, Product, Square, Face, Both, Either, Complement}
use Rattle.sheet.specs.Records.{records_of}
use Rattle.sheet.specs.Operands.{first_of, second_of}
use Rattle.sheet.proofs.Along.{Pairs, related}
use Rattle.records.specs.Faces.{has_face}
use Rattle.cube.specs.declared.Root.{Root}
use Rattle.cube.specs.declared.Cube.{Cube}
use Rattle.cube.specs.Cubes.{root_cube}
use Rattle.cube.proofs.Numbers.{within-limits}
use Rattle.colour.specs.declared.State.{State}
use Rattle.colour.specs.declared.State.TheVariants.{Out, In, Mixed}
use Rattle.colour.specs.Bounds.{bounds_of}
use Rattle.colour.specs.States.{is_in, is_out, face_state, complement_of, otherwise_of, joined_by, state_with}
use Rattle.colour.specs.Entries.{Entry, blank, face_bounds, entry_with, entry_of}
use Rattle.colour.proofs.Smaller.{none-keep}
use Rattle.soundness.proofs.StatesSound.{mixed-sound}
use Rattle.zonemap.specs.Opening.{face_good}
use Rattle.zonemap.proofs.Bytes.{map-length}
use Rattle.tree.specs.Solid.{solid_state, leaf_by, is_gray}
use Rattle.tree.proofs.Cubes.{leaves-fewer}
use Rattle.building.specs.Build.{map_by, built_map}
use Rattle.roundtrip.proofs.Named.{solid-good}
use Rattle.roundtrip.proofs.Built.{all_leaves}
use Rattle.zone.specs.declared.ZoneReply.{ZoneReply}
use Rattle.zone.specs.Replies.{reply, zone_build_of}
use Rattle.demands.specs.Terms.{state_over, Truthful}
use Rattle.demands.specs.Before03.{always_mixed, state_before, solid_before, zone_build_before, BuiltBefore}
use Rattle.demands.proofs.Sheets.{check-good}
use Rattle.demands.proofs.Outcomes.{made, builds}
use Rattle.demands.proofs.Soundness.{SoundOver, solid-sound, truthful-by}

-- nothing was known, or what is known now
abbrev KnownOf : State → State → Type 0
KnownOf old new = (old ≡ Mixed) ⊎ (old ≡ new)

-- a state that passes a test which Mixed does not pass is the same now
known_same : (test : State → Bool) → test Mixed ≡ false → (old new : State) → KnownOf old new → test old ≡ true → old ≡ new
known_same test mixed old new k e = ⊎_elim (λ (m : old ≡ Mixed). absurd (true≢false (sym e ∙ ap test m ∙ mixed))) (λ (q : old ≡ new). q) k

-- ---- both and either
module _ (decides : State → Bool) (decided : State) (leaves : State → Bool) (Decides-not : decides Mixed ≡ false) (leaves-not : leaves Mixed ≡ false)
    (s t u v : State) (h : KnownOf s u) (k : KnownOf t v) where
  abbrev old : State
  old = joined_by always_mixed decides decided leaves s t

  abbrev new : State
  new = joined_by otherwise_of decides decided leaves u v

  -- neither decides, and the other is passed on
  first-leaves : decides s ≡ false → decides t ≡ false → leaves s ≡ true → KnownOf old new
  unfolding joined_by
  first-leaves a b c =
      let e = known_same leaves leaves-not s u h c in
      ⊎_elim (λ (m : t ≡ Mixed). inl (rw (a, b, c) m)) (λ (q : t ≡ v). inr (rw (← e, ← q, a, b, c))) k

  second-leaves : decides s ≡ false → decides t ≡ false → leaves s ≡ false → leaves t ≡ true → KnownOf old new
  unfolding joined_by
  second-leaves a b c d =
      let e = known_same leaves leaves-not t v k d in
      ⊎_elim (λ (m : s ≡ Mixed). inl (rw (a, b, c, d) m)) (λ (q : s ≡ u). inr (rw (← e, ← q, a, b, c, d))) h

  joined-known : KnownOf old new
  unfolding joined_by
  joined-known =
      by-test (decides s) (λ a. inr (rw (← known_same decides Decides-not s u h a, a)))
      (λ a. by-test (decides t) (λ b. inr (rw (← known_same decides Decides-not t v k b, b, a, or-true (decides u))))
      (λ b. by-test (leaves s) (first-leaves a b)
      (λ c. by-test (leaves t) (second-leaves a b c) (λ d. inl (rw (a, b, c, d))))))

-- ---- one record
complement-known : (old new : State) → KnownOf old new → KnownOf (complement_of old) (complement_of new)
complement-known old new k = ⊎_elim (λ (m : old ≡ Mixed). inl (ap complement_of m)) (λ (q : old ≡ new). inr (ap complement_of q)) k

state-known : (n m : ℕ) → n ≡ m → (i j : Interval) → i ≡ j → (s t u v : State) → KnownOf s u → KnownOf t v → (r : Record)
    → KnownOf (state_with always_mixed n i s t r) (state_with otherwise_of m j u v r)
unfolding state_with
state-known n m e i j f s t u v h k (Constant c) = inr refl
state-known n m e i j f s t u v h k X = inr refl
state-known n m e i j f s t u v h k Y = inr refl
state-known n m e i j f s t u v h k Z = inr refl
state-known n m e i j f s t u v h k (Sum a b) = inr refl
state-known n m e i j f s t u v h k (Difference a b) = inr refl
state-known n m e i j f s t u v h k (Product a b) = inr refl
state-known n m e i j f s t u v h k (Square a) = inr refl
state-known n m e i j f s t u v h k (Face by a) = inr (ap₂ (face_state by) f e)
state-known n m e i j f s t u v h k (Both a b) = joined-known is_out Out is_in refl refl s t u v h k
state-known n m e i j f s t u v h k (Either a b) = joined-known is_in In is_out refl refl s t u v h k
state-known n m e i j f s t u v h k (Complement a) = complement-known s u h

-- ---- all records
record Known (old new : Entry) : Type 0 where
  bounds : old.bounds ≡ new.bounds
  state : KnownOf old.state new.state

module _ (q : Cube) where
  step-known : (olds news : List Entry) (r : Record) → Pairs Known blank blank olds news → Known (entry_with always_mixed q olds r) (entry_of q news r)
  unfolding entry_with face_bounds
  step-known olds news r p =
      let a = p.each (first_of r) in
      let b = p.each (second_of r) in
      record {
        bounds = ap₂ (λ (i j : Interval). bounds_of q i j r) a.bounds b.bounds;
        state = state-known (length olds) (length news) p.same _ _ a.bounds _ _ _ _ a.state b.state r;
      }

  known : (rs : List Record) (i : ℕ) → KnownOf (state_before rs q i) (state_over rs q i)
  known rs i = ((related Known blank blank (record { bounds = refl; state = inr refl }) (entry_with always_mixed q) (entry_of q) step-known rs).each i).state

  -- where something was known, the same is known now
  pub same-state : (rs : List Record) (i : ℕ) → (state_before rs q i ≡ Mixed → ⊥) → state_over rs q i ≡ state_before rs q i
  same-state rs i n = ⊎_elim (λ (m : state_before rs q i ≡ Mixed). absurd (n m)) sym (known rs i)

  solid-known : (rs : List Record) → KnownOf (solid_before rs q) (solid_state rs q)
  unfolding solid_before solid_state
  solid-known rs = known rs (length rs - 1)

-- ---- maps of that time are truthful
pub before-good : (rs : List Record) (level : ℕ) (q : Cube) → face_good (has_face rs) (leaf_by level (solid_before rs q)) ≡ true
unfolding face_good
before-good rs level q =
    ⊎_elim (λ (m : solid_before rs q ≡ Mixed). rw m) (λ (e : solid_before rs q ≡ solid_state rs q). rw e (solid-good rs level q)) (solid-known q rs)

before-sound : (rs : List Record) (q : Cube) → SoundOver rs q (solid_before rs q)
before-sound rs q p closed =
    ⊎_elim (λ (m : solid_before rs q ≡ Mixed). rw m (mixed-sound _ _)) (λ (e : solid_before rs q ≡ solid_state rs q). rw e (solid-sound rs q p closed)) (solid-known q rs)

pub truthful-before : (sheet map : List ℕ) → BuiltBefore sheet map → Truthful sheet map
unfolding zone_build_before
truthful-before = truthful-by solid_before before-good before-sound

-- ---- they are not shorter
-- a cube that is gray now was gray
pub gray-before : (rs : List Record) (q : Cube) → is_gray (solid_state rs) q ≡ true → is_gray (solid_before rs) q ≡ true
unfolding is_gray
gray-before rs q e =
    ⊎_elim (λ (m : solid_before rs q ≡ Mixed). rw m) (λ (k : solid_before rs q ≡ solid_state rs q). rw k e) (solid-known q rs)

map-no-longer : (rs : List Record) (root : Root) → length (built_map rs root) ≤ length (map_by (solid_before rs) root)
unfolding map_by
map-no-longer rs root =
    omega (
      arith,
      map-length root (all_leaves (solid_state rs) root),
      map-length root (all_leaves (solid_before rs) root),
      leaves-fewer (solid_state rs) (solid_before rs) (gray-before rs) root.d (root_cube root),
    )

module _ (sheet : List ℕ) (root : Root) (before : List ℕ) where
  pub no_longer : (zone_build_before sheet root before).reply.code ≡ 0
      → ((zone_build_of sheet root before).reply.code ≡ 0) × ((zone_build_of sheet root before).reply.number ≤ (zone_build_before sheet root before).reply.number)
  unfolding zone_build_before
  no_longer e =
      let rs = records_of sheet in
      let t = made (λ rs. map_by (solid_before rs)) sheet root before e in
      let shorter = map-no-longer rs root in
      let now : (zone_build_of sheet root before).reply ≡ reply 0 (length (built_map rs root)) = (builds sheet root before).done (record {
        good = check-good sheet t.0.0 t.0.1;
        limits = within-limits root t.1.within;
        bounded = none-keep rs (root_cube root) t.1.none;
        room = omega (arith, shorter, t.1.size, t.1.room);
      }) in
      (ap (λ (r : ZoneReply). r.code) now, omega (arith, ap (λ (r : ZoneReply). r.number) now, shorter, t.1.size))

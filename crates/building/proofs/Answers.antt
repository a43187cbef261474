-- What follows if building is done: the sheet is good, no row refuses, and the map is at the start of the lent buffer.
use Rattle.std.specs.Prelude.{Err, Ok}
use mathlib.Core.Path.{◌≡◌, refl, ap, ◌∙◌}
use mathlib.Core.Bool.{Bool, true, false, true≢false}
use mathlib.Core.List.{List, [], ◌++◌}
use Prim.Native.Nat.{ℕ, ◌≤◌}
use native.Mathlib.Omega.{arith}
use borrow.Author.Tests.{ltb-false}
use lib.Dec.{ltb}
use lib.ListN.{length, drop}
use Rattle.integers.proofs.Order.{by-test}
use Rattle.replies.specs.declared.Refusal.TheVariants.{Limits, OverRoot, Short}
use Rattle.replies.specs.Table.{Reply}
use Rattle.replies.specs.Table.{refusal_of}
use Rattle.sheet.specs.declared.Record.{Record}
use Rattle.sheet.specs.Records.{records_of}
use Rattle.sheet.specs.Check.{check_of}
use Rattle.cube.specs.declared.Root.{Root}
use Rattle.cube.specs.Limits.{in_limits}
use Rattle.cube.specs.Cubes.{root_cube}
use Rattle.colour.specs.Entries.{first_past}
use Rattle.integers.specs.First.{on_first}
use Rattle.integers.proofs.First.{none_first}
use Rattle.building.specs.Build.{Outcome, outcome, stored_of, over_root_with, build_with}

abbrev is_done : Reply → Bool
is_done (Ok n) = true
is_done (Err why) = false

abbrev count_of : Reply → ℕ
count_of (Ok n) = n
count_of (Err why) = 0

module _ (n : ℕ) (out after : List ℕ) where
  abbrev done : Outcome
  done = outcome (Ok n) after

  pub no_other : {A : Type 0} (o : Outcome) → is_done o.reply ≡ false → done ≡ o → A
  no_other o h e = absurd (true≢false (ap (λ (o : Outcome). is_done o.reply) e ∙ h))

  -- a list whose first element would give another reply is empty
  pub not_first : {A : Type 0} (firsts : List A) (f : A → Outcome) (rest : Outcome) → ((a : A) → is_done (f a).reply ≡ false) → done ≡ on_first firsts f rest → (firsts ≡ []) × (done ≡ rest)
  not_first firsts f rest h = none_first (λ (o : Outcome). done ≡ o) f rest firsts (λ a. no_other (f a) (h a))

  stored : (map : List ℕ) → done ≡ stored_of map out → (n ≡ length map) × (length map ≤ length out) × (after ≡ map ++ drop (length map) out)
  unfolding stored_of
  stored map e =
      by-test (ltb (length out) (length map))
      (λ h. no_other (outcome (Err (Short (length map))) out) refl (rw h at e))
      (λ h. (ap (λ (o : Outcome). count_of o.reply) (rw h at e), ltb-false (length out) (length map) h, ap (λ (o : Outcome). o.buffer) (rw h at e)))

  -- no row refuses, and the map is at the start of the buffer
  pub record Made (rs : List Record) (root : Root) (map : List ℕ) : Type 0 where
    pub within : in_limits root ≡ true
    pub none : first_past rs (root_cube root) ≡ []
    pub size : n ≡ length map
    pub room : n ≤ length out
    pub bytes : after ≡ map ++ drop (length map) out

  module _ (map_over : List Record → Root → List ℕ) (rs : List Record) (root : Root) where
    abbrev map : List ℕ
    map = map_over rs root

    stored-made : in_limits root ≡ true → (first_past rs (root_cube root) ≡ []) × (done ≡ stored_of map out) → Made rs root map
    stored-made w e =
        let t = stored map e.1 in
        record { within = w; none = e.0; size = t.0; room = omega (arith, t.0, t.1); bytes = t.2 }

    pub solid-made : done ≡ over_root_with map_over rs root out → Made rs root map
    unfolding over_root_with
    solid-made e =
        by-test (in_limits root)
        (λ h. stored-made h (not_first (first_past rs (root_cube root)) (λ k. outcome (Err (OverRoot k)) out) _ (λ k. refl) (rw h at e)))
        (λ h. no_other (outcome (Err Limits) out) refl (rw h at e))

module _ (map_over : List Record → Root → List ℕ) (s : List ℕ) (root : Root) (out after : List ℕ) (n : ℕ) where
  -- the sheet is good, and its map is at the start of the buffer
  pub done-made : outcome (Ok n) after ≡ build_with map_over s root out → (refusal_of (check_of s) ≡ []) × Made n out after (records_of s) root (map_over (records_of s) root)
  unfolding build_with
  done-made e =
      let t = not_first n out after (refusal_of (check_of s)) (λ why. outcome (Err why) out) _ (λ why. refl) e in
      (t.0, solid-made n out after map_over (records_of s) root t.1)

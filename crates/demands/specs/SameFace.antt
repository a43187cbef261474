-- What request 2026-03 asks for.
use Rattle.std.specs.Prelude.{◌≡◌, Bool, cond, ◌⊎◌, List, ℕ, ◌≤◌}
use Rattle.sheet.specs.declared.Record.{Record}
use Rattle.cube.specs.declared.Root.{Root}
use Rattle.cube.specs.declared.Cube.{Cube}
use Rattle.cube.specs.declared.Point.{Point}
use Rattle.colour.specs.declared.State.{State}
use Rattle.colour.specs.declared.State.TheVariants.{Out, In, Single, Comp, Mixed}
use Rattle.colour.specs.States.{both_of, either_of}
use Rattle.zonemap.specs.Opening.{root_of}
use Rattle.zone.specs.Replies.{reply, zone_build_of, zone_lookup_of}
use Rattle.demands.specs.Terms.{Built, state_over, Truthful, NoTouch}
use Rattle.demands.specs.Before03.{state_before, zone_build_before, BuiltBefore}

-- a state that names face f
abbrev pub OfFace : ℕ → State → Type 0
OfFace f s = (s ≡ Single f) ⊎ (s ≡ Comp f)

-- Request 2026-03: the same face mentioned twice. "Mend the rule:
pub record SameFace : Type 0 where
  -- both or either of Single(f) with Single(f) is Single(f), and likewise Comp(f);
  pub twice : (f : ℕ) → (both_of (Single f) (Single f) ≡ Single f) × (either_of (Single f) (Single f) ≡ Single f) × (both_of (Comp f) (Comp f) ≡ Comp f) × (either_of (Comp f) (Comp f) ≡ Comp f)
  -- both of Single(f) with Comp(f), in either order, is Out, and either of them is In.
  pub opposite : (f : ℕ) → (both_of (Single f) (Comp f) ≡ Out) × (both_of (Comp f) (Single f) ≡ Out) × (either_of (Single f) (Comp f) ≡ In) × (either_of (Comp f) (Single f) ≡ In)
  -- Different faces stay Mixed."
  pub different : (f g : ℕ) → (f ≡ g → ⊥) → (s t : State) → OfFace f s → OfFace g t → (both_of s t ≡ Mixed) × (either_of s t ≡ Mixed)
  -- over any cube, a record whose state was not Mixed by the old rule has the same state now
  pub same-state : (rs : List Record) (q : Cube) (i : ℕ) → (state_before rs q i ≡ Mixed → ⊥) → state_over rs q i ≡ state_before rs q i
  -- demand 3 holds of maps built before the change too; so an old and a new map of one sheet do not touch white to black either
  pub truthful : (sheet map : List ℕ) → BuiltBefore sheet map → Truthful sheet map
  pub no_touch : (sheet old new : List ℕ) → BuiltBefore sheet old → Built sheet new → NoTouch old new × NoTouch new old
  -- a position that an old map answered, inside or outside, gets the same answer from the new map of that root and depth
  pub still-answered : (sheet old new : List ℕ) → BuiltBefore sheet old → Built sheet new → root_of old ≡ root_of new → (p : Point) (inside : Bool)
      → zone_lookup_of sheet old p ≡ reply 0 (cond inside 1 0) → zone_lookup_of sheet new p ≡ reply 0 (cond inside 1 0)
  -- where building had room for the map, it still has, and the map is not longer
  pub no_longer : (sheet : List ℕ) (root : Root) (before : List ℕ) → (zone_build_before sheet root before).reply.code ≡ 0
      → ((zone_build_of sheet root before).reply.code ≡ 0) × ((zone_build_of sheet root before).reply.number ≤ (zone_build_before sheet root before).reply.number)

-- What refining returns for a pair that opens and a depth that is not smaller, and what follows if it is done.
use Rattle.std.specs.Prelude.{Err, Ok}
use mathlib.Core.Path.{◌≡◌, refl}
use mathlib.Core.List.{List, []}
use Prim.Native.Nat.{ℕ, ◌≤◌}
use borrow.Author.Tests.{ltb-false, le-ltb}
use lib.Dec.{ltb}
use Rattle.integers.proofs.Order.{by-test}
use Rattle.replies.specs.declared.Refusal.TheVariants.{Limits}
use Rattle.sheet.specs.Records.{records_of}
use Rattle.cube.specs.declared.Root.{Root}
use Rattle.cube.specs.Limits.{at_depth}
use Rattle.zonemap.specs.Opening.{root_of}
use Rattle.tree.specs.Solid.{solid_state}
use Rattle.replacing.specs.Replace.{refined_map}
use Rattle.building.specs.Build.{outcome, over_root_with}
use Rattle.building.proofs.Answers.{Made, no_other, not_first, solid-made}
use Rattle.pair.specs.Pairs.{pair_refusal}
use Rattle.refine.specs.Refine.{refine_of}

module _ (s map : List ℕ) (d : ℕ) (out : List ℕ) where
  abbrev root : Root
  root = at_depth d (root_of map)

  pub opened-refines : pair_refusal s map ≡ [] → (root_of map).d ≤ d → refine_of s map d out ≡ over_root_with (λ rs. refined_map (solid_state rs) map) (records_of s) root out
  unfolding refine_of
  opened-refines none more = rw (none, le-ltb d (root_of map).d more)

  pub done-refined : (n : ℕ) (after : List ℕ) → outcome (Ok n) after ≡ refine_of s map d out
      → (pair_refusal s map ≡ []) × ((root_of map).d ≤ d) × Made n out after (records_of s) root (refined_map (solid_state (records_of s)) map root)
  unfolding refine_of
  done-refined n after e =
      let t = not_first n out after (pair_refusal s map) (λ why. outcome (Err why) out) _ (λ why. refl) e in
      by-test (ltb d (root_of map).d)
      (λ h. no_other n out after (outcome (Err Limits) out) refl (rw h at t.1))
      (λ h. (t.0, ltb-false d (root_of map).d h, solid-made n out after (λ rs. refined_map (solid_state rs) map) (records_of s) root (rw h at t.1)))

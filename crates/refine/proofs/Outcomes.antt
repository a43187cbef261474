-- The outcome of refining at each test, and what the functions on the way require.
use Rattle.std.specs.Prelude.{Err, Ok, Result}
use mathlib.Core.Path.{◌≡◌, refl, sym, ap, ◌∙◌}
use mathlib.Core.Bool.{true}
use mathlib.Core.List.{List, []}
use Prim.Native.Nat.{ℕ, ◌≤◌, ◌<◌}
use borrow.Author.Tests.{lt-ltb, le-ltb}
use Rattle.replies.specs.declared.Refusal.{Refusal}
use Rattle.replies.specs.declared.Refusal.TheVariants.{Limits}
use Rattle.sheet.specs.Records.{records_of}
use Rattle.sheet.specs.Check.{check_of}
use Rattle.sheet.proofs.Good.{good-count}
use Rattle.records.specs.Faces.{has_face}
use Rattle.cube.specs.declared.Root.{Root}
use Rattle.cube.specs.declared.Point.{Point}
use Rattle.cube.specs.Limits.{in_limits, at_depth}
use Rattle.zonemap.specs.Map.{map_of}
use Rattle.zonemap.specs.Opening.{root_of}
use Rattle.tree.specs.Solid.{solid_state}
use Rattle.replacing.specs.Replace.{refined_leaves, refined_map}
use Rattle.replacing.specs.Walk.{Deeper}
use Rattle.building.specs.Build.{Outcome, outcome, over_root_with}
use Rattle.pair.specs.declared.Pair.{Pair}
use Rattle.pair.specs.Pairs.{pair_refusal, pair_of, opened_of}
use Rattle.pair.proofs.Openings.{pair_is, pair-good, pair-opens}
use Rattle.refine.specs.Refine.{refine_of}
use Rattle.replies.proofs.Told.{not-refused}
use Rattle.zonemap.proofs.Opens.{bad-told}

-- ---- replies 1 to 5 and 9: o is what `open` returned
pub shut : (s map : List ℕ) (p : Point) (o : Result Pair Refusal) → o ≡ opened_of s map p → (why : Refusal) → o ≡ Err why → (d : ℕ) (out : List ℕ) → outcome (Err why) out ≡ refine_of s map d out
unfolding refine_of opened_of
shut s map p o e why h d out = sym (bad-told (pair_refusal s map) _ o e why h (λ w. outcome (Err w) out) _)

pub some_pair : (s map : List ℕ) (p : Point) (o : Result Pair Refusal) → o ≡ opened_of s map p → (pair : Pair) → o ≡ Ok pair → (p : Point) × (pair ≡ pair_of s map p)
some_pair s map p o e pair h = (p, pair_is s map p o e pair h)

module _ (s map : List ℕ) (none : pair_refusal s map ≡ []) (pair : Pair) (is : (p : Point) × (pair ≡ pair_of s map p)) where
  done : (n : ℕ) × (check_of s ≡ Ok n)
  done = not-refused (check_of s) (pair-good s map none)

  count-is : pair.count ≡ done.0
  count-is = ap (λ (x : Pair). x.count) is.1 ∙ sym (good-count s (check_of s) refl done.0 done.1)

  root_is : pair.root ≡ root_of map
  root_is = ap (λ (x : Pair). x.root) is.1

  pub checked : check_of s ≡ Ok pair.count
  checked = done.1 ∙ ap Ok (sym count-is)

  module _ (d : ℕ) (out : List ℕ) where
    -- ---- reply 6 for a smaller depth
    pub smaller : d < pair.root.d → outcome (Err Limits) out ≡ refine_of s map d out
    unfolding refine_of
    smaller h = rw (none, lt-ltb d (root_of map).d (rw root_is at h))

    module _ (more : pair.root.d ≤ d) (root : Root) (e : root ≡ at_depth d pair.root) where
      same : root ≡ at_depth d (root_of map)
      same = e ∙ ap (at_depth d) root_is

      -- what `over_root` returns
      pub refined : (o : Outcome) → o ≡ over_root_with (λ rs r. map_of r (refined_leaves (solid_state rs) r.d map)) (records_of s) root out → o ≡ refine_of s map d out
      unfolding refine_of refined_map
      refined o h =
          rw (none, le-ltb d (root_of map).d (rw root_is at more))
          (h ∙ ap (λ (r : Root). over_root_with (λ rs r. map_of r (refined_leaves (solid_state rs) r.d map)) (records_of s) r out) same)

      pub deeper : in_limits root ≡ true → Deeper map root
      deeper within =
          record {
            opens = (has_face (records_of s), pair-opens s map none);
            same = same ∙ ap (λ (n : ℕ). at_depth n (root_of map)) (sym (ap (λ (r : Root). r.d) same));
            depth = rw same (rw root_is at more);
            within = within;
          }

-- The reply of looking up at each test: what the proofs of its functions need.
use Rattle.std.specs.Prelude.{Err, Ok, Result}
use mathlib.Core.Path.{◌≡◌, sym, ap, ◌∙◌}
use mathlib.Core.Bool.{Bool, true, false}
use mathlib.Core.List.{List, []}
use Prim.Native.Nat.{ℕ}
use lib.ListN.{get_or}
use Rattle.replies.specs.declared.Refusal.{Refusal}
use Rattle.replies.specs.declared.Over.{Over}
use Rattle.replies.specs.declared.Refusal.TheVariants.{OverRoot, NotInRoot}
use Rattle.sheet.specs.declared.Record.{Record}
use Rattle.sheet.specs.Records.{records_of}
use Rattle.cube.specs.declared.Point.{Point}
use Rattle.cube.specs.declared.Cube.{Cube}
use Rattle.cube.specs.Cubes.{root_cube}
use Rattle.cube.specs.Points.{holds_point, point_cube, place_of}
use Rattle.cube.proofs.Places.{point-near, point-inside}
use Rattle.zonemap.specs.declared.Leaf.{Leaf}
use Rattle.zonemap.specs.Opening.{root_of, leaf_in, offset_at, place_or_first}
use Rattle.zonemap.proofs.Opens.{root-holds, bad-told}
use Rattle.colour.specs.declared.State.{State}
use Rattle.colour.specs.Entries.{blank, entries, judged_of, first_past}
use Rattle.colour.proofs.Told.{known-none, past_first}
use Rattle.colour.proofs.Smaller.{none-smaller}
use Rattle.pair.specs.declared.Pair.{Pair}
use Rattle.pair.specs.Pairs.{pair_refusal, pair_of, opened_of}
use Rattle.pair.proofs.Openings.{pair-within}
use Rattle.lookup.specs.declared.Answer.{Answer}
use Rattle.lookup.specs.Lookup.{Reply}
use Rattle.lookup.specs.Lookup.{answer_of, leaf_holding, point_reply, lookup_of}
use Rattle.lookup.specs.Inner.{Judgeable}

-- ---- replies 1 to 5 and 9: o is what `pair::open` returned
pub shut : (s map : List ℕ) (p : Point) (o : Result Pair Refusal) → o ≡ opened_of s map p → (why : Refusal) → o ≡ Err why → Err why ≡ lookup_of s map p
unfolding opened_of lookup_of
shut s map p o e why h = sym (bad-told (pair_refusal s map) _ o e why h Err _)

module _ (s map : List ℕ) (none : pair_refusal s map ≡ []) (p : Point) (pair : Pair) (is : pair ≡ pair_of s map p) (q : Cube) (top : q ≡ root_cube pair.root) where
  root_is : root_cube pair.root ≡ root_cube (root_of map)
  root_is = rw is

  -- ---- reply 7: j is what `judge` returned
  module _ (f : ℕ) (j : Result State Over) (e : j ≡ judged_of (records_of s) q f) where
    pub over-limit : (o : Over) → j ≡ Err o → Err (OverRoot o) ≡ lookup_of s map p
    unfolding lookup_of
    over-limit o h = rw (none, ← root_is, past_first (records_of s) (root_cube pair.root) q top f j e o h)

    module _ (state : State) (h : j ≡ Ok state) where
      pub within-limit : first_past (records_of s) (root_cube pair.root) ≡ []
      within-limit = known-none (records_of s) (root_cube pair.root) q top f j e state h

      pub at-limit : (r : Reply) → r ≡ point_reply (records_of s) map p → r ≡ lookup_of s map p
      unfolding lookup_of
      at-limit r k = rw (none, ← root_is, within-limit) k

  -- ---- reply 10: b is what `holds` returned for the root's cube
  module _ (limit : first_past (records_of s) (root_cube pair.root) ≡ []) (b : Bool) (held : b ≡ holds_point q p) where
    holds : b ≡ holds_point (root_cube (root_of map)) p
    holds = held ∙ ap (λ (k : Cube). holds_point k p) (top ∙ root_is)

    pub not-in-root : b ≡ false → Err NotInRoot ≡ point_reply (records_of s) map p
    unfolding point_reply
    not-in-root t = rw (sym holds ∙ t)

    -- ---- reply 0
    module _ (t : b ≡ true) where
      inside : holds_point (root_cube pair.root) p ≡ true
      inside = root-holds pair.root p q top b held t

      -- the bounds over the point lie in those over the root
      pub judgeable : Judgeable (records_of s) p
      judgeable =
          record {
            near = point-near pair.root p (pair-within s map none p pair is) inside;
            none = none-smaller (point_cube p) (root_cube pair.root) (point-inside pair.root p inside) (records_of s) limit;
          }

      pub answered : (l : Leaf) (a : Answer) → l ≡ leaf_in map pair.at → a ≡ answer_of (records_of s) l p → Ok a ≡ point_reply (records_of s) map p
      unfolding point_reply leaf_holding place_or_first
      answered l a g h =
          let at-is : pair.at ≡ offset_at map (place_of (root_of map) p) = ap (λ (k : Pair). k.at) is ∙ rw (sym holds ∙ t) in
          ap Ok (h ∙ ap (λ (k : Leaf). answer_of (records_of s) k p) (g ∙ ap (leaf_in map) at-is)) ∙ rw (sym holds ∙ t)

-- ---- the face of a terminal leaf: where no record passes the limit over a point, each state there is known
pub known_there : (rs : List Record) (p : Point) (f : ℕ) → first_past rs (point_cube p) ≡ [] → judged_of rs (point_cube p) f ≡ Ok (get_or (entries (point_cube p) rs) f blank).state
unfolding judged_of
known_there rs p f none = rw none

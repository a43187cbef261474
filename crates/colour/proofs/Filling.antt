-- The loop that computes the bounds and states of all records over a cube: the first n records are done, and two lists hold what is known of them.
use Rattle.std.specs.Prelude.{Err, Ok, Result, Some}
use mathlib.Core.Path.{◌≡◌, refl, sym, ap, ◌∙◌}
use mathlib.Core.List.{List, [], ◌∷◌, ◌++◌}
use Prim.Native.Nat.{ℕ, ◌+◌, ◌≤◌, ◌<◌}
use native.Mathlib.Omega.{arith}
use lib.ListN.{length, get_or, take, set, replicate, length-set, length-take}
use lib.Seq.{take_all, get_or-take, get_or_at}
use Rattle.interval.specs.declared.Interval.{Interval}
use Rattle.interval.specs.Limit.{SmallEnds, past_end, bounded_of}
use Rattle.interval.proofs.Facts.{past_is, within-is, within-small}
use Rattle.replies.specs.declared.End.{End}
use Rattle.replies.specs.Table.{over}
use Rattle.sheet.specs.declared.Record.{Record}
use Rattle.sheet.specs.declared.Record.TheVariants.{X}
use Rattle.sheet.specs.Table.{row_at}
use Rattle.sheet.specs.Records.{records_of}
use Rattle.sheet.specs.Operands.{first_of, second_of}
use Rattle.sheet.specs.Along.{along, onward}
use Rattle.sheet.proofs.Along.{along-more, length-along, take-along}
use Rattle.sheet.proofs.Walk.{stands-taken}
use Rattle.sheet.proofs.Arrays.{Reads, reads_more, filled-with}
use Rattle.records.specs.Offsets.{Offsets}
use Rattle.records.proofs.Walking.{Walking, walking_start, walking-end, walking-more, walking-before, walking-next}
use Rattle.cube.specs.declared.Cube.{Cube}
use Rattle.colour.specs.declared.State.{State}
use Rattle.colour.specs.declared.State.TheVariants.{Out}
use Rattle.colour.specs.Bounds.{none, bounds_of}
use Rattle.colour.specs.States.{state_of}
use Rattle.colour.specs.Entries.{Entry, blank, face_bounds, entry_with, entry_of, entries, past_from, first_past, judged_of}
use Rattle.colour.proofs.Arms.{blank-small, small-set}
use Rattle.colour.proofs.FirstPast.{Keep, past-at, none-past}

-- the entries of the first n records
abbrev done : List ℕ → Cube → ℕ → List Entry
done s q n = entries q (take n (records_of s))

-- the loop's invariant
pub record Filling (s offsets : List ℕ) (q : Cube) (bounds : List Interval) (states : List State) (n : ℕ) : Type 0 where
  pub walk : Walking s offsets n
  pub bounds-long : length bounds ≡ 256
  pub states-long : length states ≡ 256
  pub bounded : Reads (λ e. e.bounds) blank bounds (done s q n)
  pub stated : Reads (λ e. e.state) blank states (done s q n)
  pub small : (a : ℕ) → SmallEnds (get_or bounds a none)

pub filling-start : (s offsets : List ℕ) (q : Cube) → Offsets offsets s
    → (bounds : List Interval) (states : List State) → bounds ≡ replicate 256 none → states ≡ replicate 256 Out → Filling s offsets q bounds states 0
unfolding along onward
filling-start s offsets q listed bounds states eb es =
    rw (eb, es)
    record {
      walk = walking_start s offsets listed;
      bounds-long = refl;
      states-long = refl;
      bounded = filled-with none 256;
      stated = filled-with Out 256;
      small = blank-small 256;
    }

module _ (s offsets : List ℕ) (q : Cube) (bounds : List Interval) (states : List State) (n : ℕ) (w : Filling s offsets q bounds states n) where
  abbrev rs : List Record
  rs = records_of s

  -- an operand's bounds and state, as they are held
  abbrev known : ℕ → Interval
  known a = get_or bounds a none

  abbrev colour : ℕ → State
  colour a = get_or states a Out

  -- so the entries are within the limit, since what is held is
  keep : Keep (done s q n)
  keep a = rw (sym (w.bounded a)) (w.small a)

  -- at the end all records are done
  pub judged-end : (which : ℕ) → length offsets ≤ n → Ok (colour which) ≡ judged_of rs q which
  unfolding judged_of first_past
  judged-end which h =
      let t : take n rs ≡ rs = take_all n rs (omega (arith, walking-end s offsets n w.walk h)) in
      let p : past_from 0 (entries q rs) ≡ [] = rw t at (none-past 0 (done s q n) keep) in
      rw p (ap Ok (w.stated which ∙ ap (λ (l : List Record). (get_or (entries q l) which blank).state) t))

  -- one record more: r stands at its offset
  module _ (left : n < length offsets) (r : Record) (row : row_at s (get_or offsets n 0) ≡ Some r) where
    long : length (done s q n) ≡ n
    long = length-along (entry_of q) (take n rs) ∙ (omega (arith, length-take n rs, walking-more s offsets n w.walk left))

    -- the entry that the definition gives r
    abbrev this : Entry
    this = entry_of q (done s q n) r

    abbrev due : Interval
    due = bounds_of q (known (first_of r)) (known (second_of r)) r

    bounds-are : due ≡ this.bounds
    unfolding entry_with
    bounds-are = rw (w.bounded (first_of r), w.bounded (second_of r))

    state-is : state_of n (known (first_of r)) (colour (first_of r)) (colour (second_of r)) r ≡ this.state
    unfolding entry_with face_bounds
    state-is = rw (w.bounded (first_of r), w.stated (first_of r), w.stated (second_of r), long)

    grown : done s q (n + 1) ≡ done s q n ++ this ∷ []
    grown = ap (entries q) (stands-taken s (get_or offsets n 0) n (walking-before s offsets n w.walk left) (walking-more s offsets n w.walk left) r row X) ∙ along-more (entry_of q) (take n rs) r

    -- among all entries: those before it keep the limit, and it is number n
    earlier : (a : ℕ) → a < n → SmallEnds (get_or (entries q rs) a blank).bounds
    earlier a h = rw (sym (get_or-take n (entries q rs) a blank h), take-along (entry_of q) rs n w.walk.among) (keep a)

    at_n : get_or (entries q rs) n blank ≡ this
    at_n =
        sym (get_or-take (n + 1) (entries q rs) n blank (omega arith))
        ∙ ap (λ (l : List Entry). get_or l n blank) (take-along (entry_of q) rs (n + 1) (omega (arith, walking-more s offsets n w.walk left)) ∙ grown)
        ∙ get_or_at (done s q n) this [] blank n long

    module _ (got : Result Interval End) (eb : got ≡ bounded_of due) where
      pub judged-past : (which : ℕ) (end : End) → got ≡ Err end → Err (over n end) ≡ judged_of rs q which
      unfolding judged_of
      judged-past which end h =
          let f : past_end this.bounds ≡ end ∷ [] = rw bounds-are at (past_is got due eb end h) in
          rw (past-at rs q n end earlier (rw at_n f))

      module _ (v : Interval) (ev : got ≡ Ok v) where
        exact : v ≡ this.bounds
        exact = within-is got due eb v ev ∙ bounds-are

        pub filling-next : (state : State) → state ≡ state_of n (known (first_of r)) (colour (first_of r)) (colour (second_of r)) r
            → Filling s offsets q (set bounds n v) (set states n state) (n + 1)
        filling-next state h =
            record {
              walk = walking-next s offsets n w.walk left;
              bounds-long = length-set bounds n v ∙ w.bounds-long;
              states-long = length-set states n state ∙ w.states-long;
              bounded = rw grown (reads_more (λ e. e.bounds) blank this v bounds (done s q n) n long (omega (arith, left, w.walk.few, w.bounds-long)) exact w.bounded);
              stated = rw grown (reads_more (λ e. e.state) blank this state states (done s q n) n long (omega (arith, left, w.walk.few, w.states-long)) (h ∙ state-is) w.stated);
              small = small-set bounds n v (within-small got due eb v ev) w.small;
            }

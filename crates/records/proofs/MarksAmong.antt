-- The loop of `faces_among`, with the invariant of `Marks` but for the cursor: the number of records is known, so they are read by kind alone.
use mathlib.Core.Path.{◌≡◌, refl, ◌∙◌}
use mathlib.Core.Bool.{Bool, false}
use mathlib.Core.List.{List}
use Prim.Native.Nat.{ℕ, ◌+◌, ◌≤◌, ◌<◌}
use native.Mathlib.Omega.{arith}
use lib.ListN.{length, get_or, take, set, replicate, length-set}
use Rattle.sheet.specs.declared.Record.{Record}
use Rattle.sheet.specs.declared.Record.TheVariants.{X}
use Rattle.std.specs.Prelude.{Some}
use Rattle.sheet.specs.Table.{row_at, Stands}
use Rattle.sheet.specs.Records.{records_of}
use Rattle.sheet.proofs.Walk.{Before, before-first, before-next, stands, stands-taken}
use Rattle.sheet.proofs.Good.{records-few}
use Rattle.sheet.proofs.Arrays.{Reads, filled-with}
use Rattle.records.specs.Faces.{is_face, Marks}
use Rattle.records.proofs.Marked.{marked-all, marked-next}

pub record Marking (s : List ℕ) (count : ℕ) (marks : List Bool) (at n : ℕ) : Type 0 where
  pub all : count ≡ length (records_of s)
  pub walk : Before s at n
  pub long : length marks ≡ 256
  pub reads : Reads is_face X marks (take n (records_of s))

pub marking-start : (s : List ℕ) (count : ℕ) → count ≡ length (records_of s) → Marking s count (replicate 256 false) 3 0
marking-start s count e = record { all = e; walk = before-first s; long = refl; reads = filled-with false 256 }

module _ (s : List ℕ) (count : ℕ) (marks : List Bool) (at n : ℕ) (w : Marking s count marks at n) where
  pub marking-end : count ≤ n → Marks marks (records_of s)
  marking-end h = marked-all s marks n w.long w.reads (omega (arith, w.all))

  module _ (h : n < count) where
    more : n < length (records_of s)
    more = omega (arith, w.all)

    -- a record stands at `at`
    pub marking-stands : Stands s at
    marking-stands = stands s at n w.walk more

    pub marking-inside : at < length s
    marking-inside = omega (arith, marking-stands.inside)

    pub marking-number : n < 256
    marking-number = omega (arith, records-few s, more)

    -- one more record: r is what `record_at` returned
    pub marking-next : (r : Record) → row_at s at ≡ Some r → (m : Bool) → m ≡ is_face r → Marking s count (set marks n m) (at + 1 + get_or s at 0) (n + 1)
    marking-next r row m e =
        record {
          all = w.all;
          walk = before-next s at n w.walk more r row;
          long = length-set marks n m ∙ w.long;
          reads = marked-next s marks n w.long w.reads r more (stands-taken s at n w.walk more r row X) m e;
        }

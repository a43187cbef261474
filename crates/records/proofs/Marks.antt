-- The loop of `faces`: its invariant is that the first n records are done, and the list says of each whether it is a face.
use Rattle.std.specs.Prelude.{Err, Ok, Result}
use mathlib.Core.Path.{◌≡◌, refl, ap, ◌∙◌}
use mathlib.Core.Bool.{Bool, false}
use mathlib.Core.List.{List, [], ◌∷◌, ◌++◌}
use Prim.Native.Nat.{ℕ, ◌+◌, ◌≤◌, ◌<◌}
use native.Mathlib.Numerals.{add-one}
use native.Mathlib.Omega.{arith}
use lib.ListN.{length, take, set, replicate, length-set}
use lib.Seq.{take-suc}
use Rattle.sheet.specs.declared.Cursor.{Cursor}
use Rattle.sheet.specs.declared.Record.{Record}
use Rattle.sheet.specs.declared.Record.TheVariants.{X}
use Rattle.sheet.specs.Table.{read_at}
use Rattle.sheet.specs.Records.{start, records_of}
use Rattle.sheet.proofs.Walk.{At, at-start, at_next, found_number, found-record, all_read}
use Rattle.sheet.proofs.Good.{records-few}
use Rattle.sheet.proofs.Arrays.{Reads, filled-with}
use Rattle.records.specs.Faces.{is_face, Marks}
use Rattle.records.proofs.Marked.{marked-all, marked-next}

pub record Marking (s : List ℕ) (marks : List Bool) (c : Cursor) (n : ℕ) : Type 0 where
  pub walk : At s c n
  pub long : length marks ≡ 256
  pub reads : Reads is_face X marks (take n (records_of s))

pub marking-start : (s : List ℕ) (c : Cursor) → c ≡ start → Marking s (replicate 256 false) c 0
marking-start s c e = record { walk = rw e (at-start s); long = refl; reads = filled-with false 256 }

-- k is what `Cursor::read` returned
module _ (s : List ℕ) (marks : List Bool) (c : Cursor) (n : ℕ) (w : Marking s marks c n) where
  -- where the records end
  done : n ≡ length (records_of s) → Marks marks (records_of s)
  done e = marked-all s marks n w.long w.reads (omega (arith, e))

  pub marking-end : 256 ≤ n → Marks marks (records_of s)
  marking-end h = done (omega (arith, w.walk.among, records-few s))

  module _ (k : Result (Record × Cursor) ℕ) (is : k ≡ read_at s c) where
    pub marking-stop : (x : ℕ) → k ≡ Err x → Marks marks (records_of s)
    marking-stop x e = done (all_read s c n w.walk k is x e)

    -- one more record: r is what was read
    module _ (r : Record) (next : Cursor) (e : k ≡ Ok (r, next)) where
      number : n < length (records_of s)
      number = found_number s c n w.walk k is r next e

      taken : take (n + 1) (records_of s) ≡ take n (records_of s) ++ r ∷ []
      taken =
          ap (λ (m : ℕ). take m (records_of s)) (add-one n)
          ∙ take-suc (records_of s) n X number
          ∙ ap (λ (q : Record). take n (records_of s) ++ q ∷ []) (found-record s c n w.walk k is r next e X)

      pub marking-next : (m : Bool) → m ≡ is_face r → Marking s (set marks n m) next (n + 1)
      marking-next m f =
          record {
            walk = at_next s c n w.walk k is r next e;
            long = length-set marks n m ∙ w.long;
            reads = marked-next s marks n w.long w.reads r number taken m f;
          }

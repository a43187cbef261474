-- What the two loops that mark the faces of a sheet share: `marks` says of each of the first n records whether it is a face.
use mathlib.Core.Path.{◌≡◌}
use mathlib.Core.Bool.{Bool}
use mathlib.Core.List.{List, [], ◌∷◌, ◌++◌}
use Prim.Native.Nat.{ℕ, ◌+◌, ◌≤◌, ◌<◌}
use native.Mathlib.Omega.{arith}
use lib.ListN.{length, take, set, length-take}
use lib.Seq.{take_all}
use Rattle.sheet.specs.declared.Record.{Record}
use Rattle.sheet.specs.declared.Record.TheVariants.{X}
use Rattle.sheet.specs.Records.{records_of}
use Rattle.sheet.proofs.Good.{records-few}
use Rattle.sheet.proofs.Arrays.{Reads, reads_more}
use Rattle.records.specs.Faces.{is_face, has_face, Marks}

module _ (s : List ℕ) (marks : List Bool) (n : ℕ) (long : length marks ≡ 256) (reads : Reads is_face X marks (take n (records_of s))) where
  -- where the records end
  pub marked-all : length (records_of s) ≤ n → Marks marks (records_of s)
  unfolding has_face
  marked-all h = record { long = long; each = rw (take_all n (records_of s) h) at reads }

  -- one more record, r
  pub marked-next : (r : Record) → n < length (records_of s) → take (n + 1) (records_of s) ≡ take n (records_of s) ++ r ∷ [] → (m : Bool) → m ≡ is_face r
      → Reads is_face X (set marks n m) (take (n + 1) (records_of s))
  marked-next r h taken m e =
      rw taken
      (reads_more is_face X r m marks (take n (records_of s)) n (omega (arith, length-take n (records_of s), h)) (omega (arith, records-few s, h, long)) e reads)

-- Where the leaves of a walk go. Only inner contracts cite this.
use Rattle.std.specs.Prelude.{ℕ, ◌+◌, ◌*◌, ◌^◌, ◌≤◌, ◌≡◌, List, [], ◌++◌, length}
use mathlib.Core.Path.{sym, ap, ap₂, ◌∙◌}
use native.Mathlib.Omega.{arith}
use lib.ListN.{length-append}
use lib.Seq.{length-sets}
use Rattle.integers.proofs.Stores.{sets-append}
use Rattle.zonemap.proofs.Bytes.{leaves-bytes-length, leaves-bytes-append}
use Rattle.std.proofs.lemmas.List.Edits.{sets}
use Rattle.zonemap.specs.declared.Leaf.{Leaf}
use Rattle.zonemap.specs.Map.{leaves_bytes}
use Rattle.tree.specs.declared.sink.Counter.{Counter}
use Rattle.tree.specs.declared.sink.Writer.{Writer}

-- Of a sink: what it is once it has taken leaves, and that it has room for so many more.
pub record SinkLaws {S : Type 0} (after : S → List Leaf → S) (room : S → ℕ → Type 0) : Type 0 where
  pub nothing : (s : S) → after s [] ≡ s
  pub more : (s : S) (first then : List Leaf) → after (after s first) then ≡ after s (first ++ then)
  pub later : (s : S) (first : List Leaf) (n : ℕ) → room s (length first + n) → room (after s first) n
  pub fewer : (s : S) (m n : ℕ) → m ≤ n → room s n → room s m

-- ---- a counter
abbrev pub counted : Counter → List Leaf → Counter
counted c leaves = record { leaves = c.leaves + length leaves }

-- no tree has more leaves than that
abbrev pub IsCountable : Counter → ℕ → Type 0
IsCountable c n = c.leaves + n ≤ 2 ^ 40

pub counts : SinkLaws counted IsCountable
counts =
    record {
      nothing = λ s. ap (λ (n : ℕ). record { leaves = n }) (omega arith);
      more = λ s first then. ap (λ (n : ℕ). record { leaves = n }) (omega (arith, length-append first then));
      later = λ s first n h. omega arith;
      fewer = λ s m n l h. omega arith;
    }

-- ---- a writer: three bytes a leaf
abbrev pub written : Writer → List Leaf → Writer
written w leaves = record w { out = record w.out { now = sets w.out.now w.at (leaves_bytes leaves) }; at = w.at + 3 * length leaves }

abbrev pub HasRoom : Writer → ℕ → Type 0
HasRoom w n = w.at + 3 * n ≤ length w.out.now

-- a writer with other bytes and another offset
abbrev with : Writer → List ℕ → ℕ → Writer
with s out at = record s { out = record s.out { now = out }; at = at }

written-none : (s : Writer) → written s [] ≡ s
unfolding leaves_bytes
written-none s = ap (with s s.out.now) (omega arith)

written-more : (s : Writer) (first then : List Leaf) → written (written s first) then ≡ written s (first ++ then)
written-more s first then =
    ap₂ (with s)
    (sets-append s.out.now s.at (s.at + 3 * length first) (leaves_bytes first) (leaves_bytes then) (omega (arith, leaves-bytes-length first))
    ∙ ap (sets s.out.now s.at) (sym (leaves-bytes-append first then)))
    (omega (arith, length-append first then))

pub writes : SinkLaws written HasRoom
writes =
    record {
      nothing = written-none;
      more = written-more;
      later = λ s first n h. omega (arith, length-sets s.out.now s.at (leaves_bytes first));
      fewer = λ s m n l h. omega arith;
    }

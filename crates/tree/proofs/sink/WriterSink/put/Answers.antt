-- A writer that takes a leaf: three bytes more.
use mathlib.Core.Path.{◌≡◌, ap₂}
use mathlib.Core.List.{List, [], ◌∷◌}
use Prim.Native.Nat.{ℕ, ◌+◌}
use lib.Seq.{sets}
use Rattle.zonemap.specs.declared.Leaf.{Leaf}
use Rattle.zonemap.specs.Map.{leaf_bytes, leaves_bytes}
use Rattle.tree.specs.declared.sink.Writer.{Writer}
use Rattle.tree.specs.Sinks.{written}
use Rattle.tree.proofs.sink.WriterSink.put.Goals as goal

written-one : (w : Writer) (leaf : Leaf) (out : List ℕ) (at : ℕ) → (at ≡ w.at + 3) × (out ≡ sets w.out.now w.at (leaf_bytes leaf))
    → ◌≡◌ {A = Writer} (record w { out = record w.out { now = out }; at = at }) (written w (leaf ∷ []))
unfolding leaf_bytes leaves_bytes
written-one w leaf out at h = ap₂ (λ (b : List ℕ) (n : ℕ). record w { out = record w.out { now = b }; at = n }) h.1 h.0

pub returns : goal.returns
returns c = written-one c.args.self.now c.args.leaf _ _ c.put_leaf-self.ensures

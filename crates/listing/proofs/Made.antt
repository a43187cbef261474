-- A map that `build` has written opens.
use Rattle.std.specs.Prelude.{Ok}
use mathlib.Core.Path.{◌≡◌, sym, ap, ◌∙◌}
use mathlib.Core.Bool.{Bool}
use mathlib.Core.List.{List, []}
use Prim.Native.Nat.{ℕ, ◌≤◌}
use native.Mathlib.Omega.{arith}
use lib.ListN.{length, take, drop, length-append}
use lib.Seq.{length-take-le, take-append_seam}
use mir.Syntax.{w32}
use mir.Val.{SFits}
use Rattle.replies.specs.Table.{Reply}
use Rattle.sheet.specs.Records.{records_of}
use Rattle.cube.specs.declared.Root.{Root}
use Rattle.cube.proofs.Passed.{passed_root, same-root}
use Rattle.zonemap.specs.Opening.{root_of, fault_of}
use Rattle.building.specs.Build.{outcome, built_map, build_of}
use Rattle.building.proofs.Answers.{Made, done-made}
use Rattle.roundtrip.proofs.Built.{built-opens, built-root}

module _ (s : List ℕ) (r : Root) (out after : List ℕ) (reply : Reply) (n : ℕ) (x : SFits w32 r.x) (y : SFits w32 r.y) (z : SFits w32 r.z) (e : outcome reply after ≡ build_of s (passed_root r.x r.y r.z r.k r.d) out) (t : reply ≡ Ok n) where
  abbrev map : List ℕ
  map = built_map (records_of s) r

  made : Made n out after (records_of s) r map
  made = rw (same-root r.x r.y r.z x y z r.k r.d) at (done-made built_map s (passed_root r.x r.y r.z r.k r.d) out after n (ap (λ (q : Reply). outcome q after) (sym t) ∙ e)).1

  pub made-room : n ≤ length after
  made-room = omega (arith, made.size, ap length made.bytes, length-append map (drop (length map) out))

  pub made-length : n ≡ length (take n after)
  made-length = sym (length-take-le n after made-room)

  whole : take n after ≡ map
  whole = rw (made.size, made.bytes) (take-append_seam map (drop (length map) out))

  -- what `leaves` requires
  pub made-opens : ((named : ℕ → Bool) × (fault_of named (take n after) ≡ [])) × (r ≡ root_of (take n after))
  made-opens = rw whole ((_, built-opens (records_of s) r made.within), sym (built-root (records_of s) r made.within))

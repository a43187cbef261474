-- The reply by number, from what the inner call returned.
use Rattle.std.specs.Prelude.{Err, Ok}
use mathlib.Core.Path.{◌≡◌, refl, ap, ◌∙◌}
use mathlib.Core.List.{List}
use Prim.Native.Nat.{ℕ}
use lib.IntN.{ℤ}
use mir.Syntax.{w32}
use mir.Val.{SFits}
use Rattle.replies.specs.Table.{Reply}
use Rattle.replies.proofs.Told.{no_code}
use Rattle.cube.proofs.Passed.{passed_point, passed_root, same_point, same-root}
use Rattle.building.specs.Build.{outcome, build_of}
use Rattle.lookup.specs.Lookup.{Reply as LookupReply}
use Rattle.lookup.specs.Lookup.{lookup_of, numbered}
use Rattle.zone.specs.declared.ZoneReply.{ZoneReply}
use Rattle.zone.specs.Replies.{by_number, zone_outcome, outcome_by_number, zone_build_of, zone_lookup_of}

-- code 0 is that of `Ok` alone
pub done-code : (r : Reply) → (by_number r).code ≡ 0 → r ≡ Ok (by_number r).number
done-code (Ok n) e = refl
done-code (Err why) e = absurd (no_code 0 refl why e)

-- x, y and z are passed on as their bits
module _ (x y z : ℤ) (fx : SFits w32 x) (fy : SFits w32 y) (fz : SFits w32 z) where
  pub builds : (r : Reply) (told : ZoneReply) → told ≡ by_number r → (s : List ℕ) (k d : ℕ) (out after : List ℕ)
      → outcome r after ≡ build_of s (passed_root x y z k d) out
      → zone_outcome told after ≡ zone_build_of s (record { x = x; y = y; z = z; k = k; d = d }) out
  unfolding zone_build_of
  builds r told t s k d out after e = rw t (ap outcome_by_number (rw (same-root x y z fx fy fz k d) at e))

  pub looks-up : (l : LookupReply) (r : Reply) → r ≡ numbered l → (told : ZoneReply) → told ≡ by_number r → (s map : List ℕ)
      → l ≡ lookup_of s map (passed_point x y z)
      → told ≡ zone_lookup_of s map (record { x = x; y = y; z = z })
  unfolding zone_lookup_of
  looks-up l r n told t s map e = t ∙ ap by_number (n ∙ ap numbered (rw (same_point x y z fx fy fz) at e))

-- What a reply says: no refusal has code 0 or the code that was dropped, and a reply that is not a refusal is done.
use Rattle.std.specs.Prelude.{Err, Ok}
use mathlib.Core.Path.{◌≡◌, refl, sym, ◌∙◌}
use mathlib.Core.Bool.{Bool, true, false, not, ◌||◌, true≢false}
use mathlib.Core.List.{[]}
use Prim.Native.Nat.{ℕ}
use native.Mathlib.Omega.{arith}
use lib.Dec.{eqb}
use Rattle.replies.specs.declared.Refusal.{Refusal}
use Rattle.replies.specs.declared.Refusal.TheVariants.{Length, Version, Record, Operand, Solid, Limits, Map, OverRoot, Short, NotInRoot}
use Rattle.replies.specs.Table.{Reply}
use Rattle.replies.specs.Table.{code_of, refusal_of}

-- 0 says that nothing is wrong, and 11 was dropped by request 2026-11
abbrev may_refuse : ℕ → Bool
may_refuse code = not (eqb code 0 || eqb code 11)

refusal-may : (why : Refusal) → may_refuse (code_of why) ≡ true
refusal-may Length = refl
refusal-may Version = refl
refusal-may (Record at) = refl
refusal-may (Operand n) = refl
refusal-may (Solid n) = refl
refusal-may Limits = refl
refusal-may (Map at) = refl
refusal-may (OverRoot over) = refl
refusal-may (Short n) = refl
refusal-may NotInRoot = refl

pub no_code : (code : ℕ) → may_refuse code ≡ false → (why : Refusal) → code_of why ≡ code → ⊥
no_code code h why e = true≢false (sym (rw e at (refusal-may why)) ∙ h)

pub not-refused : (r : Reply) → refusal_of r ≡ [] → (n : ℕ) × (r ≡ Ok n)
not-refused (Ok n) e = (n, refl)
not-refused (Err why) e = let z : ◌≡◌ {A = ℕ} 0 1 = cc in absurd (omega arith)

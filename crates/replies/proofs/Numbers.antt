-- Facts for the proofs of the number of a record past the limit.
use mathlib.Core.Path.{◌≡◌, ◌∙◌, ap, sym}
use Prim.Native.Nat.{ℕ, ◌*◌}
use Rattle.replies.specs.declared.End.{End}
use Rattle.replies.specs.declared.Over.{Over}
use Rattle.replies.specs.declared.Refusal.{Refusal}
use Rattle.replies.specs.declared.Refusal.TheVariants.{OverRoot}
use Rattle.replies.specs.Table.{with_end, over_number, number_of}

-- by the end that `Over::number` found
pub end-number : (over : Over) (end : End) → over.end ≡ end → with_end (2 * over.index) end ≡ over_number over
end-number over end e = rw e

-- of a refusal: n is what `Over::number` returned
pub over-number : (why : Refusal) (over : Over) (n : ℕ) → n ≡ over_number over → why ≡ OverRoot over → n ≡ number_of why
over-number why over n e h = e ∙ sym (ap number_of h)

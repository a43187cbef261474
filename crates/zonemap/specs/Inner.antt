-- The faces that may be named, as they are passed to a scan. Only inner contracts cite this.
use Rattle.std.specs.Prelude.{ℕ, Bool, false, List, get_or}

-- the numbers that are marked
abbrev pub marked : List Bool → ℕ → Bool
marked marks f = get_or marks f false

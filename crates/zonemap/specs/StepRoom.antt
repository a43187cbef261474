-- Document 01's map of the step room, and the map of the version 2 sheet with equal records.
use Rattle.std.specs.Prelude.{List, [], ◌∷◌, ◌++◌, ℕ, pos}
use Rattle.cube.specs.declared.Root.{Root}

-- root 0 0 0, k 2, at depth d
abbrev pub step_root : ℕ → Root
step_root d = record { x = pos 0; y = pos 0; z = pos 0; k = 2; d = d }

-- the bytes of four of the eight leaves: black, face 5, face 6, gray
abbrev bytes : List ℕ
bytes = 1 ∷ 1 ∷ 0 ∷ 1 ∷ 2 ∷ 5 ∷ 1 ∷ 2 ∷ 6 ∷ 1 ∷ 4 ∷ 0 ∷ []

-- in version 2: gray, white, white, white
abbrev strict_bytes : List ℕ
strict_bytes = 1 ∷ 4 ∷ 0 ∷ 1 ∷ 0 ∷ 0 ∷ 1 ∷ 0 ∷ 0 ∷ 1 ∷ 0 ∷ 0 ∷ []

abbrev zeros : List ℕ
zeros = 0 ∷ 0 ∷ 0 ∷ 0 ∷ 0 ∷ 0 ∷ 0 ∷ 0 ∷ 0 ∷ 0 ∷ 0 ∷ 0 ∷ []

-- the maps at depth 1
abbrev twice : List ℕ → List ℕ
twice four = 0 ∷ 0 ∷ 0 ∷ 39 ∷ 1 ∷ [] ++ zeros ++ 2 ∷ 1 ∷ [] ++ four ++ four

abbrev pub step_map : List ℕ
step_map = twice bytes

abbrev pub strict_map : List ℕ
strict_map = twice strict_bytes

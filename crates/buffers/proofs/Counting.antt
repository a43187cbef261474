-- From a bound on a count to what the contracts and `&buffer[..n]` ask.
use Rattle.std.proofs.Common.{ℕ, ◌≤◌, List, length, sym, length-take-le}
use Rattle.buffers.specs.Counts.{IsPrefixLen}

pub prefix_len_of_le : (n : ℕ) (xs : List ℕ) → n ≤ length xs → IsPrefixLen n xs
prefix_len_of_le n xs h = (h, sym (length-take-le n xs h))

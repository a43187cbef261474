-- A tape shortened in place: its words renamed, then those kept that are needed. Only inner contracts cite this.
use Rattle.std.specs.Prelude.{ℕ, ◌+◌, ◌-◌, ◌≤◌, ◌≡◌, Bool, false, List, ◌++◌, map, eqb, length, get_or, take, drop}
use Rattle.std.proofs.Math.Seq.{slice}
use Rattle.colour.specs.declared.State.{State}
use Rattle.carried.specs.Words.{needed, kept, rename_all, twins, shorter_solid}
use Rattle.tape.specs.declared.Word.{Word}
use Rattle.tape.specs.Memory.{word_in, words_in, uses_in, state_in}

-- ---- keeping
-- the numbers that are marked
abbrev pub marked : List Bool → ℕ → Bool
marked marks a = get_or marks a false

-- what `keep` asks
pub record Room (tape : List Word) (from to at : ℕ) (marks : List Bool) : Type 0 where
  pub ordered : from ≤ to
  pub before : to ≤ at
  pub among : at ≤ length tape
  pub long : length marks ≡ 256

-- what `keep` leaves: at r..at the words that are needed, their operands marked, and what is before `from` and from `at` on unchanged
pub record Kept (tape₀ : List Word) (from to at : ℕ) (marks₀ : List Bool) (r : ℕ) (tape : List Word) (marks : List Bool) : Type 0 where
  pub least : from ≤ r
  pub most : r ≤ at
  pub same : length tape ≡ length tape₀
  pub long : length marks ≡ 256
  pub words : slice r at tape ≡ kept word_in uses_in (marked marks₀) (slice from to tape₀)
  pub before : take from tape ≡ take from tape₀
  pub after : drop at tape ≡ drop at tape₀
  pub needs : (a : ℕ) → marked marks a ≡ needed word_in uses_in (marked marks₀) (slice from to tape₀) a

-- ---- renaming
-- the twin of a record; one that is not in the list is its own
abbrev pub twin_in : List ℕ → ℕ → ℕ
twin_in found a = get_or found a a

-- what `rename` asks: the words from..to, and as much room before them, `down` places below
pub record Moves (tape : List Word) (from to down : ℕ) : Type 0 where
  pub ordered : from ≤ to
  pub among : to ≤ length tape
  pub room : down ≤ from
  pub apart : to ≤ from + down

-- what it leaves: the words with twins for operands, and the twin of each record; the words from..to stay
pub record Moved (tape₀ : List Word) (from to down : ℕ) (colours : List State) (twins₀ : List ℕ) (tape : List Word) (found : List ℕ) : Type 0 where
  pub same : length tape ≡ length tape₀
  pub long : length found ≡ 256
  pub source : drop from tape ≡ drop from tape₀
  pub words : words_in tape (from - down) (to - down) ≡ rename_all (state_in colours) (twin_in twins₀) (words_in tape₀ from to)
  pub last : twin_in found ≡ twins (state_in colours) (twin_in twins₀) (words_in tape₀ from to)

-- each record is its own twin
pub record Own (found : List ℕ) : Type 0 where
  pub long : length found ≡ 256
  pub each : (a : ℕ) → twin_in found a ≡ a

-- ---- both
-- words from..mid and mid..to
pub record Parts (tape : List Word) (from mid to : ℕ) : Type 0 where
  pub first : from ≤ mid
  pub second : mid ≤ to
  pub among : to ≤ length tape

-- what `shorten` leaves: the words renamed, then those kept that the solid's twin needs, just before the old ones, which stay
pub record Shortened (tape₀ : List Word) (from mid to solid₀ : ℕ) (colours : List State) (tape : List Word) (first middle last solid : ℕ) : Type 0 where
  -- the words renamed, in two parts, and what the second needs of the first
  pub works : List Word
  pub states : List Word
  pub wanted : ℕ → Bool
  pub cut : length works ≡ mid - from
  pub renames : map word_in (works ++ states) ≡ rename_all (state_in colours) (λ a. a) (words_in tape₀ from to)
  pub twin : solid ≡ shorter_solid (state_in colours) (words_in tape₀ from to) solid₀
  pub ends : last ≡ from
  pub parts : Parts tape first middle last
  pub first-kept : slice first middle tape ≡ kept word_in uses_in wanted works
  pub second-kept : slice middle last tape ≡ kept word_in uses_in (λ a. eqb a solid) states
  pub words : slice first last tape ≡ kept word_in uses_in (λ a. eqb a solid) (works ++ states)
  pub source : drop from tape ≡ drop from tape₀
  pub same : length tape ≡ length tape₀

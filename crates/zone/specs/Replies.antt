-- What a caller in C or Rust gets: the code and the number of the reply, and the bytes of the lent buffer.
use Rattle.std.specs.Prelude.{ℕ, List, Err, Ok}
use Rattle.replies.specs.Table.{Reply}
use Rattle.replies.specs.Table.{code_of, number_of}
use Rattle.sheet.specs.Check.{check_of}
use Rattle.cube.specs.declared.Point.{Point}
use Rattle.cube.specs.declared.Root.{Root}
use Rattle.zonemap.specs.Opening.{open_of}
use Rattle.building.specs.Build.{Outcome, build_of}
use Rattle.refine.specs.Refine.{refine_of}
use Rattle.lookup.specs.Lookup.{lookup_of, numbered}
use Rattle.zone.specs.declared.ZoneReply.{ZoneReply}

abbrev pub reply : ℕ → ℕ → ZoneReply
reply code number = record { code = code; number = number }

-- each reply by document 01's table
abbrev pub by_number : Reply → ZoneReply
by_number (Ok n) = reply 0 n
by_number (Err why) = reply (code_of why) (number_of why)

-- ---- zone_check: the number of records
unfoldable pub zone_check_of : List ℕ → ZoneReply
zone_check_of s = by_number (check_of s)

-- ---- zone_build: the map's length, and the bytes of the lent buffer afterwards
pub record ZoneOutcome : Type 0 where
  pub reply : ZoneReply
  pub buffer : List ℕ

abbrev pub zone_outcome : ZoneReply → List ℕ → ZoneOutcome
zone_outcome r out = record { reply = r; buffer = out }

abbrev pub outcome_by_number : Outcome → ZoneOutcome
outcome_by_number o = zone_outcome (by_number o.reply) o.buffer

unfoldable pub zone_build_of : List ℕ → Root → List ℕ → ZoneOutcome
zone_build_of s root out = outcome_by_number (build_of s root out)

-- ---- zone_refine: the new map's length, and the bytes of the lent buffer afterwards
unfoldable pub zone_refine_of : List ℕ → List ℕ → ℕ → List ℕ → ZoneOutcome
zone_refine_of s map d out = outcome_by_number (refine_of s map d out)

-- ---- zone_open: the number of leaves
unfoldable pub zone_open_of : List ℕ → ZoneReply
zone_open_of map = by_number (open_of map)

-- ---- zone_lookup: 0 outside, 1 inside, 2 undecided
unfoldable pub zone_lookup_of : List ℕ → List ℕ → Point → ZoneReply
zone_lookup_of s map p = by_number (numbered (lookup_of s map p))

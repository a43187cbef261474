-- The three demands are kept.
use Rattle.demands.specs.Demands.{Demands, Demand1, Demand2, Demand3}
use Rattle.demands.specs.Versions.{Versions}
use Rattle.demands.specs.Refining.{Refining}
use Rattle.demands.specs.Table.{Table}
use Rattle.demands.proofs.Sheets.{checks, sheet-rows}
use Rattle.demands.proofs.Opening.{opens, faults, open_row}
use Rattle.demands.proofs.Outcomes.{one-reply, one-outcome, builds, build-refused, unchanged, build-rows}
use Rattle.demands.proofs.Refines.{refines, refine-refused, refine-unchanged, refine-rows}
use Rattle.demands.proofs.Maps.{can-look-up, the-map}
use Rattle.demands.proofs.Truthful.{truthful-opens, no_touch}
use Rattle.demands.proofs.Soundness.{truthful}
use Rattle.demands.proofs.Tiling.{tiling, covering}
use Rattle.demands.proofs.Lookups.{looks-up, lookup-refused, lookup-rows, by-the-leaf, truth}
use Rattle.demands.proofs.Rows.{rows, strict-rows}
use Rattle.demands.proofs.LimitRows.{limit-rows}
use Rattle.demands.proofs.Row11.{reply-11}
use Rattle.demands.proofs.SameFace.{same-face, mentioned-twice}
use Rattle.demands.proofs.Versions.{version-1, version-2, same-reply, same-build, same-refine, same-lookup, on-faces, may-touch}
use Rattle.demands.proofs.Refining.{the-refined, as-built, from-gray, again, truthful as truthful-refined}
use Rattle.demands.proofs.RefinedAnswers.{still-answered}
use Rattle.demands.proofs.RefinedRows.{refined-rows, only-today}

table : Table
table = record {
  sheets = sheet-rows;
  builds = λ sheet good root before. build-rows sheet root before good;
  faults = faults;
  opens = open_row;
  refines = λ sheet good map d before. refine-rows sheet map d before good;
  lookups = λ sheet good map p. lookup-rows sheet map p good;
}

demand-1 : Demand1
demand-1 = record {
  one-reply = one-reply;
  one-outcome = one-outcome;
  checks = checks;
  builds = builds;
  refines = refines;
  opens = opens;
  looks-up = looks-up;
  refuses = table;
  build-refused = build-refused;
  refine-refused = refine-refused;
  lookup-refused = lookup-refused;
  unchanged = λ sheet root before. unchanged before sheet root;
  refine-unchanged = refine-unchanged;
}

demand-2 : Demand2
demand-2 = record { the-map = the-map; can-look-up = can-look-up; by-the-leaf = by-the-leaf }

demand-3 : Demand3
demand-3 = record {
  truthful = truthful;
  no-touch-built = λ sheet one other b c. no_touch sheet one other (truthful sheet one b) (truthful sheet other c);
  no_touch = no_touch;
  opens = truthful-opens;
  tiling = tiling;
  covering = covering;
  truth = truth;
}

versions : Versions
versions = record {
  one = version-1;
  two = version-2;
  same_check = same-reply;
  same-build = same-build;
  same-refine = same-refine;
  same-lookup = same-lookup;
  on-faces = on-faces;
  may-touch = may-touch;
}

refining : Refining
refining = record {
  the-refined = the-refined;
  still-answered = still-answered;
  as-built = as-built;
  only-today = only-today;
  from-gray = from-gray;
  again = again;
  truthful = λ sheet old map t r. truthful-refined sheet old map r t;
}

pub demands : Demands
demands = record {
  first = demand-1;
  second = demand-2;
  third = demand-3;
  rows = rows;
  limit-rows = limit-rows;
  reply-11 = reply-11;
  same-face = same-face;
  mentioned-twice = mentioned-twice;
  versions = versions;
  strict-rows = strict-rows;
  refining = refining;
  refined-rows = refined-rows;
}

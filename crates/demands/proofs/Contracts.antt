-- Each public call requires nothing, ensures one equation with its definition and nothing else, and meets it. By `refl`: the source's clauses compute to these.
use mathlib.Core.Path.{◌≡◌, refl}
use seplogic.Ra.Ura.{Ura}
use base.Logic.{SProp, ent}
use contract.Lifetimes.{Lfts}
use contract.Monad.{top}
use denote.Triple.Clauses.{Ended}
use denote.Triple.Entry.{Args}
use Rattle.demands.specs.Contract.{Fact, just, Contract}
use Rattle.sheet.specs.Check.{check_of}
use Rattle.zonemap.specs.Opening.{open_of}
use Rattle.building.specs.Build.{outcome, build_of}
use Rattle.pair.specs.Pairs.{opened_of}
use Rattle.refine.specs.Refine.{refine_of}
use Rattle.lookup.specs.Lookup.{lookup_of}
use Rattle.zone.specs.Replies.{zone_check_of, zone_outcome, zone_build_of, zone_refine_of, zone_open_of, zone_lookup_of}
use Rattle.sheet.specs.contracts.check as check-source
use Rattle.sheet.proofs.check
use Rattle.zonemap.specs.contracts.open as open-map-source
use Rattle.zonemap.proofs.open as open-map
use Rattle.building.specs.contracts.build as build-source
use Rattle.building.proofs.build
use Rattle.pair.specs.contracts.open as open-pair-source
use Rattle.pair.proofs.open as open-pair
use Rattle.refine.specs.contracts.refine as refine-source
use Rattle.refine.proofs.refine
use Rattle.lookup.specs.contracts.lookup as lookup-source
use Rattle.lookup.proofs.lookup
use Rattle.zone.specs.contracts.zone_check as zone_check-source
use Rattle.zone.proofs.zone_check
use Rattle.zone.specs.contracts.zone_build as zone_build-source
use Rattle.zone.proofs.zone_build
use Rattle.zone.specs.contracts.zone_refine as zone_refine-source
use Rattle.zone.proofs.zone_refine
use Rattle.zone.specs.contracts.zone_open as zone_open-source
use Rattle.zone.proofs.zone_open
use Rattle.zone.specs.contracts.zone_lookup as zone_lookup-source
use Rattle.zone.proofs.zone_lookup

-- whatever a caller has is enough for such a call
pub asks_nothing : {M : Type 1} (𝓤 : Ura M) (T : Ended) (says : Fact T) (κs : Lfts T.signature.lifetimes) (entry : Args T.signature κs) (had : SProp 𝓤) → ent 𝓤 had ((just 𝓤 T says κs entry).requires tt)
asks_nothing 𝓤 T says κs entry had = top 𝓤 had

-- sheet::check
pub check-is : Contract check-source.ended (λ M 𝓤 𝓛. check-source.clauses 𝓛) check.Symbol.name check.Symbol.code
    (λ _ s r. r ≡ check_of s.now)
check-is = record { written = λ 𝓛 mem run. refl; met = λ 𝓛 𝓜 𝓡 wired. check.Met.met _ 𝓛 𝓜 𝓡 wired }

-- zonemap::open
pub open_is : Contract open-map-source.ended (λ M 𝓤 𝓛. open-map-source.clauses 𝓛) open-map.Symbol.name open-map.Symbol.code
    (λ _ map r. r ≡ open_of map.now)
open_is = record { written = λ 𝓛 mem run. refl; met = λ 𝓛 𝓜 𝓡 wired. open-map.Met.met _ 𝓛 𝓜 𝓡 wired }

-- pair::open
pub pair_is : Contract open-pair-source.ended (λ M 𝓤 𝓛. open-pair-source.clauses 𝓛) open-pair.Symbol.name open-pair.Symbol.code
    (λ _ sheet map p r. r ≡ opened_of sheet.now map.now p)
pair_is = record { written = λ 𝓛 mem run. refl; met = λ 𝓛 𝓜 𝓡 wired. open-pair.Met.met _ 𝓛 𝓜 𝓡 wired }

-- building::build
pub build-is : Contract build-source.ended (λ M 𝓤 𝓛. build-source.clauses 𝓛) build.Symbol.name build.Symbol.code
    (λ _ sheet x y z k d out r. outcome r out.exit.now ≡ build_of sheet.now (record { x = x; y = y; z = z; k = k; d = d }) out.entry.now)
build-is = record { written = λ 𝓛 mem run. refl; met = λ 𝓛 𝓜 𝓡 wired. build.Met.met _ 𝓛 𝓜 𝓡 wired }

-- refine::refine
pub refine-is : Contract refine-source.ended (λ M 𝓤 𝓛. refine-source.clauses 𝓛) refine.Symbol.name refine.Symbol.code
    (λ _ sheet map d out r. outcome r out.exit.now ≡ refine_of sheet.now map.now d out.entry.now)
refine-is = record { written = λ 𝓛 mem run. refl; met = λ 𝓛 𝓜 𝓡 wired. refine.Met.met _ 𝓛 𝓜 𝓡 wired }

-- lookup::lookup
pub lookup-is : Contract lookup-source.ended (λ M 𝓤 𝓛. lookup-source.clauses 𝓛) lookup.Symbol.name lookup.Symbol.code
    (λ _ sheet map x y z r. r ≡ lookup_of sheet.now map.now (record { x = x; y = y; z = z }))
lookup-is = record { written = λ 𝓛 mem run. refl; met = λ 𝓛 𝓜 𝓡 wired. lookup.Met.met _ 𝓛 𝓜 𝓡 wired }

-- zone::zone_check
pub zone-check-is : Contract zone_check-source.ended (λ M 𝓤 𝓛. zone_check-source.clauses 𝓛) zone_check.Symbol.name zone_check.Symbol.code
    (λ _ sheet r. r ≡ zone_check_of sheet.now)
zone-check-is = record { written = λ 𝓛 mem run. refl; met = λ 𝓛 𝓜 𝓡 wired. zone_check.Met.met _ 𝓛 𝓜 𝓡 wired }

-- zone::zone_build
pub zone-build-is : Contract zone_build-source.ended (λ M 𝓤 𝓛. zone_build-source.clauses 𝓛) zone_build.Symbol.name zone_build.Symbol.code
    (λ _ sheet x y z k d out r. zone_outcome r out.exit.now ≡ zone_build_of sheet.now (record { x = x; y = y; z = z; k = k; d = d }) out.entry.now)
zone-build-is = record { written = λ 𝓛 mem run. refl; met = λ 𝓛 𝓜 𝓡 wired. zone_build.Met.met _ 𝓛 𝓜 𝓡 wired }

-- zone::zone_refine
pub zone-refine-is : Contract zone_refine-source.ended (λ M 𝓤 𝓛. zone_refine-source.clauses 𝓛) zone_refine.Symbol.name zone_refine.Symbol.code
    (λ _ sheet map d out r. zone_outcome r out.exit.now ≡ zone_refine_of sheet.now map.now d out.entry.now)
zone-refine-is = record { written = λ 𝓛 mem run. refl; met = λ 𝓛 𝓜 𝓡 wired. zone_refine.Met.met _ 𝓛 𝓜 𝓡 wired }

-- zone::zone_open
pub zone-open-is : Contract zone_open-source.ended (λ M 𝓤 𝓛. zone_open-source.clauses 𝓛) zone_open.Symbol.name zone_open.Symbol.code
    (λ _ map r. r ≡ zone_open_of map.now)
zone-open-is = record { written = λ 𝓛 mem run. refl; met = λ 𝓛 𝓜 𝓡 wired. zone_open.Met.met _ 𝓛 𝓜 𝓡 wired }

-- zone::zone_lookup
pub zone-lookup-is : Contract zone_lookup-source.ended (λ M 𝓤 𝓛. zone_lookup-source.clauses 𝓛) zone_lookup.Symbol.name zone_lookup.Symbol.code
    (λ _ sheet map x y z r. r ≡ zone_lookup_of sheet.now map.now (record { x = x; y = y; z = z }))
zone-lookup-is = record { written = λ 𝓛 mem run. refl; met = λ 𝓛 𝓜 𝓡 wired. zone_lookup.Met.met _ 𝓛 𝓜 𝓡 wired }

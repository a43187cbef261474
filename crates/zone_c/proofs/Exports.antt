-- Each exported call requires nothing, ensures one equation with its definition and nothing else, and meets it, as the call of `zone` that it makes. By `refl`:
-- the source's clauses compute to these.
use mathlib.Core.Path.{◌≡◌, refl}
use Rattle.demands.specs.Contract.{Contract}
use Rattle.zone.specs.Replies.{zone_check_of, zone_outcome, zone_build_of, zone_refine_of, zone_open_of, zone_lookup_of}
use Rattle.zone_c.specs.contracts.zone_check as zone_check-source
use Rattle.zone_c.proofs.zone_check
use Rattle.zone_c.specs.contracts.zone_build as zone_build-source
use Rattle.zone_c.proofs.zone_build
use Rattle.zone_c.specs.contracts.zone_refine as zone_refine-source
use Rattle.zone_c.proofs.zone_refine
use Rattle.zone_c.specs.contracts.zone_open as zone_open-source
use Rattle.zone_c.proofs.zone_open
use Rattle.zone_c.specs.contracts.zone_lookup as zone_lookup-source
use Rattle.zone_c.proofs.zone_lookup

pub zone-check-is : Contract zone_check-source.ended (λ M 𝓤 𝓛. zone_check-source.clauses 𝓛) zone_check.Symbol.name zone_check.Symbol.code
    (λ _ sheet r. r ≡ zone_check_of sheet.now)
zone-check-is = record { written = λ 𝓛 mem run. refl; met = λ 𝓛 𝓜 𝓡 wired. zone_check.Met.met _ 𝓛 𝓜 𝓡 wired }

pub zone-build-is : Contract zone_build-source.ended (λ M 𝓤 𝓛. zone_build-source.clauses 𝓛) zone_build.Symbol.name zone_build.Symbol.code
    (λ _ sheet x y z k d out r. zone_outcome r out.exit.now ≡ zone_build_of sheet.now (record { x = x; y = y; z = z; k = k; d = d }) out.entry.now)
zone-build-is = record { written = λ 𝓛 mem run. refl; met = λ 𝓛 𝓜 𝓡 wired. zone_build.Met.met _ 𝓛 𝓜 𝓡 wired }

pub zone-refine-is : Contract zone_refine-source.ended (λ M 𝓤 𝓛. zone_refine-source.clauses 𝓛) zone_refine.Symbol.name zone_refine.Symbol.code
    (λ _ sheet map d out r. zone_outcome r out.exit.now ≡ zone_refine_of sheet.now map.now d out.entry.now)
zone-refine-is = record { written = λ 𝓛 mem run. refl; met = λ 𝓛 𝓜 𝓡 wired. zone_refine.Met.met _ 𝓛 𝓜 𝓡 wired }

pub zone-open-is : Contract zone_open-source.ended (λ M 𝓤 𝓛. zone_open-source.clauses 𝓛) zone_open.Symbol.name zone_open.Symbol.code
    (λ _ map r. r ≡ zone_open_of map.now)
zone-open-is = record { written = λ 𝓛 mem run. refl; met = λ 𝓛 𝓜 𝓡 wired. zone_open.Met.met _ 𝓛 𝓜 𝓡 wired }

pub zone-lookup-is : Contract zone_lookup-source.ended (λ M 𝓤 𝓛. zone_lookup-source.clauses 𝓛) zone_lookup.Symbol.name zone_lookup.Symbol.code
    (λ _ sheet map x y z r. r ≡ zone_lookup_of sheet.now map.now (record { x = x; y = y; z = z }))
zone-lookup-is = record { written = λ 𝓛 mem run. refl; met = λ 𝓛 𝓜 𝓡 wired. zone_lookup.Met.met _ 𝓛 𝓜 𝓡 wired }

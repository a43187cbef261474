-- What a `Contract` (specs/Contract) says of a run, in every model of the logic, where the names that the code has mean their code: a call whose arguments are
-- as their types say returns, its machine value stands for an answer, and the fact holds of it.
use Prim.Native.Nat.{ℕ}
use mathlib.Core.Path.{◌≡◌}
use mathlib.Core.Logic.{∥∥₁_prop, ∥∥₁_elim, ∥∥₁_map}
use seplogic.Ra.Ura.{Ura}
use mir.Val.{Val}
use base.Logic.{SProp, sep, ex, emp, via, comm∗, assoc∗, mono_l, fst∗, snd∗, emp∗}
use prog.Machine.{done}
use prog.Memory.{Memory}
use prog.Model.{Model}
use prog.Routine.{step}
use prog.Wired.{Code, Wired}
use mir.Syntax.{Callee}
use types.Logic.{Logic, sem}
use contract.Adequate.{Satisfies, sat_weaken, sat_⇛, sat_ex∗, sat_fact}
use contract.Monad.{fact}
use contract.Running.{Running, strict, tables}
use denote.Triple.Adequate.{adequate}
use denote.Triple.Bound.{Bound, passed}
use denote.Triple.Clauses.{Ended, Lasts, at_exit, lasts, closing}
use denote.Triple.Entry.{Res, on_entry}
use denote.Triple.Spec.{Back, triple_of}
use Rattle.demands.specs.Contract.{Fact, fact_of, just, Source, Contract}

module _ (T : Ended) (source : Source T) (name : Callee) (code : Code) (says : Fact T) (k : Contract T source name code says) where
  module _ {M : Type 1} {𝓤 : Ura M} (𝓛 : Logic 𝓤) (𝓜 : Model 𝓤 𝓛.H) (𝓡 : Running 𝓤 𝓛.H 𝓜) (wired : Wired 𝓡.env code) (x : Bound 𝓛 T.signature) where
    open 𝓛 use {H}

    abbrev pub Answer : Type 0
    Answer = Res T.signature x.0

    -- the final values behind what was lent
    abbrev pub Last : Type 0
    Last = Lasts T x.0 x.3

    -- the fact, of the arguments, of the answer and of the final values
    abbrev pub Said : Answer → Last → Type 0
    Said r ws = fact_of x.0 Answer T.signature.params T.kept (says x.0) x.3 (at_exit T x.0 x.3 ws) r

    abbrev Behind : Last → SProp 𝓤
    Behind ws = sem 𝓛 (lasts T x.0 x.3 ws)

    -- the machine value v stands for the answer r
    abbrev Stands : Val → Answer → SProp 𝓤
    Stands v r = Back 𝓛 T.signature x v r

    -- the arguments are as their types say
    abbrev pub Entered : SProp 𝓤
    Entered = on_entry 𝓛 T.signature x.0 x.1 x.3 x.4

    -- next to a frame, v stands for r, and ws are the final values
    abbrev pub Left : Val → Answer → Last → SProp 𝓤 → SProp 𝓤
    Left v r ws F = sep 𝓤 (Behind ws) (sep 𝓤 (Stands v r) F)

    abbrev end : Answer → Last → SProp 𝓤
    end r ws = sep 𝓤 (Behind ws) (fact 𝓤 (Said r ws))

    abbrev post : Val → Answer → SProp 𝓤
    post v r = sep 𝓤 (Stands v r) (ex 𝓤 (end r))

    -- what is left after the call has the final values, and the fact holds of them
    ends : (σ : Memory) (v : Val) (F : SProp 𝓤) (r : Answer) → Satisfies 𝓤 H 𝓜 σ (sep 𝓤 (post v r) F) → ∥ ((ws : Last) × Said r ws × Satisfies 𝓤 H 𝓜 σ (Left v r ws F)) ∥₁
    ends σ v F r s =
        let B : SProp 𝓤 = Stands v r in
        let E : SProp 𝓤 = ex 𝓤 (end r) in
        let turned = via 𝓤 (sep 𝓤 (sep 𝓤 E B) F) (mono_l 𝓤 F (comm∗ 𝓤 B E)) (assoc∗ 𝓤 E B F) in
        ∥∥₁_elim (sat_ex∗ 𝓤 H 𝓜 σ (end r) (sep 𝓤 B F) (sat_weaken 𝓤 H 𝓜 σ turned s)) ∥∥₁_prop
        (λ t.
        let L : SProp 𝓤 = Behind t.0 in
        let S : SProp 𝓤 = fact 𝓤 (Said r t.0) in
        let P : SProp 𝓤 = sep 𝓤 (end r t.0) (sep 𝓤 B F) in
        let told = via 𝓤 P (snd∗ 𝓤 (𝓜.mem σ) P) (via 𝓤 (end r t.0) (fst∗ 𝓤 (end r t.0) (sep 𝓤 B F)) (snd∗ 𝓤 L S)) in
        ∥∥₁_map (sat_fact 𝓤 H 𝓜 σ P (Said r t.0) told t.1) (λ g. (t.0, g, sat_weaken 𝓤 H 𝓜 σ (mono_l 𝓤 (sep 𝓤 B F) (fst∗ 𝓤 L S)) t.1)))

    -- a run from a memory: after n steps it is done, with the value v and the memory σ'
    abbrev pub Runs : Memory → SProp 𝓤 → Type 1
    Runs σ F =
        (n : ℕ) × (v : Val) × (σ' : Memory) × (step (𝓡.env name) n (passed 𝓛 T.signature x) σ ≡ done (v, σ'))
        × (r : Answer) × (ws : Last) × Said r ws × Satisfies 𝓤 H 𝓜 σ' (Left v r ws F)

    pub returns : (σ : Memory) (F : SProp 𝓤) → Satisfies 𝓤 H 𝓜 σ (sep 𝓤 Entered F) → ∥ Runs σ F ∥₁
    returns σ F s =
        let alone : Running 𝓤 H 𝓜 = strict 𝓤 H 𝓜 𝓡 in
        let spec = triple_of 𝓛 T.signature (closing 𝓛 T (just 𝓤 T says)) in
        let entered = sat_weaken 𝓤 H 𝓜 σ (mono_l 𝓤 F (via 𝓤 (sep 𝓤 (emp 𝓤) Entered) (emp∗ 𝓤 Entered) (comm∗ 𝓤 (emp 𝓤) Entered))) s in
        ∥∥₁_elim (adequate 𝓤 H 𝓜 (tables 𝓤 H 𝓜 alone 𝓡.env) (λ s no. no, tt) name spec (k.met 𝓛 𝓜 alone wired) (x, tt) σ F entered) ∥∥₁_prop
        (λ t.
        ∥∥₁_elim (sat_ex∗ 𝓤 H 𝓜 t.2 (post t.1) F (sat_⇛ 𝓤 H 𝓜 t.2 (ex 𝓤 (post t.1)) F t.4)) ∥∥₁_prop
        (λ u. ∥∥₁_map (ends t.2 t.1 F u.0 u.1) (λ g. (t.0, t.1, t.2, t.3, u.0, g.0, g.1, g.2))))

-- What it means that the whole contract of a call is one fact.
use Rattle.std.specs.Prelude.{ℕ, ◌≡◌, List, [], ◌∷◌}
use seplogic.Ra.Ura.{Ura}
use base.Logic.{SProp, emp}
use prog.Memory.{Memory}
use prog.Model.{Model}
use prog.Routine.{Routine}
use prog.Wired.{Code, Wired}
use mir.Syntax.{Callee}
use types.Logic.{Logic}
use contract.Lifetimes.{Lfts}
use contract.Monad.{Fun, fact}
use contract.Running.{Running}
use denote.Exit.{Exit, unchanged, leaves, Seen}
use denote.RattleType.{Denots}
use denote.Signature.{Slot, type_at, types_at}
use denote.Triple.Both.{Both}
use denote.Triple.Clauses.{Ended, Clauses, closing}
use denote.Triple.End.{Kepts, Outs}
use denote.Triple.Entry.{Res}
use denote.Triple.Spec.{Meets}

-- a parameter, as a fact reads it: its value or, if the call may write behind it, its value at entry and at exit
abbrev pub Param : {D : Type 0} → Exit D → Type 0
Param {D} unchanged = D
Param {D} (leaves _ _ S _ _) = Both D S

abbrev pub param : {D : Type 0} (e : Exit D) → D → Seen e → Param e
param unchanged x _ = x
param (leaves _ _ _ _ _) x y = record { entry = x; exit = y }

-- a fact of the parameters, one after the other, and of the answer
module _ {n : ℕ} (κs : Lfts n) (Answer : Type 0) where
  abbrev pub FactOf : (ss : List (Slot n)) → Kepts ss → Type 1
  FactOf [] ks = Answer → Type 0
  FactOf (s ∷ ss) ks = Param ((type_at s κs).exit ks.0) → FactOf ss ks.1

  abbrev pub fact_of : (ss : List (Slot n)) (ks : Kepts ss) → FactOf ss ks → Denots (types_at ss κs) → Outs κs ss ks → Answer → Type 0
  fact_of [] ks says entry exit = says
  fact_of (s ∷ ss) ks says entry exit = fact_of ss ks.1 (says (param ((type_at s κs).exit ks.0) entry.0 exit.0)) entry.1 exit.1

abbrev pub Fact : Ended → Type 1
Fact T = (κs : Lfts T.signature.lifetimes) → FactOf κs (Res T.signature κs) T.signature.params T.kept

-- the clauses that require nothing of the caller, and ensure a fact
abbrev pub just : {M : Type 1} (𝓤 : Ura M) (T : Ended) → Fact T → Clauses 𝓤 T
just 𝓤 T says κs entry = record { ghost = Unit {0}; requires = λ _. emp 𝓤; ensures = λ _ r exit. fact 𝓤 (fact_of κs (Res T.signature κs) T.signature.params T.kept (says κs) entry exit r) }

-- the clauses of a call, as they come from its source
abbrev pub Source : Ended → Type 2
Source T = (M : Type 1) (𝓤 : Ura M) → (𝓛 : Logic 𝓤) → (Memory → SProp 𝓤) → (Routine → Fun 𝓤) → Clauses 𝓤 T

-- the clauses of the source are those of the fact, and the code meets them, under its name, wherever that name and all that the code names have their code
pub record Contract (T : Ended) (source : Source T) (name : Callee) (code : Code) (says : Fact T) : Type 2 where
  pub written : {M : Type 1} {𝓤 : Ura M} (𝓛 : Logic 𝓤) (mem : Memory → SProp 𝓤) (run : Routine → Fun 𝓤) → source M 𝓤 𝓛 mem run ≡ just 𝓤 T says
  pub met : {M : Type 1} {𝓤 : Ura M} (𝓛 : Logic 𝓤) (𝓜 : Model 𝓤 𝓛.H) (𝓡 : Running 𝓤 𝓛.H 𝓜) → Wired 𝓡.env code → Meets 𝓛 T.signature (𝓡.run (𝓡.env name)) (closing 𝓛 T (just 𝓤 T says))

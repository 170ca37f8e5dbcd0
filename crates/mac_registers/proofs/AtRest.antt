-- From what a call leaves on a run, what the next one asks of it.
use mathlib.Core.List.{List}
use mathlib.Core.Path.{refl, sym, subst}
use Prim.Native.Nat.{ℕ}
use Rattle.standard.specs.Generator.{State}
use Rattle.standard.specs.States.{Stored}
use Rattle.zuc_turn.specs.declared.Halves.{Halves}
use Rattle.zuc_turn.specs.InnerRun.{Standing}
use Rattle.mac_registers.specs.declared.OnRun.{OnRun}
use Rattle.mac_registers.specs.declared.TagOn.{TagOn}
use Rattle.mac_registers.specs.Inner.{Good, Holds}
use Rattle.mac_registers.specs.InnerOpen.{AtRest, Opened, Stands}
use Rattle.mac_registers.specs.Stored.{packed}
use Rattle.mac_registers.specs.Tagging.{Tagging}
use Rattle.mac_registers.proofs.Packed.{held-as}

-- a run that stands for some state is at rest
pub at_rest : {run pairs : List ℕ} {h : Halves} {σ : State} → Standing run pairs 0 h σ → AtRest run pairs h
at_rest s = record { laid = s.laid; low = s.low; state = refl }

-- what stands for a struct that holds a tag in the making can go on
pub opened : {run pairs : List ℕ} {o : TagOn OnRun} {s : Stored} → Stands run pairs o s → Holds s → Opened run pairs o
opened s h = record { rest = s.rest; holds = subst Holds (sym s.stored) h }

pub opened-as : {run pairs : List ℕ} {o : TagOn OnRun} {w : ℕ} {st : Tagging} → Stands run pairs o (packed w st) → Good w st → Opened run pairs o
opened-as s g = record { rest = s.rest; holds = held-as s.stored g }

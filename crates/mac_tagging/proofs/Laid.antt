-- A call's part: a run can be taken back, and what is begun on a run is begun from the generator that was laid or started on it.
use mathlib.Core.List.{List}
use native.Mathlib.Omega.{arith}
use Prim.Native.Nat.{ℕ, ◌<◌, ◌≤◌}
use lib.Dec.{lit<}
use lib.ListN.{length}
use Rattle.standard.specs.Generator.{State, started}
use Rattle.standard.specs.States.{from_zero}
use Rattle.standard.proofs.Cells.{Cells}
use Rattle.standard.proofs.Generator.{sound-started}
use Rattle.standard.proofs.Held.{Ready}
use Rattle.zuc_turn.specs.InnerRun.{Low}
use Rattle.mac_registers.specs.declared.OnRun.{OnRun}
use Rattle.mac_registers.specs.declared.TagOn.{TagOn}
use Rattle.mac_registers.specs.InnerOpen.{Opened}
use Rattle.mac_registers.specs.Stored.{tagging_of}

pub goes_back : {run pairs : List ℕ} {o : TagOn OnRun} → Opened run pairs o → (16 ≤ length run) × (Low o.g.h × (o.g.start < 16))
unfolding tagging_of
goes_back a = (omega (arith, a.rest.laid.long), (a.rest.low, a.holds.good.sound.start))

-- after start-up of well-formed cells
pub from-loaded : (σ : State) → Cells σ.cells → Ready (from_zero (started σ))
from-loaded σ c = record { cells = sound-started σ c; start = lit< tt }

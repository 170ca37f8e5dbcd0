-- A tag in the making inside a call: what a lent run and the struct beside it stand for.
use Rattle.std.specs.Prelude.{List, ◌≡◌, ℕ}
use Rattle.standard.specs.States.{Held, Stored}
use Rattle.zuc_turn.specs.InnerRun.{Standing, state_at}
use Rattle.zuc_turn.specs.declared.Halves.{Halves}
use Rattle.mac_registers.specs.Inner.{Holds}
use Rattle.mac_registers.specs.Stored.{stored_by}
use Rattle.mac_registers.specs.declared.OnRun.{OnRun}
use Rattle.mac_registers.specs.declared.TagOn.{TagOn}

-- a run at rest: well-formed cells and their pairs at the front, and registers in halves
abbrev pub AtRest : List ℕ → List ℕ → Halves → Type 0
AtRest run pairs h = Standing run pairs 0 h (state_at run 0 h)

-- the generator that stands on a run, with its index
abbrev pub held_on : List ℕ → OnRun → Held
held_on run g = record { meaning = state_at run 0 g.h; start = g.start }

abbrev pub stored_at : List ℕ → TagOn OnRun → Stored
stored_at run o = stored_by (held_on run) o

-- what the inner functions ask
pub record Opened (run pairs : List ℕ) (o : TagOn OnRun) : Type 0 where
  pub rest : AtRest run pairs o.g.h
  pub holds : Holds (stored_at run o)

-- and what they leave: a run at rest, and what is open stands for s
pub record Stands (run pairs : List ℕ) (o : TagOn OnRun) (s : Stored) : Type 0 where
  pub rest : AtRest run pairs o.g.h
  pub stored : stored_at run o ≡ s

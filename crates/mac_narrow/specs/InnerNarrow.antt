-- A tag of 32 bits in the making, where the generator is a run of cells: what a run and the struct of the bulk loop stand for.
use Rattle.std.specs.Prelude.{List, [], ◌≡◌, ℕ, ◌<◌}
use Rattle.zuc_turn.specs.InnerRun.{Laid, Low}
use Rattle.mac_registers.specs.InnerOpen.{held_on}
use Rattle.mac_registers.specs.Tagging.{Tagging}
use Rattle.mac_narrow.specs.declared.Narrow.{Narrow}

-- the tag in the making; nothing waits
abbrev pub tagging_at : List ℕ → Narrow → Tagging
tagging_at run s = record { generator = held_on run s.g; key = s.key; tag = s.tag; waiting = [] }

-- a run at rest that stands for st
pub record Tagged (run pairs : List ℕ) (s : Narrow) (st : Tagging) : Type 0 where
  pub laid : Laid run pairs 0
  pub low : Low s.g.h
  pub start : s.g.start < 16
  pub tagging : tagging_at run s ≡ st

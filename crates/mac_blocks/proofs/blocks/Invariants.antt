-- What the loop keeps.
use mathlib.Core.Path.{◌≡◌}
use Prim.Native.Nat.{ℕ, ◌+◌, ◌*◌, ◌-◌, ◌≤◌}
use lib.ListN.{drop, take}
use Rattle.mac_registers.specs.Stored.{packed, tagging_of}
use Rattle.mac_registers.specs.InnerOpen.{Stands, stored_at}
use Rattle.mac_registers.specs.Tagging.{updated}
use Rattle.mac_blocks.proofs.blocks.Given as goal

abbrev pub invariant-loop-i : goal.invariant-loop-i
invariant-loop-i l =
    (l.i ≤ l.at)
    × (l.o.cnt ≡ 0)
    × ((n : ℕ) × (l.i ≡ l.from + n * l.initial.o.width))
    × Stands l.run.cells l.run.pairs l.o (packed l.initial.o.width (updated (l.initial.o.width * 8) (tagging_of (stored_at l.initial.run.cells l.initial.o)) (take (l.i - l.from) (drop l.from l.message))))

abbrev pub decreases-loop-i : goal.decreases-loop-i
decreases-loop-i l = l.at - l.i

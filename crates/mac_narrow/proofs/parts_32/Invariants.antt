-- What the loop keeps.
use lib.ListN.{length, take}
use mathlib.Core.Path.{◌≡◌}
use Prim.Native.Nat.{◌-◌, ◌%◌, ◌≤◌}
use Rattle.mac_registers.specs.Tagging.{updated}
use Rattle.mac_narrow.specs.InnerNarrow.{Tagged, tagging_at}
use Rattle.mac_narrow.proofs.parts_32.Given as goal

abbrev pub invariant-loop-i : goal.invariant-loop-i
invariant-loop-i l =
    (l.i ≤ length l.part)
    × (l.i % 4 ≡ 0)
    × Tagged l.run.cells l.run.pairs l.s (updated 32 (tagging_at l.initial.run.cells l.initial.s) (take l.i l.part))

abbrev pub decreases-loop-i : goal.decreases-loop-i
decreases-loop-i l = length l.part - l.i

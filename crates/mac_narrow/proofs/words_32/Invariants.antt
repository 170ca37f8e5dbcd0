-- What the loop keeps.
use lib.ListN.{length, take}
use mathlib.Core.Path.{◌≡◌}
use Prim.Native.Nat.{ℕ, ◌*◌, ◌-◌, ◌≤◌}
use mathlib.Core.List.{List}
use Rattle.standard.specs.Generator.{after}
use Rattle.standard.specs.States.{Held, moved}
use Rattle.zuc_turn.specs.declared.Halves.{Halves}
use Rattle.mac_narrow.specs.declared.Narrow.{Narrow}
use Rattle.zuc_turn.specs.InnerRun.{Standing, state_at}
use Rattle.mac_registers.specs.Tagging.{updated}
use Rattle.mac_narrow.proofs.Bulk.{idle}
use Rattle.mac_narrow.proofs.words_32.Given as goal

-- what the run and the registers stand for at the loop's begin, with the index
abbrev pub at : List ℕ → Halves → Narrow → Held
at run h s = record { meaning = state_at run 0 h; start = s.g.start }

abbrev pub invariant-loop-j : goal.invariant-loop-j
invariant-loop-j l =
    (l.j ≤ l.n)
    × (l.n ≤ 64)
    × (4 * l.n ≡ length l.part)
    × Standing l.run.cells l.run.pairs l.j l.h (after l.j (state_at l.initial.run.cells 0 l.initial.h))
    × (idle (moved l.j (at l.initial.run.cells l.initial.h l.start)) l.key l.tag ≡ updated 32 (idle (at l.initial.run.cells l.initial.h l.start) l.initial.key l.initial.tag) (take (4 * l.j) l.part))

abbrev pub decreases-loop-j : goal.decreases-loop-j
decreases-loop-j l = l.n - l.j

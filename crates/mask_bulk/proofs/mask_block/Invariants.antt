-- What the loop keeps.
use lib.ListN.{length}
use mathlib.Core.Path.{◌≡◌}
use Prim.Native.Nat.{◌*◌, ◌-◌, ◌≤◌}
use Rattle.standard.proofs.Each.{done_from}
use Rattle.standard.specs.Confidentiality.{masked}
use Rattle.standard.specs.Generator.{after, word_at}
use Rattle.zuc_turn.specs.InnerRun.{Standing, state_at}
use Rattle.mask_bulk.proofs.mask_block.Given as goal

abbrev pub invariant-loop-j : goal.invariant-loop-j
invariant-loop-j l =
    (l.j ≤ l.n)
    × (l.n ≤ 64)
    × (length l.part ≡ length l.initial.part)
    × Standing l.run.cells l.run.pairs l.j l.h (after l.j (state_at l.initial.run.cells 0 l.initial.h))
    × (done_from (masked (word_at (state_at l.initial.run.cells 0 l.initial.h))) (4 * l.j) l.part ≡ done_from (masked (word_at (state_at l.initial.run.cells 0 l.initial.h))) 0 l.initial.part)

abbrev pub decreases-loop-j : goal.decreases-loop-j
decreases-loop-j l = l.n - l.j

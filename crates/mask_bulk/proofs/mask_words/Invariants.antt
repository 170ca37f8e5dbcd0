-- What the loop keeps.
use lib.ListN.{length}
use mathlib.Core.Path.{◌≡◌}
use Prim.Native.Nat.{◌-◌, ◌/◌, ◌%◌, ◌≤◌}
use Rattle.standard.proofs.Each.{done_from}
use Rattle.standard.specs.Confidentiality.{masked}
use Rattle.standard.specs.Generator.{after, word_at}
use Rattle.zuc_turn.specs.InnerRun.{Standing, state_at}
use Rattle.mask_bulk.proofs.mask_words.Given as goal

abbrev pub invariant-loop-i : goal.invariant-loop-i
invariant-loop-i l =
    (l.i ≤ length l.initial.part)
    × (l.i % 4 ≡ 0)
    × (length l.part ≡ length l.initial.part)
    × Standing l.run.cells l.run.pairs 0 l.h (after (l.i / 4) (state_at l.initial.run.cells 0 l.initial.h))
    × (done_from (masked (word_at (state_at l.initial.run.cells 0 l.initial.h))) l.i l.part ≡ done_from (masked (word_at (state_at l.initial.run.cells 0 l.initial.h))) 0 l.initial.part)

abbrev pub decreases-loop-i : goal.decreases-loop-i
decreases-loop-i l = length l.initial.part - l.i

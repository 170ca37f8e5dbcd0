-- What the loop keeps.
use mathlib.Core.Path.{◌≡◌}
use Prim.Native.Nat.{◌≤◌, ◌-◌}
use lib.ListN.{length}
use Rattle.standard.specs.Confidentiality.{masked}
use Rattle.standard.proofs.Each.{done_from}
use Rattle.mask_bulk.proofs.xor_rest.Given as goal

abbrev pub invariant-loop-j : goal.invariant-loop-j
invariant-loop-j l = (l.j ≤ length l.initial.part) × (done_from (masked (λ n. l.word)) l.j l.part ≡ done_from (masked (λ n. l.word)) 0 l.initial.part) × (length l.part ≡ length l.initial.part)

abbrev pub decreases-loop-j : goal.decreases-loop-j
decreases-loop-j l = length l.initial.part - l.j

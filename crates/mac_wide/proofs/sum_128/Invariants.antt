-- What the loop keeps.
use mathlib.Core.Path.{◌≡◌}
use mathlib.Core.List.{List}
use Prim.Native.Nat.{ℕ, ◌-◌, ◌≤◌}
use Rattle.standard.specs.Bits.{M}
use Rattle.mac_wide.specs.InnerRows.{four_on, stream_of}
use Rattle.mac_wide.proofs.Rows.{looked, row, words_from}
use Rattle.mac_wide.proofs.sum_128.Given as goal

abbrev pub row_of : List ℕ → (ℕ → ℕ) → ℕ → List ℕ
row_of key m i = words_from (row 192 (looked (stream_of key) m 2) i) 0 3

abbrev pub invariant-loop-i : goal.invariant-loop-i
invariant-loop-i l =
    (l.i ≤ 8)
    × (l.high ≡ row_of l.fn.key (M l.block) l.i)
    × (l.low ≡ row_of l.fn.key (four_on (M l.block)) l.i)

abbrev pub decreases-loop-i : goal.decreases-loop-i
decreases-loop-i l = 8 - l.i

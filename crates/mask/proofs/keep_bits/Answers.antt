-- `keep_bits`: zeroed from the next byte on, with the byte's high bits stored, is cleared; past the buffer nothing is to clear.
use mathlib.Core.List.{List}
use mathlib.Core.Path.{ap, ◌∙◌}
use Prim.Native.Nat.{ℕ, ◌<◌, ◌^◌}
use native.Mathlib.Omega.{arith}
use lib.ListN.{get_or, set}
use Rattle.mask.proofs.Clear.{clear-from, clear_none}
use Rattle.mask.proofs.keep_bits.Goals as goal

pub returns-then-q-buf : goal.returns-then-q-buf
returns-then-q-buf c =
    let a = c.args in
    let bytes : (i : ℕ) → get_or a.buf.now i 0 < 2 ^ 8 = λ i. (c.slice_known-1.given i).fits in
    ap (λ (x : List ℕ). set x a.q c.keep_high-high.result) c.zero_from.ensures
    ∙ clear-from a.buf.now a.q a.k _ bytes (omega arith) (omega arith) c.keep_high-high.ensures

pub returns-else-q-buf : goal.returns-else-q-buf
returns-else-q-buf c = clear_none _ _ _ c.if-q-buf.false

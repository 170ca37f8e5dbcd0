-- `registers::wide_at` meets its contract: two windows of 32 bits side by side.
use mathlib.Core.Path.{ap₂, ◌∙◌}
use Prim.Native.Nat.{ℕ, ◌+◌, ◌*◌, ◌^◌}
use Rattle.mac_registers.proofs.Widths.{bytes-64}
use Rattle.mac_registers.proofs.wide_at.Goals as goal

pub returns : goal.returns
returns c =
    let s = c.args in
    c.joined.ensures
    ∙ ap₂ (λ (x y : ℕ). x * 2 ^ 32 + y) c.word_at.ensures c.word_at-2.ensures
    ∙ bytes-64 s.block.now s.at

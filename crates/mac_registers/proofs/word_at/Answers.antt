-- `registers::word_at` meets its contract: four bytes are a window of 32 bits.
use mathlib.Core.Path.{◌∙◌}
use Rattle.mac_registers.proofs.Widths.{bytes-32}
use Rattle.mac_registers.proofs.word_at.Goals as goal

pub returns : goal.returns
returns c =
    let a = c.args in
    c.word_of.ensures ∙ bytes-32 a.block.now a.at (λ i. (c.shared_slice_known-1.given i).fits)

-- `registers::sums::look_up` meets its contract: four bytes are a word, and their look-ups are the word's.
use mathlib.Core.Path.{ap, ap₂, ◌∙◌}
use Prim.Native.Nat.{ℕ, ◌+◌, ◌<◌, ◌^◌}
use lib.Bits.{bit_xor}
use Rattle.standard.specs.Notation.{◌⟨◌⟩}
use Rattle.mac_registers.specs.InnerLookup.{looked_up}
use Rattle.mac_registers.proofs.Lookup.{by_bytes}
use Rattle.mac_registers.proofs.Widths.{bytes-32}
use Rattle.mac_registers.proofs.sums.look_up.Goals as goal

pub returns : goal.returns
returns c =
    let a = c.args in
    let small : (i : ℕ) → a.block.now ⟨ i ⟩ < 2 ^ 8 = λ i. (c.shared_slice_known-1.given i).fits in
    ap₂ bit_xor (ap₂ bit_xor (ap₂ bit_xor c.of_byte.ensures c.of_byte-2.ensures) c.of_byte-3.ensures) c.of_byte-4.ensures
    ∙ by_bytes a.table.now _ _ _ _ (small a.at) (small (a.at + 1)) (small (a.at + 2)) (small (a.at + 3))
    ∙ ap (λ (x : ℕ). looked_up a.table.now x 8) (bytes-32 a.block.now a.at small)

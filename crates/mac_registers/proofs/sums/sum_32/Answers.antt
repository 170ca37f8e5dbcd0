-- `registers::sums::sum_32` meets its contract: look-ups in the pair's table give the sum.
use mathlib.Core.Path.{ap, ◌∙◌}
use mathlib.Core.List.{List}
use Prim.Native.Nat.{ℕ, ◌*◌}
use Rattle.standard.specs.Bits.{M, window}
use Rattle.mac_registers.specs.InnerLookup.{looked_up}
use Rattle.mac_registers.proofs.Lookup.{looked-is}
use Rattle.mac_registers.proofs.sums.sum_32.Goals as goal

pub returns : goal.returns
returns c =
    let a = c.args in
    let bits : ℕ = window (M a.block.now) (a.at * 8) 32 in
    c.look_up.ensures ∙ ap (λ (x : List ℕ). looked_up x bits 8) c.multiples-table.ensures ∙ looked-is a.key bits

-- `registers::sums::of_byte` meets its contract: the low bits of an exclusive or are those of its two sides.
use Prim.Native.Nat.{◌-◌, ◌/◌, ◌%◌, ◌^◌}
use lib.Bits.{xor_mod}
use lib.ListN.{get_or}
use Rattle.mac_registers.specs.InnerLookup.{byte_looked_up}
use Rattle.mac_registers.proofs.sums.of_byte.Goals as goal

pub returns : goal.returns
unfolding byte_looked_up
returns c =
    let a = c.args in
    xor_mod (get_or a.table.now (a.b / 16) 0 / 2 ^ (29 - a.at)) (get_or a.table.now (a.b % 16) 0 / 2 ^ (25 - a.at)) 32

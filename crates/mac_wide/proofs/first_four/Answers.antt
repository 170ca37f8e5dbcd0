-- `first_four` meets its contract: a byte divided by 16.
use native.Mathlib.Omega.{arith}
use Rattle.mac_wide.proofs.Tables.{high-four}
use Rattle.mac_wide.proofs.first_four.Goals as goal

pub overflow_cast-result : goal.overflow_cast-result
overflow_cast-result c =
    omega (arith, (c.shared_slice_known-1.given c.args.at).fits)

pub returns : goal.returns
returns c =
    let a = c.args in
    let small = (c.shared_slice_known-1.given a.at).fits in
    (high-four a.block.now a.at small, omega (arith, small))

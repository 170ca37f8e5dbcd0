-- `last_four` meets its contract: a byte modulo 16.
use native.Mathlib.Omega.{arith}
use Rattle.mac_wide.proofs.Tables.{low-four}
use Rattle.mac_wide.proofs.last_four.Goals as goal

pub returns : goal.returns
returns c =
    let a = c.args in
    let small = (c.shared_slice_known-1.given a.at).fits in
    (low-four a.block.now a.at small, omega (arith, small))

-- `tagging::closing::marked` meets its contract: the marked byte fits.
use native.Mathlib.Nat.{mod-eq_of_lt}
use native.Mathlib.Omega.{arith}
use Prim.Native.Nat.{◌-◌, ◌/◌, ◌^◌, ◌<◌}
use borrow.Author.Rules.{rules}
use Rattle.mac_tagging.proofs.Last.{marked-fits, marked-half, marked-lt}
use Rattle.mac_tagging.proofs.closing.marked.Goals as goal

pub overflow_mul-result : goal.overflow_mul-result
overflow_mul-result c =
    let high_lt : c.args.b / 2 ^ (8 - c.args.r) < 2 ^ c.args.r =
    marked-lt c.args.b c.args.r (search rules) c.requires.1 in
    record { fits = omega (arith, marked-half _ c.args.r high_lt c.requires.1) }

pub overflow_add-result : goal.overflow_add-result
overflow_add-result c =
    let high_lt : c.args.b / 2 ^ (8 - c.args.r) < 2 ^ c.args.r =
    marked-lt c.args.b c.args.r (search rules) c.requires.1 in
    record { fits = omega (arith, marked-half _ c.args.r high_lt c.requires.1) }

pub returns : goal.returns
returns c =
    let high_lt : c.args.b / 2 ^ (8 - c.args.r) < 2 ^ c.args.r =
    marked-lt c.args.b c.args.r (search rules) c.requires.1 in
    mod-eq_of_lt (marked-fits _ c.args.r high_lt c.requires.1)

-- `wholes` is the division of the sum: what is left of n over its own units is below a unit, so neither sum overflows.
use Prim.Native.Nat.{◌+◌}
use native.Mathlib.Nat.{mod-lt}
use native.Mathlib.Omega.{arith}
use Rattle.mac_counts.proofs.Units.{units-are, words-most}
use Rattle.mac_counts.proofs.wholes.Goals as goal

pub overflow_add-result : goal.overflow_add-result
overflow_add-result c = let a = c.args in omega (arith, c.requires, mod-lt a.n {m = a.unit} (omega (arith, c.requires)))

pub overflow_add-result-2 : goal.overflow_add-result-2
overflow_add-result-2 c =
    let a = c.args in
    omega (
      arith,
      c.requires,
      c.ranges.n.fits,
      units-are a.unit a.before a.n (omega (arith, c.requires)),
      words-most 1 a.unit (a.before + a.n) (omega (arith, c.requires)),
    )

pub returns : goal.returns
returns c = let a = c.args in units-are a.unit a.before a.n (omega (arith, c.requires))

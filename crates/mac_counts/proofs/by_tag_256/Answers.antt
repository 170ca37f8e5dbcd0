-- `by_tag_256`: three blocks' words at the start, and those of the message's blocks.
use Prim.Native.Nat.{ℕ, ◌+◌, ◌*◌, ◌/◌}
use mathlib.Core.Path.{ap₂}
use native.Mathlib.Nat.{mul-add, mul_comm}
use native.Mathlib.Omega.{arith}
use Rattle.mac_counts.proofs.Units.{width-range, words-most}
use Rattle.mac_counts.proofs.by_tag_256.Goals as goal

pub overflow_mul-result : goal.overflow_mul-result
overflow_mul-result c = omega (arith, width-range c.requires)

pub nonzero_div-result-2 : goal.nonzero_div-result-2
nonzero_div-result-2 c = omega (arith, width-range c.requires)

pub overflow_add-result : goal.overflow_add-result
overflow_add-result c = let a = c.args in omega (arith, c.ranges.l.fits, words-most 1 (8 * a.width) a.l (omega (arith, width-range c.requires)))

pub overflow_mul-result-2 : goal.overflow_mul-result-2
overflow_mul-result-2 c =
    let a = c.args in
    let q = a.l / (8 * a.width) in
    omega (arith, c.ranges.l.fits, width-range c.requires, mul-add (a.width / 4) 3 q, words-most (a.width / 4) (8 * a.width) a.l (omega arith))

pub returns : goal.returns
returns c =
    let a = c.args in
    ap₂ (λ (x y : ℕ). x * (3 + a.l / y)) (omega arith) (mul_comm 8 a.width)

-- `to_close_256`: a word for each 32 bits of the blocks completed.
use Prim.Native.Nat.{ℕ, ◌+◌, ◌*◌, ◌/◌}
use mathlib.Core.Path.{ap, ◌∙◌}
use native.Mathlib.Omega.{arith}
use Rattle.mac_counts.proofs.Units.{blocks-in-bits, width-range, words-most}
use Rattle.mac_counts.proofs.to_close_256.Goals as goal

pub overflow_mul-width : goal.overflow_mul-width
overflow_mul-width c = omega (arith, width-range c.requires.0)

pub overflow_mul-waiting : goal.overflow_mul-waiting
overflow_mul-waiting c = omega (arith, width-range c.requires.0, c.requires.1)

pub wholes-requires : goal.wholes-requires
wholes-requires c = let r = width-range c.requires.0 in (omega (arith, r), omega (arith, r), omega (arith, r, c.requires.1))

pub overflow_mul-result : goal.overflow_mul-result
overflow_mul-result c =
    let a = c.args in
    rw c.wholes.ensures
    (omega (arith, c.ranges.l.fits, width-range c.requires.0, c.requires.1, words-most (a.width / 4) (8 * a.width) (8 * a.waiting + a.l) (omega arith)))

pub returns : goal.returns
returns c =
    let a = c.args in
    ap (λ (n : ℕ). a.width / 4 * n) c.wholes.ensures ∙ blocks-in-bits a.width (8 * a.waiting + a.l)

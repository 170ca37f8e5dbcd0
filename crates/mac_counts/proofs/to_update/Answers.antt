-- `to_update`: a word for each 32 bits of the blocks completed.
use Prim.Native.Nat.{ℕ, ◌+◌, ◌*◌, ◌/◌}
use mathlib.Core.Path.{ap, ◌∙◌}
use native.Mathlib.Omega.{arith}
use Rattle.mac_counts.proofs.Units.{blocks-in-bytes, width-range, words-most}
use Rattle.mac_counts.proofs.to_update.Goals as goal

pub wholes-requires : goal.wholes-requires
wholes-requires c = let r = width-range c.requires.0 in (r.0, omega (arith, r), omega (arith, r, c.requires.1))

pub overflow_mul-result : goal.overflow_mul-result
overflow_mul-result c =
    let a = c.args in
    rw c.wholes.ensures
    (omega (arith, c.ranges.n.fits, width-range c.requires.0, c.requires.1, words-most (a.width / 4) a.width (a.waiting + a.n) (omega arith)))

pub returns : goal.returns
returns c =
    let a = c.args in
    ap (λ (n : ℕ). a.width / 4 * n) c.wholes.ensures ∙ blocks-in-bytes a.width (a.waiting + a.n)

-- `to_close_128`: a word for each 32 bits begun.
use Prim.Native.Nat.{ℕ, ◌*◌, ◌/◌}
use mathlib.Core.Path.{ap, ◌∙◌}
use native.Mathlib.Nat.{add_right_comm}
use native.Mathlib.Omega.{arith}
use Rattle.mac_counts.proofs.to_close_128.Goals as goal

pub overflow_mul-waiting : goal.overflow_mul-waiting
overflow_mul-waiting c = omega (arith, c.requires)

pub overflow_add-waiting : goal.overflow_add-waiting
overflow_add-waiting c = omega (arith, c.requires)

pub wholes-requires : goal.wholes-requires
wholes-requires c = (omega arith, omega arith, omega (arith, c.requires))

pub returns : goal.returns
returns c =
    let a = c.args in
    c.wholes.ensures ∙ ap (λ (n : ℕ). n / 32) (add_right_comm (8 * a.waiting) 31 a.l)

-- `standing` keeps the bits up to bit `highest`: a remainder by a power of two, where there are fewer than 64.
use lib.Pow.{pow_pos}
use mathlib.Core.Path.{◌∙◌, ap, subst, sym}
use native.Mathlib.Omega.{arith}
use Prim.Native.Nat.{ℕ, suc, ◌%◌, ◌<◌}
use Rattle.guard.proofs.Stepping.{two-shifted}
use Rattle.guard.specs.Outcome.{link_of}
use Rattle.standard.proofs.Guard.{standing-high, standing-low}
use Rattle.guard.proofs.standing.Goals as goal

pub nonzero_rem-result : goal.nonzero_rem-result
nonzero_rem-result c = let l = c.args.l in subst (λ (x : ℕ). 0 < x) (sym (two-shifted l.highest (omega arith))) (pow_pos (suc l.highest))

pub returns-then-highest-lt63 : goal.returns-then-highest-lt63
returns-then-highest-lt63 c =
    let l = c.args.l in
    ap (λ (x : ℕ). l.accepted % x) (two-shifted l.highest (omega arith)) ∙ sym (standing-low (link_of l) (omega arith))

pub returns : goal.returns
returns c = let l = c.args.l in sym (standing-high (link_of l) (omega arith) (omega arith))

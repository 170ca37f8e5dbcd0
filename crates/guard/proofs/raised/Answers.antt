-- `raised` is a product modulo 2^64: past 64 places nothing of it is left.
use lib.Pow.{pow-add}
use mathlib.Core.Path.{◌≡◌, ◌∙◌, ap, sym}
use native.Mathlib.Nat.{mul_assoc, mul-mod_left}
use native.Mathlib.Omega.{arith}
use Prim.Native.Nat.{ℕ, ◌+◌, ◌-◌, ◌*◌, ◌%◌, ◌^◌, ◌≤◌}
use Rattle.guard.proofs.raised.Goals as goal

gone : (x k : ℕ) → 64 ≤ k → 0 ≡ x * 2 ^ k % 2 ^ 64
gone x k h =
    sym (ap (λ (y : ℕ). x * y % 2 ^ 64) (ap (λ (j : ℕ). 2 ^ j) e ∙ pow-add 2 (k - 64) 64)
    ∙ ap (λ (y : ℕ). y % 2 ^ 64) (sym (mul_assoc x (2 ^ (k - 64)) (2 ^ 64)))
    ∙ mul-mod_left (x * 2 ^ (k - 64)) (2 ^ 64))
  where
    e : k ≡ k - 64 + 64
    e = omega arith

pub returns : goal.returns
returns c = gone c.args.bits c.args.up (omega arith)

-- `half_of` is a window of the number's own bits.
use mathlib.Core.Path.{ap, ◌∙◌}
use native.Mathlib.Omega.{arith}
use Prim.Native.Nat.{ℕ, ◌/◌, ◌%◌, ◌^◌}
use Rattle.capi_arrays.proofs.Regrouped.{cut_of}
use Rattle.capi_arrays.proofs.half_of.Goals as goal

pub returns : goal.returns
returns c = ap (λ (shift : ℕ). c.args.word / 2 ^ shift % 2 ^ 32) (omega arith) ∙ cut_of 64 32 c.args.word c.args.k (omega arith)

-- `keep_high`: shifted down and up again the byte stays below 256, so no shift and no cast loses a bit.
use native.Mathlib.Omega.{arith}
use Rattle.standard.proofs.Kept.{keep-shifted, keep-le}
use Rattle.words.proofs.keep_high.Goals as goal

pub overflow_cast-result-4 : goal.overflow_cast-result-4
overflow_cast-result-4 c =
    let a = c.args in
    omega (arith, keep-shifted 32 a.k a.byte (omega arith), keep-le a.k a.byte)

pub returns : goal.returns
returns c = keep-shifted 32 c.args.k c.args.byte (omega arith)

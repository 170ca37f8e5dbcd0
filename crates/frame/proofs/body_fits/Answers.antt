-- `body_fits` is the standard's test: the bytes first, then the last one's bits past the length.
use native.Mathlib.Omega.{arith}
use Rattle.frame.proofs.Body.{bytes-differ, full-bytes, last-byte}
use Rattle.frame.proofs.body_fits.Goals as goal

pub returns-then-div_ceil-n : goal.returns-then-div_ceil-n
returns-then-div_ceil-n c = bytes-differ _ _ (λ e. c.if-div_ceil-n.true (omega arith))

pub returns-then-l-eq0 : goal.returns-then-l-eq0
returns-then-l-eq0 c = full-bytes _ _ (omega arith) (omega arith)

pub returns : goal.returns
returns c = last-byte _ _ _ (omega arith) (omega arith) c.keep_high.ensures

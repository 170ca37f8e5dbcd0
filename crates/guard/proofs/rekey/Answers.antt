-- `rekey` by what a table is where there is such a link, and where there is none.
use native.Mathlib.Omega.{arith}
use Rattle.guard.proofs.Tables.{rekey-missing, rekeyed-is}
use Rattle.guard.proofs.rekey.Goals as goal

pub returns-then-links-at : goal.returns-then-links-at
returns-then-links-at c = rekey-missing c.args.links.now c.args.at (omega arith)

pub returns : goal.returns
returns c = rekeyed-is c.args.links.now c.args.at (omega arith)

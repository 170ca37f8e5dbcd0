-- `accept` by what a table is where there is such a link, and where there is none; the link is stepped as `step` promises.
use native.Mathlib.Omega.{arith}
use Rattle.std.proofs.lemmas.Result.{err_from_is_err_and}
use Rattle.guard.proofs.Tables.{accept-missing, accept-refused, accept-stepped}
use Rattle.guard.proofs.accept.Goals as goal

pub returns-then-links-at : goal.returns-then-links-at
returns-then-links-at c = accept-missing c.args.links.now c.args.at c.args.count (omega arith)

pub returns-in_err-links : goal.returns-in_err-links
returns-in_err-links c =
    let p = err_from_is_err_and c.from_residual.result c.from_residual.ensures.1 in
    rw (p.1, p.2) (accept-refused c.args.links.now c.args.at c.args.count _ (omega arith) c.in_err-links.ensures)

pub returns : goal.returns
returns c = accept-stepped c.args.links.now c.args.at c.args.count _ (omega arith) c.in_ok-links.ensures

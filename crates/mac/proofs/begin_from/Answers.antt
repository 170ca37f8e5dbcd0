-- `mac::begin_from` meets its contract: a refusal of the keystream's start is passed up, and else a tag state is begun.
use mathlib.Core.Path.{ap}
use Rattle.std.proofs.lemmas.Result.{err_from_is_err_and}
use Rattle.standard.specs.States.{Stored}
use Rattle.standard.specs.Refusals.{tested}
use Rattle.mac.specs.Inner.{begun-128}
use Rattle.mac.proofs.Outcomes.{refused_as}
use Rattle.mac.proofs.begin_from.Goals as goal

pub returns-in_err-g : goal.returns-in_err-g
unfolding begun-128
returns-in_err-g c =
    let p = err_from_is_err_and c.from_residual.result c.from_residual.ensures.1 in
    rw (p.1, p.2, c.in_err-g.was) (refused_as _ _ _ _)

pub returns : goal.returns
unfolding begun-128 tested
returns c = rw c.in_ok-g.was (ap (λ (x : Stored). record { number = 0; state = record { held = x; count = 2 } }) c.start_128.ensures)

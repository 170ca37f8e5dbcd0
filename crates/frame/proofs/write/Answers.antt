-- `write`: refused by the tests' number with the frame as it came, or, past them, sealed.
use mathlib.Core.Path.{refl, ◌∙◌}
use native.Mathlib.Omega.{arith}
use borrow.Author.Tests.{eqb-false}
use Rattle.std.proofs.lemmas.Result.{err_from_is_err_and}
use Rattle.standard.specs.Refusals.{accepted}
use Rattle.refusals.proofs.Once.{refused-number}
use Rattle.frame.specs.Outcome.{fields_of, write_outcome, write_tests}
use Rattle.frame.proofs.Order.{answered, refused-by}
use Rattle.frame.proofs.Passed.{past-write, write-numbered}
use Rattle.frame.proofs.write.Goals as goal

pub returns-in_err-writable : goal.returns-in_err-writable
unfolding write_outcome
returns-in_err-writable c =
    let a = c.args in
    let p = err_from_is_err_and c.from_residual.result c.from_residual.ensures.1 in
    rw (p.1, p.2)
    (refused-by (write_tests a.ck.now a.ik.now (fields_of a.f) a.frame.now) _ _ _ c.in_err-writable.ensures (eqb-false _ _ (refused-number c.in_err-writable.field-0.0)))

pub seal-requires : goal.seal-requires
seal-requires c =
    let a = c.args in
    past-write a.ck.now a.ik.now (fields_of a.f) a.frame.now accepted c.in_ok-writable.ensures refl (omega (arith, c.well_formed.1.1.0))

pub returns : goal.returns
unfolding write_outcome
returns c =
    let a = c.args in
    (λ j. record { number = accepted; frame = c.seal.ensures j })
    ∙ answered (write_tests a.ck.now a.ik.now (fields_of a.f) a.frame.now) (write-numbered a.ck.now a.ik.now (fields_of a.f) a.frame.now) _ _
    accepted c.in_ok-writable.ensures refl

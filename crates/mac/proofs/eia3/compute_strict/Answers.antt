-- `mac::eia3::compute_strict` meets its contract: the tests of key and fields, and past them the plain one-shot, which then trims nothing.
use mathlib.Core.Path.{◌∙◌, sym}
use Rattle.standard.proofs.Fields.{bad-field, bad-key, field-passed}
use Rattle.mac.specs.Calls.{strict_once_outcome-EIA3}
use Rattle.mac.proofs.Strict.{once-form, strict-once-eia3}
use Rattle.mac.proofs.eia3.compute_strict.Goals as goal

pub returns-then-key-ne16 : goal.returns-then-key-ne16
unfolding strict_once_outcome-EIA3
returns-then-key-ne16 c =
    let a = c.args in
    bad-key (once-form a.count a.bearer a.direction a.key.now a.message.now a.l) c.if-key-ne16.true

pub returns-then-not-fields_fit : goal.returns-then-not-fields_fit
unfolding strict_once_outcome-EIA3
returns-then-not-fields_fit c =
    let a = c.args in
    bad-field (once-form a.count a.bearer a.direction a.key.now a.message.now a.l) c.if-key-ne16.false
    (sym c.if-not-fields_fit.ensures)

pub returns : goal.returns
returns c =
    let a = c.args in
    c.compute.ensures
    ∙ sym (strict-once-eia3 a.count a.bearer a.direction a.key.now a.message.now a.l
    (field-passed a.bearer a.direction (sym c.if-not-fields_fit.ensures)))

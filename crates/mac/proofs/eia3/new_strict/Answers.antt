-- `mac::eia3::new_strict` meets its contract: the tests of key and fields, and past them the plain start, which then trims nothing.
use mathlib.Core.Path.{◌∙◌, sym}
use Rattle.standard.proofs.Fields.{bad-field, bad-key, field-passed}
use Rattle.mac.specs.Calls.{strict_start_outcome-EIA3}
use Rattle.mac.proofs.Strict.{start-form, strict-eia3}
use Rattle.mac.proofs.eia3.new_strict.Goals as goal

pub returns-then-key-ne16 : goal.returns-then-key-ne16
unfolding strict_start_outcome-EIA3
returns-then-key-ne16 c =
    let a = c.args in
    bad-key (start-form a.count a.bearer a.direction a.key.now) c.if-key-ne16.true

pub returns-then-not-fields_fit : goal.returns-then-not-fields_fit
unfolding strict_start_outcome-EIA3
returns-then-not-fields_fit c =
    let a = c.args in
    bad-field (start-form a.count a.bearer a.direction a.key.now) c.if-key-ne16.false
    (sym c.if-not-fields_fit.ensures)

pub returns : goal.returns
returns c =
    let a = c.args in
    c.new.ensures
    ∙ sym (strict-eia3 a.count a.bearer a.direction a.key.now
    (field-passed a.bearer a.direction (sym c.if-not-fields_fit.ensures)))

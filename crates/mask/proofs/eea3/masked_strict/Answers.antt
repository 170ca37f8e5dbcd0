-- `masked_strict`: the tests of key and fields, and past them the plain form, which then trims nothing.
use mathlib.Core.Path.{◌∙◌, sym}
use Rattle.standard.proofs.Fields.{bad-field, bad-key, field-passed}
use Rattle.mask.specs.Once.{strict_tested}
use Rattle.mask.proofs.Once.{form, strict-mask}
use Rattle.mask.proofs.eea3.masked_strict.Goals as goal

pub returns-then-key-ne16 : goal.returns-then-key-ne16
unfolding strict_tested
returns-then-key-ne16 c =
    let a = c.args in
    bad-key (form a.count a.bearer a.direction a.key.now a.bits a.buf.now a.clean) c.if-key-ne16.true

pub returns-then-not-fields_fit : goal.returns-then-not-fields_fit
unfolding strict_tested
returns-then-not-fields_fit c =
    let a = c.args in
    bad-field (form a.count a.bearer a.direction a.key.now a.bits a.buf.now a.clean) c.if-key-ne16.false
    (sym c.if-not-fields_fit.ensures)

pub returns : goal.returns
returns c =
    let a = c.args in
    c.masked.ensures
    ∙ sym (strict-mask a.count a.bearer a.direction a.key.now a.bits a.buf.now a.clean
    (field-passed a.bearer a.direction (sym c.if-not-fields_fit.ensures)))

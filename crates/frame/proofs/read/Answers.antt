-- `read`: refused by the tests' number with the frame as it came and no fields, or, past them, unmasked.
use mathlib.Core.List.{List}
use mathlib.Core.Path.{◌≡◌, ap, ap₂, refl, sym, subst₂, ◌∙◌}
use Prim.Native.Nat.{ℕ, ◌-◌}
use native.Mathlib.Omega.{arith}
use lib.ListN.{length}
use borrow.Rule.Slice.PartMut.{put_mid}
use borrow.Author.Rules.{rules}
use borrow.Author.Tests.{eqb-false}
use Rattle.std.proofs.lemmas.Result.{err_from_is_err_and}
use Rattle.standard.specs.Refusals.{accepted}
use Rattle.standard.specs.Frame.{Fields, body_in, fields_in, masked_body, with_body}
use Rattle.refusals.proofs.Once.{refused-number}
use Rattle.frame.specs.Inner.{Sealable}
use Rattle.frame.specs.Outcome.{read_outcome, read_tests}
use Rattle.frame.proofs.Body.{lent-body}
use Rattle.frame.proofs.Order.{answered, refused-by}
use Rattle.frame.proofs.Passed.{openable, past-read, read-numbered}
use Rattle.frame.proofs.read.Goals as goal

laid-back : (frame : List ℕ) {x y : List ℕ} → x ≡ y → put_mid 13 (length frame - 4 - 13) frame x ≡ with_body frame y
laid-back frame e =
    let same : length frame - 4 - 13 ≡ length frame - 17 = omega arith in
    ap₂ (λ (k : ℕ) (z : List ℕ). put_mid 13 k frame z) same e

pub returns-in_err-fields : goal.returns-in_err-fields
unfolding read_outcome
returns-in_err-fields c =
    let a = c.args in
    let p = err_from_is_err_and c.from_residual.result c.from_residual.ensures.1 in
    rw (p.1, p.2)
    (refused-by (read_tests a.ck.now a.ik.now a.frame.now) _ _ _ c.in_err-fields.ensures.number (eqb-false _ _ (refused-number c.in_err-fields.field-0.0)))

pub overflow_sub-end : goal.overflow_sub-end
overflow_sub-end c =
    let a = c.args in search (rules, past-read a.ck.now a.ik.now a.frame.now accepted c.in_ok-fields.ensures.number refl)

pub slice_bounds-mask_body-count : goal.slice_bounds-mask_body-count
slice_bounds-mask_body-count c =
    let a = c.args in search (rules, past-read a.ck.now a.ik.now a.frame.now accepted c.in_ok-fields.ensures.number refl)

pub slice_bounds-mask_body-start : goal.slice_bounds-mask_body-start
slice_bounds-mask_body-start c =
    let a = c.args in search (rules, past-read a.ck.now a.ik.now a.frame.now accepted c.in_ok-fields.ensures.number refl)

pub mask_body-requires : goal.mask_body-requires
mask_body-requires c =
    let a = c.args in
    let told = c.in_ok-fields.ensures in
    subst₂ (Sealable a.ck.now) (sym told.fields.0) (sym (lent-body a.frame.now))
    (openable a.ck.now a.ik.now a.frame.now accepted told.number refl (omega (arith, told.fields.1, ap (λ (f : Fields). f.L) told.fields.0)))

pub returns : goal.returns
unfolding read_outcome
returns c =
    let a = c.args in
    let frame = a.frame.now in
    let told = c.in_ok-fields.ensures in
    let plain : c.mask_body.new.body ≡ masked_body a.ck.now (fields_in frame) (body_in frame) =
    c.mask_body.ensures ∙ ap₂ (masked_body a.ck.now) told.fields.0 (lent-body frame) in
    (λ j. record { number = accepted; fields = told.fields.0 j; frame = laid-back frame plain j })
    ∙ answered (read_tests a.ck.now a.ik.now frame) (read-numbered a.ck.now a.ik.now frame) _ _ accepted told.number refl

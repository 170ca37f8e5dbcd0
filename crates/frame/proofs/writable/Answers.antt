-- `writable`: the first test that fails is the answer; the limit's passes, since a bit length has 32 bits.
use mathlib.Core.Bool.{true, false}
use mathlib.Core.Path.{◌≡◌, refl, sym, ap, ◌∙◌}
use mathlib.Core.List.{List, [], ◌∷◌}
use Prim.Native.Nat.{ℕ, ◌+◌, ◌≤◌}
use native.Mathlib.Omega.{arith}
use lib.ListN.{length}
use borrow.Author.Tests.{eq-eqb, le-leb, lt-leb, ne_eqb}
use Rattle.standard.specs.Frame.{Fields, body_fits, body_in}
use Rattle.standard.specs.Integrity.{drawn_by_tag-EIA3}
use Rattle.standard.specs.Refusals.{accepted, field_test, tested}
use Rattle.standard.specs.States.{limit}
use Rattle.frame.specs.Outcome.{body_test, draw_test, fields_of, range_test, write_tests}
use Rattle.frame.proofs.Body.{lent-body}
use Rattle.frame.proofs.writable.Goals as goal

-- past the tests of keys and length, what is left decides
lent : (CK IK : List ℕ) (f : Fields) (frame : List ℕ) → length CK ≡ 16 → length IK ≡ 16 → 17 ≤ length frame → length frame ≤ 65538 → {n : ℕ}
    → n ≡ tested (range_test f ∷ body_test f frame ∷ draw_test f ∷ []) (λ k. k) accepted → n ≡ tested (write_tests CK IK f frame) (λ k. k) accepted
unfolding tested
lent CK IK f frame c i l m e =
    rw (eq-eqb (length CK) 16 c, eq-eqb (length IK) 16 i, le-leb 17 (length frame) l, le-leb (length frame) 65538 m) e

pub returns-then-ck-ne16 : goal.returns-then-ck-ne16
unfolding tested
returns-then-ck-ne16 c = rw (ne_eqb (length c.args.ck.now) 16 c.if-ck-ne16.true) refl

pub returns-then-ik-ne16 : goal.returns-then-ik-ne16
unfolding tested
returns-then-ik-ne16 c =
    rw (eq-eqb (length c.args.ck.now) 16 (omega arith), ne_eqb (length c.args.ik.now) 16 c.if-ik-ne16.true) refl

pub returns-then-n-lt17 : goal.returns-then-n-lt17
unfolding tested
returns-then-n-lt17 c =
    rw (eq-eqb (length c.args.ck.now) 16 (omega arith), eq-eqb (length c.args.ik.now) 16 (omega arith), lt-leb 17 (length c.args.frame.now) (omega arith)) refl

pub returns-then-n-gt65538 : goal.returns-then-n-gt65538
unfolding tested
returns-then-n-gt65538 c =
    rw (eq-eqb (length c.args.ck.now) 16 (omega arith), eq-eqb (length c.args.ik.now) 16 (omega arith), le-leb 17 (length c.args.frame.now) (omega arith), lt-leb (length c.args.frame.now) 65538 (omega arith)) refl

pub returns-then-not-fields_fit : goal.returns-then-not-fields_fit
unfolding tested
returns-then-not-fields_fit c =
    let a = c.args in
    let no : (field_test a.f.bearer a.f.direction).passes ≡ false = sym c.if-not-fields_fit.ensures in
    lent c.args.ck.now c.args.ik.now (fields_of c.args.f) c.args.frame.now (omega arith) (omega arith) (omega arith) (omega arith) (rw no refl)

pub returns-then-not-body_fits : goal.returns-then-not-body_fits
unfolding tested
returns-then-not-body_fits c =
    let fields : (field_test c.args.f.bearer c.args.f.direction).passes ≡ true =
    sym c.if-not-fields_fit.ensures in
    let a = c.args in
    let no : body_fits a.f.bits (body_in a.frame.now) ≡ false =
    ap (body_fits a.f.bits) (sym (lent-body a.frame.now)) ∙ sym c.if-not-body_fits.ensures in
    lent c.args.ck.now c.args.ik.now (fields_of c.args.f) c.args.frame.now (omega arith) (omega arith) (omega arith) (omega arith)
    (rw (fields, no) refl)

pub returns : goal.returns
unfolding tested
returns c =
    let fields : (field_test c.args.f.bearer c.args.f.direction).passes ≡ true =
    sym c.if-not-fields_fit.ensures in
    let a = c.args in
    let yes : body_fits a.f.bits (body_in a.frame.now) ≡ true =
    ap (body_fits a.f.bits) (sym (lent-body a.frame.now)) ∙ sym c.if-not-body_fits.ensures in
    lent c.args.ck.now c.args.ik.now (fields_of c.args.f) c.args.frame.now (omega arith) (omega arith) (omega arith) (omega arith)
    (rw (fields, yes, le-leb (0 + drawn_by_tag-EIA3 a.f.bits) limit (omega (arith, c.well_formed.1.1.0))) refl)

-- `readable`: the first test that fails is the answer; the limit's passes, since a bit length has 32 bits.
use mathlib.Core.Bool.{true, false}
use mathlib.Core.Path.{◌≡◌, refl, sym, ap, ap₂, ◌∙◌}
use mathlib.Core.List.{List, [], ◌∷◌}
use Prim.Native.Nat.{ℕ, ◌+◌, ◌-◌, ◌^◌, ◌<◌, ◌≤◌}
use native.Mathlib.Omega.{arith}
use lib.Dec.{eqb, leb}
use lib.ListN.{length}
use borrow.Author.Tests.{eq-eqb, le-leb, lt-leb, ne_eqb}
use Rattle.standard.specs.Frame.{Fields, body_fits, body_in, fields_in, tag_in, tag_over, two_at}
use Rattle.standard.specs.Integrity.{drawn_by_tag-EIA3}
use Rattle.standard.specs.Notation.{◌⟨◌⟩}
use Rattle.standard.specs.Refusals.{accepted, field_test, tested}
use Rattle.standard.specs.States.{limit}
use Rattle.frame.specs.Outcome.{body_test, draw_test, fields_of, range_test, read_tests, tag_test}
use Rattle.frame.proofs.Body.{lent-body}
use Rattle.frame.proofs.Passed.{sealable}
use Rattle.frame.proofs.readable.Goals as goal

-- past the tests of keys, version and length, what is left decides
opened : (CK IK frame : List ℕ) → length CK ≡ 16 → length IK ≡ 16 → 17 ≤ length frame → frame ⟨ 0 ⟩ ≡ 1 → two_at frame 1 ≡ length frame - 3 → {n : ℕ}
    → n ≡ tested (range_test (fields_in frame) ∷ body_test (fields_in frame) frame ∷ draw_test (fields_in frame) ∷ tag_test IK frame ∷ []) (λ k. k) accepted
    → n ≡ tested (read_tests CK IK frame) (λ k. k) accepted
unfolding tested
opened CK IK frame c i l v t e =
    rw (
      eq-eqb (length CK) 16 c,
      eq-eqb (length IK) 16 i,
      le-leb 17 (length frame) l,
      eq-eqb (frame ⟨ 0 ⟩) 1 v,
      eq-eqb (two_at frame 1) (length frame - 3) t,
    ) e

-- the tests before the tag's
abbrev Passed : List ℕ → Type 0
Passed frame =
    ((field_test (fields_in frame).bearer (fields_in frame).direction).passes ≡ true)
    × (body_fits (fields_in frame).L (body_in frame) ≡ true)
    × (leb (0 + drawn_by_tag-EIA3 (fields_in frame).L) limit ≡ true)

-- pass, where they pass of the fields and the body that the code has; the limit's, since a bit length has 32 bits
passed : (frame : List ℕ) {f : Fields} {body : List ℕ} → f ≡ fields_in frame → body ≡ body_in frame
    → (field_test f.bearer f.direction).passes ≡ true → body_fits f.L body ≡ true → f.L < 2 ^ 32 → Passed frame
passed frame e b fields body low = (
  ap (λ (x : Fields). (field_test x.bearer x.direction).passes) (sym e) ∙ fields,
  ap₂ body_fits (ap (λ (x : Fields). x.L) (sym e)) (sym b) ∙ body,
  le-leb (0 + drawn_by_tag-EIA3 (fields_in frame).L) limit (omega (arith, ap (λ (x : Fields). x.L) e, low)),
)

pub returns-then-ck-ne16-clause-number : goal.returns-then-ck-ne16-clause-number
unfolding tested
returns-then-ck-ne16-clause-number c = rw (ne_eqb (length c.args.ck.now) 16 c.if-ck-ne16.true) refl

pub returns-then-ik-ne16-clause-number : goal.returns-then-ik-ne16-clause-number
unfolding tested
returns-then-ik-ne16-clause-number c =
    rw (eq-eqb (length c.args.ck.now) 16 (omega arith), ne_eqb (length c.args.ik.now) 16 c.if-ik-ne16.true) refl

pub returns-then-n-lt17-clause-number : goal.returns-then-n-lt17-clause-number
unfolding tested
returns-then-n-lt17-clause-number c =
    rw (eq-eqb (length c.args.ck.now) 16 (omega arith), eq-eqb (length c.args.ik.now) 16 (omega arith), lt-leb 17 (length c.args.frame.now) (omega arith)) refl

pub returns-then-frame-ne1-clause-number : goal.returns-then-frame-ne1-clause-number
unfolding tested
returns-then-frame-ne1-clause-number c =
    rw (eq-eqb (length c.args.ck.now) 16 (omega arith), eq-eqb (length c.args.ik.now) 16 (omega arith), le-leb 17 (length c.args.frame.now) (omega arith), ne_eqb (c.args.frame.now ⟨ 0 ⟩) 1 c.if-frame-ne1.true) refl

pub returns-then-two_at-n-clause-number : goal.returns-then-two_at-n-clause-number
unfolding tested
returns-then-two_at-n-clause-number c =
    let frame = c.args.frame.now in
    rw (eq-eqb (length c.args.ck.now) 16 (omega arith), eq-eqb (length c.args.ik.now) 16 (omega arith), le-leb 17 (length c.args.frame.now) (omega arith), eq-eqb (c.args.frame.now ⟨ 0 ⟩) 1 (omega arith), ne_eqb (two_at frame 1) (length frame - 3) (λ e. c.if-two_at-n.true (c.two_at.ensures ∙ e))) refl

pub returns-then-not-fields_fit-clause-number : goal.returns-then-not-fields_fit-clause-number
unfolding tested
returns-then-not-fields_fit-clause-number c =
    let f = fields_in c.args.frame.now in
    let no : (field_test f.bearer f.direction).passes ≡ false =
    ap (λ (x : Fields). (field_test x.bearer x.direction).passes) (sym c.fields_in-f.ensures)
    ∙ sym c.if-not-fields_fit.ensures in
    opened c.args.ck.now c.args.ik.now c.args.frame.now (omega arith) (omega arith) (omega arith) (omega arith) (omega arith) (rw no refl)

pub returns-then-not-body_fits-clause-number : goal.returns-then-not-body_fits-clause-number
unfolding tested
returns-then-not-body_fits-clause-number c =
    let fields : (field_test (fields_in c.args.frame.now).bearer (fields_in c.args.frame.now).direction).passes ≡ true =
    ap (λ (f : Fields). (field_test f.bearer f.direction).passes) (sym c.fields_in-f.ensures)
    ∙ sym c.if-not-fields_fit.ensures in
    let frame = c.args.frame.now in
    let no : body_fits (fields_in frame).L (body_in frame) ≡ false =
    ap₂ body_fits (ap (λ (x : Fields). x.L) (sym c.fields_in-f.ensures)) (sym (lent-body frame))
    ∙ sym c.if-not-body_fits.ensures in
    opened c.args.ck.now c.args.ik.now c.args.frame.now (omega arith) (omega arith) (omega arith) (omega arith) (omega arith)
    (rw (fields, no) refl)

pub tag_over-requires : goal.tag_over-requires
tag_over-requires c =
    let f = c.fields_in-f in
    sealable c.args.ik.now (fields_of f.result) _ (omega arith)
    (sym c.if-not-fields_fit.ensures)
    (sym c.if-not-body_fits.ensures)
    (omega (arith, f.type_inv))

pub returns-then-four_at-tag_over-clause-number : goal.returns-then-four_at-tag_over-clause-number
unfolding tested
returns-then-four_at-tag_over-clause-number c =
    let frame = c.args.frame.now in
    let p = passed frame c.fields_in-f.ensures (lent-body frame) (sym c.if-not-fields_fit.ensures) (sym c.if-not-body_fits.ensures) (omega (arith, c.fields_in-f.type_inv)) in
    let tag = tag_over c.args.ik.now (fields_in frame) (body_in frame) in
    let told : c.tag_over.result ≡ tag = c.tag_over.ensures ∙ ap₂ (tag_over c.args.ik.now) c.fields_in-f.ensures (lent-body frame) in
    let no : eqb (tag_in frame) tag ≡ false =
    ne_eqb (tag_in frame) tag (λ e. c.if-four_at-tag_over.true (c.four_at.ensures ∙ e ∙ sym told)) in
    opened c.args.ck.now c.args.ik.now frame (omega arith) (omega arith) (omega arith) (omega arith) (omega arith) (rw (p.0, p.1, p.2, no) refl)

pub returns-clause-number : goal.returns-clause-number
unfolding tested
returns-clause-number c =
    let frame = c.args.frame.now in
    let p = passed frame c.fields_in-f.ensures (lent-body frame) (sym c.if-not-fields_fit.ensures) (sym c.if-not-body_fits.ensures) (omega (arith, c.fields_in-f.type_inv)) in
    let tag = tag_over c.args.ik.now (fields_in frame) (body_in frame) in
    let told : c.tag_over.result ≡ tag = c.tag_over.ensures ∙ ap₂ (tag_over c.args.ik.now) c.fields_in-f.ensures (lent-body frame) in
    let yes : eqb (tag_in frame) tag ≡ true =
    eq-eqb (tag_in frame) tag (sym c.four_at.ensures ∙ c.if-four_at-tag_over.false ∙ told) in
    opened c.args.ck.now c.args.ik.now frame (omega arith) (omega arith) (omega arith) (omega arith) (omega arith) (rw (p.0, p.1, p.2, yes) refl)

-- `mac::zuc128::compute` meets its contract: each refusal by its test, and else the standard's tag over the keystream of what was loaded.
use mathlib.Core.Path.{refl, sym, ap, ◌∙◌, subst}
use Prim.Native.Nat.{ℕ, ◌+◌, ◌*◌}
use lib.Dec.{leb}
use lib.ListN.{length}
use borrow.Author.Tests.{eq-eqb, leb-true, ne_eqb}
use Rattle.standard.specs.Generator.{State, started}
use Rattle.standard.specs.Loading.{load₁₂₈}
use Rattle.standard.specs.Refusals.{tested}
use Rattle.standard.specs.States.{from_zero, limit}
use Rattle.standard.proofs.Cells.{Cells}
use Rattle.zuc_loading.proofs.Loaded.{cells-128}
use Rattle.mac_registers.specs.Tagging.{begun-EIA3, closed-EIA3}
use Rattle.mac.specs.Calls.{once_outcome-128}
use Rattle.mac.proofs.Outcomes.{once-EIA3}
use Rattle.mac.proofs.zuc128.compute.Goals as goal

pub returns-then-key-ne16 : goal.returns-then-key-ne16
unfolding once_outcome-128 tested
returns-then-key-ne16 c = rw (ne_eqb (length c.args.key.now) 16 c.if-key-ne16.true) refl

pub returns-then-iv-ne16 : goal.returns-then-iv-ne16
unfolding once_outcome-128 tested
returns-then-iv-ne16 c =
    let a = c.args in
    rw (eq-eqb (length a.key.now) 16 c.if-key-ne16.false, ne_eqb (length a.iv.now) 16 c.if-iv-ne16.true) refl

pub returns-then-not-bits_fit : goal.returns-then-not-bits_fit
unfolding once_outcome-128 tested
returns-then-not-bits_fit c =
    let a = c.args in
    rw (eq-eqb (length a.key.now) 16 c.if-key-ne16.false, eq-eqb (length a.iv.now) 16 c.if-iv-ne16.false, sym c.if-not-bits_fit.ensures) refl

pub returns-then-not-has_left : goal.returns-then-not-has_left
unfolding once_outcome-128 tested
returns-then-not-has_left c =
    let a = c.args in
    rw (
      eq-eqb (length a.key.now) 16 c.if-key-ne16.false,
      eq-eqb (length a.iv.now) 16 c.if-iv-ne16.false,
      sym c.if-not-bits_fit.ensures,
      sym (c.if-not-has_left.ensures ∙ ap (λ (n : ℕ). leb (0 + n) limit) c.by_tag_128.ensures),
    )
    refl

pub once_128-requires : goal.once_128-requires
once_128-requires c =
    let a = c.args in
    record { cells = subst (λ (σ : State). Cells σ.cells) (sym c.load.ensures) (cells-128 _ _ (λ i. (c.shared_slice_known-1.given i).fits) (λ i. (c.shared_slice_known-2-1.given i).fits)); bits_fit = leb-true a.l (length a.message.now * 8) (sym c.if-not-bits_fit.ensures) }

pub returns : goal.returns
unfolding once_outcome-128 tested
returns c =
    let a = c.args in
    let m = a.message.now in
    rw (
      eq-eqb (length a.key.now) 16 c.if-key-ne16.false,
      eq-eqb (length a.iv.now) 16 c.if-iv-ne16.false,
      sym c.if-not-bits_fit.ensures,
      sym (c.if-not-has_left.ensures ∙ ap (λ (n : ℕ). leb (0 + n) limit) c.by_tag_128.ensures),
    )
    (ap (λ (x : ℕ). record { number = 0; tag = x })
    (c.once_128.ensures
    ∙ ap (λ (σ : State). closed-EIA3 (begun-EIA3 (from_zero (started σ))) m a.l) c.load.ensures
    ∙ once-EIA3 (load₁₂₈ a.key.now a.iv.now) m a.l (leb-true a.l (length m * 8) (sym c.if-not-bits_fit.ensures))))

-- `mac::zuc256::compute` meets its contract: a refusal of the keystream's start is passed up; else the tests, and the standard's tag.
use mathlib.Core.List.{List}
use mathlib.Core.Path.{◌≡◌, refl, sym, ap, ◌∙◌, subst}
use Prim.Native.Nat.{ℕ, ◌+◌}
use lib.Dec.{leb}
use Rattle.std.proofs.lemmas.Result.{err_from_is_err_and}
use Rattle.standard.specs.States.{limit}
use Rattle.keystream.specs.Starts.{StartOutcome, start_tag₂₅₆}
use Rattle.standard.specs.Refusals.{tested}
use Rattle.mac.specs.Inner.{Live, once-from-256}
use Rattle.mac.specs.Calls.{once_outcome-256}
use Rattle.mac.proofs.Accepted.{accepted-width, live-256}
use Rattle.mac.proofs.Outcomes.{once-256-is, refused_as}
use Rattle.mac.proofs.zuc256.compute.Goals as goal

-- what the start tells, gone on with, is the one-shot's outcome
told : (width : ℕ) (key iv message : List ℕ) (l : ℕ) {o : StartOutcome} → o ≡ start_tag₂₅₆ width key iv
    → once-from-256 width o message l ≡ once_outcome-256 width key iv message l
told width key iv message l e = ap (λ (s : StartOutcome). once-from-256 width s message l) e ∙ once-256-is key iv width message l

pub returns-in_err-g : goal.returns-in_err-g
unfolding once-from-256
returns-in_err-g c =
    let a = c.args in
    let p = err_from_is_err_and c.from_residual.result c.from_residual.ensures.1 in
    rw (p.1, p.2) (refused_as _ _ _ _ ∙ told a.width a.key.now a.iv.now a.message.now a.l c.in_err-g.ensures)

pub returns-then-not-bits_fit : goal.returns-then-not-bits_fit
unfolding once-from-256 tested
returns-then-not-bits_fit c =
    let a = c.args in
    sym (rw (sym c.if-not-bits_fit.ensures) refl) ∙ told a.width a.key.now a.iv.now a.message.now a.l c.in_ok-g.ensures

pub by_tag_256-requires : goal.by_tag_256-requires
by_tag_256-requires c =
    let a = c.args in
    accepted-width a.width a.key.now a.iv.now (ap (λ (o : StartOutcome). o.number) (sym c.in_ok-g.ensures))

pub returns-then-not-has_left : goal.returns-then-not-has_left
unfolding once-from-256 tested
returns-then-not-has_left c =
    let a = c.args in
    let left = c.if-not-has_left.ensures ∙ ap (λ (n : ℕ). leb (0 + n) limit) c.by_tag_256.ensures in
    sym (rw (sym c.if-not-bits_fit.ensures, sym left) refl) ∙ told a.width a.key.now a.iv.now a.message.now a.l c.in_ok-g.ensures

pub once_256-requires-clause-width_fits : goal.once_256-requires-clause-width_fits
once_256-requires-clause-width_fits c =
    let a = c.args in
    accepted-width a.width a.key.now a.iv.now (ap (λ (o : StartOutcome). o.number) (sym c.in_ok-g.ensures))

pub once_256-requires-clause-ready : goal.once_256-requires-clause-ready
once_256-requires-clause-ready c =
    let a = c.args in
    subst Live (sym c.in_ok-g.ensures)
    (live-256 a.width a.key.now a.iv.now (λ i. (c.shared_slice_known-1.given i).fits) (λ i. (c.shared_slice_known-2-1.given i).fits)) refl

pub returns : goal.returns
unfolding once-from-256 tested
returns c =
    let a = c.args in
    let left = c.if-not-has_left.ensures ∙ ap (λ (n : ℕ). leb (0 + n) limit) c.by_tag_256.ensures in
    sym (rw (sym c.if-not-bits_fit.ensures, sym left) (ap (λ (x : List ℕ). record { number = 0; tag = x }) (sym c.once_256.ensures)))
    ∙ told a.width a.key.now a.iv.now a.message.now a.l c.in_ok-g.ensures

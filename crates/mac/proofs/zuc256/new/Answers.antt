-- `mac::zuc256::new` meets its contract: a refusal of the keystream's start is passed up; else a tag state of the width.
use mathlib.Core.Path.{refl, sym, ap, ap₂, ◌∙◌, subst}
use Prim.Native.Nat.{ℕ}
use Rattle.std.proofs.lemmas.Result.{err_from_is_err_and}
use Rattle.keystream.specs.Starts.{StartOutcome}
use Rattle.standard.specs.Refusals.{tested}
use Rattle.standard.specs.States.{Stored}
use Rattle.mac.specs.Inner.{Live, begun-256}
use Rattle.mac.proofs.Accepted.{accepted-width, live-256}
use Rattle.mac.proofs.Outcomes.{begun-256-is, begun-words, refused_as}
use Rattle.mac.proofs.zuc256.new.Goals as goal

pub returns-in_err-g : goal.returns-in_err-g
unfolding begun-256
returns-in_err-g c =
    let a = c.args in
    let p = err_from_is_err_and c.from_residual.result c.from_residual.ensures.1 in
    rw (p.1, p.2) (refused_as _ _ _ _ ∙ ap (begun-256 a.width) c.in_err-g.ensures ∙ begun-256-is a.key.now a.iv.now a.width)

pub start_256-requires-clause-width_fits : goal.start_256-requires-clause-width_fits
start_256-requires-clause-width_fits c =
    let a = c.args in
    accepted-width a.width a.key.now a.iv.now (ap (λ (o : StartOutcome). o.number) (sym c.in_ok-g.ensures))

pub start_256-requires-clause-ready : goal.start_256-requires-clause-ready
start_256-requires-clause-ready c =
    let a = c.args in
    subst Live (sym c.in_ok-g.ensures)
    (live-256 a.width a.key.now a.iv.now (λ i. (c.shared_slice_known-1.given i).fits) (λ i. (c.shared_slice_known-2-1.given i).fits)) refl

pub returns : goal.returns
unfolding begun-256 tested
returns c =
    let a = c.args in
    let width = accepted-width a.width a.key.now a.iv.now (ap (λ (o : StartOutcome). o.number) (sym c.in_ok-g.ensures)) in
    ap₂ (λ (x : Stored) (k : ℕ). record { number = 0; state = record { held = x; count = k } }) c.start_256.ensures (begun-words width)
    ∙ ap (begun-256 a.width) c.in_ok-g.ensures
    ∙ begun-256-is a.key.now a.iv.now a.width

-- `mac::zuc128::new` meets its contract: the keystream's start, and a tag state from it.
use mathlib.Core.Path.{◌∙◌, ap, subst, sym}
use Rattle.mac.specs.Inner.{Live, begun-128}
use Rattle.mac.proofs.Accepted.{live-128}
use Rattle.mac.proofs.Outcomes.{begun-128-is}
use Rattle.mac.proofs.zuc128.new.Goals as goal

pub begin_from-requires : goal.begin_from-requires
begin_from-requires c =
    let a = c.args in
    subst Live (sym c.new.ensures)
    (live-128 a.key.now a.iv.now (λ i. (c.shared_slice_known-1.given i).fits) (λ i. (c.shared_slice_known-2-1.given i).fits))

pub returns : goal.returns
returns c =
    let a = c.args in
    c.begin_from.ensures ∙ ap begun-128 c.new.ensures ∙ begun-128-is a.key.now a.iv.now

-- `mac::eia3::new` meets its contract: the ZUC-128 start with EIA3's IV.
use mathlib.Core.Path.{◌∙◌, ap, subst, sym}
use Prim.Native.Nat.{ℕ}
use borrow.Author.Rules.{rules}
use mir.Syntax.{w8}
use mir.Val.{Fits}
use Rattle.standard.specs.Notation.{◌⟨◌⟩}
use Rattle.keystream.specs.Starts.{start₁₂₈}
use Rattle.standard.specs.Integrity.{IV-EIA3}
use Rattle.mac.specs.Inner.{Live, begun-128}
use Rattle.mac.proofs.Accepted.{live-128}
use Rattle.mac.proofs.Outcomes.{begun-128-is, begun-EIA3-is}
use Rattle.mac.proofs.eia3.new.Goals as goal

pub begin_from-requires : goal.begin_from-requires
begin_from-requires c =
    let iv-bytes : (i : ℕ) → Fits w8 (c.iv-v.result ⟨ i ⟩) =
    λ i. search rules in
    subst Live (sym c.new.ensures)
    (live-128 c.args.key.now c.iv-v.result (λ i. (c.shared_slice_known-1.given i).fits) (λ i. (iv-bytes i).fits))

pub returns : goal.returns
returns c =
    let a = c.args in
    c.begin_from.ensures ∙ ap begun-128 (c.new.ensures ∙ ap (start₁₂₈ a.key.now) c.iv-v.ensures)
    ∙ begun-128-is a.key.now (IV-EIA3 a.count a.bearer a.direction)
    ∙ begun-EIA3-is a.count a.bearer a.direction a.key.now

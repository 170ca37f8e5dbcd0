-- `zuc_mask_crate` puts the mask from the state in the array.
use mathlib.Core.Path.{◌∙◌, ap}
use Rattle.capi.proofs.Indices.{mask_fits}
use Rattle.capi.specs.Generators.{mask_array}
use Rattle.mask.specs.Outcome.{crate_outcome}
use Rattle.standard.specs.States.{Counted, Held}
use Rattle.capi.proofs.generators.zuc_mask_crate.Goals as goal

pub put_mask-requires : goal.put_mask-requires
put_mask-requires c =
    mask_fits _ c.state_in-g.ensures.small _ _ _ _ c.mask_crate-answer.ensures

pub returns : goal.returns
returns c =
    let a = c.args in
    c.put_mask.ensures _
    ∙ ap mask_array (c.mask_crate-answer.ensures ∙ ap (λ (h : Counted Held). crate_outcome h a.bits a.buf.now) c.state_in-g.ensures.is)

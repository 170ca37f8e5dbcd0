-- `mask_standing`: enough bytes are masked, then what lies past the kept bits is cleared: as if all were masked.
use lib.Seq.{length-take-le}
use mathlib.Core.Path.{◌∙◌, sym}
use Rattle.mask.proofs.Clear.{clear-masked}
use Rattle.mask.proofs.mask_standing.Goals as goal

pub slice_bounds-mask_on-end-2 : goal.slice_bounds-mask_on-end-2
slice_bounds-mask_on-end-2 c = sym (length-take-le _ _ c.requires.enough.inside)

pub returns : goal.returns
returns c =
    let e = c.requires.enough in
    record { state = c.mask_on-h.ensures.state; bytes = c.keep_bits.ensures ∙ clear-masked _ c.args.buf.now _ c.args.reach.to _ (λ i. (c.slice_known-1.given i).fits) e.inside e.reached c.mask_on-h.ensures.bytes }

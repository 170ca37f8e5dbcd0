-- `eea3_mask_crate` puts the answer of the call.
use mathlib.Core.Path.{◌∙◌}
use Rattle.capi.proofs.eea3.eea3_mask_crate.Goals as goal

pub returns : goal.returns
returns c = c.put_once.ensures _ ∙ c.mask_crate-answer.ensures

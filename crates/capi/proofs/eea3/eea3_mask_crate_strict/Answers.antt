-- `eea3_mask_crate_strict` puts the answer of the call.
use mathlib.Core.Path.{◌∙◌}
use Rattle.capi.proofs.eea3.eea3_mask_crate_strict.Goals as goal

pub returns : goal.returns
returns c = c.put_once.ensures _ ∙ c.mask_crate_strict-answer.ensures

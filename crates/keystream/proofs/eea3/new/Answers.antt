-- `new` is the EEA3 start: the ZUC-128 start with EEA3's IV, which is never refused for its length.
use mathlib.Core.Path.{◌∙◌, ap}
use Rattle.keystream.specs.Starts.{start-EEA3, start₁₂₈}
use Rattle.standard.specs.Confidentiality.{IV-EEA3}
use Rattle.standard.specs.Refusals.{tested}
use Rattle.keystream.proofs.eea3.new.Goals as goal

pub returns : goal.returns
unfolding start-EEA3 start₁₂₈ tested IV-EEA3
returns c = c.new.ensures ∙ ap (start₁₂₈ c.args.key.now) c.iv-v.ensures

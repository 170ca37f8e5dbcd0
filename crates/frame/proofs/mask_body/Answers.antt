-- `mask_body`: EEA3's strict clean mask refuses nothing here, and its buffer is the standard's.
use mathlib.Core.Path.{ap, ◌∙◌}
use Rattle.mask.specs.Once.{Once}
use Rattle.frame.specs.Outcome.{fields_of}
use Rattle.frame.proofs.Sealed.{masked-is}
use Rattle.frame.proofs.mask_body.Goals as goal

pub returns : goal.returns
returns c =
    ap (λ (x : Once). x.buffer) (c.mask_clean_strict.ensures ∙ masked-is c.args.ck.now (fields_of c.args.f) c.args.body.now c.requires)

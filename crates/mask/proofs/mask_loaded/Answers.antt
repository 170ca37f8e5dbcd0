-- `mask_loaded`: the run stands for what start-up makes of the cells.
use mathlib.Core.Path.{◌∙◌, ap}
use Rattle.standard.specs.Confidentiality.{mask_clean}
use Rattle.standard.specs.Generator.{State, word_at}
use Rattle.mask.specs.Inner.{end_of}
use Rattle.mask.proofs.mask_loaded.Goals as goal

pub returns : goal.returns
returns c =
    let a = c.args in
    c.mask_standing.ensures.bytes ∙ ap (λ (σ : State). mask_clean (word_at σ) (end_of a.bits a.reach) a.buf.now) c.begin-laid.ensures.state

-- `mask_held`: the run stands for the state that the words are drawn from, and after the mask for the state after them.
use mathlib.Core.Path.{◌∙◌, ap}
use Rattle.standard.proofs.Held.{moved-is}
use Rattle.standard.specs.Confidentiality.{mask_clean}
use Rattle.standard.specs.Generator.{State, after, word_at}
use Rattle.zuc.specs.Reading.{held_of}
use Rattle.mask.specs.Inner.{end_of}
use Rattle.mask.proofs.mask_held.Goals as goal

pub returns : goal.returns
returns c =
    let a = c.args in
    let same = c.lay_state-laid.ensures.state in
    record {
      state = c.state_of.ensures ∙ moved-is a.reach.drawn (held_of a.z) c.requires.ready.start (c.mask_standing-h.ensures.state.state ∙ ap (after a.reach.drawn) same) c.index_after.ensures;
      bytes = c.mask_standing-h.ensures.bytes ∙ ap (λ (σ : State). mask_clean (word_at σ) (end_of a.bits a.reach) a.buf.now) same;
    }

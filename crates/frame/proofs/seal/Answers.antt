-- `seal`: body, tag and head are laid one after the other.
use mathlib.Core.Path.{ap, ◌∙◌}
use Rattle.standard.specs.Bits.{bytes_of}
use Rattle.frame.specs.Outcome.{fields_of}
use Rattle.frame.proofs.Laid.{sealed-is}
use Rattle.words.proofs.Bytes.{be-bytes}
use Rattle.frame.proofs.seal.Goals as goal

pub returns : goal.returns
returns c =
    let a = c.args in
    sealed-is a.frame.now c.requires.long a.ck.now a.ik.now (fields_of a.f) _ _ _
    (c.copy_from_slice-2.ensures.after ∙ c.head.ensures)
    c.mask_body.ensures
    (c.copy_from_slice.ensures.after ∙ c.to_be_bytes.ensures ∙ be-bytes _ ∙ ap bytes_of c.tag_over-tag.ensures)

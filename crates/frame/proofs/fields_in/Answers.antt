-- `fields_in`: each field is read where it stands.
use Rattle.standard.specs.Notation.{◌⟨◌⟩}
use Rattle.frame.proofs.fields_in.Goals as goal

pub returns : goal.returns
returns c =
    let frame = c.args.frame.now in
    λ i. record { COUNT = c.four_at-count.ensures i; bearer = frame ⟨ 7 ⟩; direction = frame ⟨ 8 ⟩; L = c.four_at-bits.ensures i }

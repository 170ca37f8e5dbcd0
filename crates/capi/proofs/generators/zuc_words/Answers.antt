-- `zuc_words` puts the fill from the state in the array.
use Rattle.capi.proofs.Indices.{fill-fits}
use Rattle.capi.proofs.generators.zuc_words.Goals as goal

pub array_of-requires : goal.array_of-requires
array_of-requires c = fill-fits _ c.state_in-g.ensures.small _ c.fill-answer.ensures

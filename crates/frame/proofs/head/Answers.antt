-- `head`: the standard's bytes before a body, byte by byte.
use borrow.Author.Rules.{rules}
use Rattle.standard.specs.Bits.{byte_of}
use Rattle.standard.specs.Frame.{head_of}
use Rattle.frame.proofs.head.Goals as goal

pub returns : goal.returns
unfolding head_of byte_of
returns c = search rules

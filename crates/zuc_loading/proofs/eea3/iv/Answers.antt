-- `iv` is EEA3's IV, byte by byte.
use borrow.Author.Rules.{rules}
use Rattle.standard.specs.Bits.{byte_of}
use Rattle.standard.specs.Confidentiality.{IV-EEA3}
use Rattle.zuc_loading.proofs.eea3.iv.Goals as goal

pub returns : goal.returns
unfolding IV-EEA3 byte_of
returns c = search rules

-- `mac::eia3::iv` meets its contract: EIA3's IV, byte by byte.
use borrow.Author.Rules.{rules}
use Rattle.standard.specs.Bits.{byte_of}
use Rattle.standard.specs.Integrity.{IV-EIA3}
use Rattle.mac.proofs.eia3.iv.Goals as goal

pub returns : goal.returns
unfolding IV-EIA3 byte_of
returns c = search rules

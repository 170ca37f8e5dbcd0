-- `zuc128_start` puts the keystream's start.
use lib.Dec.{lit<}
use Rattle.capi.proofs.Indices.{start_fits, start_small}
use Rattle.keystream.specs.Starts.{start₁₂₈}
use Rattle.capi.proofs.generators.zuc128_start.Goals as goal

pub put_start-requires : goal.put_start-requires
unfolding start₁₂₈
put_start-requires c = start_small _ (start_fits _ (lit< tt, (lit< tt, tt)) _ c.new.ensures)

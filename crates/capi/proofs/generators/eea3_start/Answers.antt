-- `eea3_start` puts the keystream's start.
use lib.Dec.{lit<}
use Rattle.capi.proofs.Indices.{start_fits, start_small}
use Rattle.keystream.specs.Starts.{start-EEA3}
use Rattle.capi.proofs.generators.eea3_start.Goals as goal

pub put_start-requires : goal.put_start-requires
unfolding start-EEA3
put_start-requires c = start_small _ (start_fits _ (lit< tt, tt) _ c.new.ensures)

-- `eea3_start_strict` puts the keystream's strict start.
use lib.Dec.{lit<}
use Rattle.capi.proofs.Indices.{start_fits, start_small}
use Rattle.keystream.specs.Starts.{strict_start-EEA3}
use Rattle.capi.proofs.generators.eea3_start_strict.Goals as goal

pub put_start-requires : goal.put_start-requires
unfolding strict_start-EEA3
put_start-requires c = start_small _ (start_fits _ (lit< tt, (lit< tt, tt)) _ c.new_strict.ensures)

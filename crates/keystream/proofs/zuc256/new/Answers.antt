-- `new` is the ZUC-256 start with the keystream's row.
use Rattle.zuc_loading.proofs.Rows.{d-keystream-row}
use Rattle.standard.specs.Loading.{d-keystream}
use Rattle.keystream.proofs.zuc256.new.Goals as goal

pub start-requires : goal.start-requires
unfolding d-keystream
start-requires c = d-keystream-row

pub returns : goal.returns
unfolding d-keystream
returns c = c.start.ensures

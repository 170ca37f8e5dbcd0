-- `registers::sums::multiples` meets its contract: the table as it is spelled.
use mathlib.Core.Path.{refl}
use Rattle.mac_registers.proofs.Lookup.{spelled}
use Rattle.mac_registers.proofs.sums.multiples.Goals as goal

pub returns : goal.returns
returns c =
    spelled c.args.pair _ _ _ refl refl refl

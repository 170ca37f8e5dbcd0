-- The promises of `write` and `read`, as Rattle reads them from the source, are the equations that the theorems ask for.
use mathlib.Core.Path.{◌≡◌}
use Rattle.standard.proofs.Promise.{Says}
use Rattle.frame.specs.Outcome.{fields_of, read_outcome, read_told, write_outcome, written_told}
use Rattle.frame.proofs.read.Reads as read
use Rattle.frame.proofs.write.Reads as write

pub called-write : Says write.Post
    (λ κs a r s. written_told r s.1.1.1.0.now ≡ write_outcome a.0.now a.1.0.now (fields_of a.1.1.0) a.1.1.1.0.now)
called-write κs a r s p = p

pub called-read : Says read.Post (λ κs a r s. read_told r s.1.1.0.now ≡ read_outcome a.0.now a.1.0.now a.1.1.0.now)
called-read κs a r s p = p

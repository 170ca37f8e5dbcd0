-- `OnRun::draw`: the words that the generator draws next, and the generator after them.
use Rattle.standard.proofs.Held.{moved-is}
use Rattle.mac_registers.specs.InnerOpen.{held_on}
use Rattle.mac_registers.proofs.AtRest.{at_rest}
use Rattle.mac_registers.proofs.OnRun.draw.Goals as goal

pub returns-clause-rest : goal.returns-clause-rest
returns-clause-rest c = at_rest c.words_on-h.ensures.standing

pub returns-clause-held : goal.returns-clause-held
returns-clause-held c = moved-is _ (held_on c.args.run.now.cells c.args.self) c.requires.start_fits c.words_on-h.ensures.standing.state c.index_after.ensures

-- `OnRun::new`: what the cells and the registers stand for is the state that was laid.
use Rattle.standard.proofs.Held.{held-is}
use Rattle.std.proofs.Common.{refl}
use Rattle.mac_registers.proofs.AtRest.{at_rest}
use Rattle.mac_registers.proofs.OnRun.new.Goals as goal

pub returns-clause-rest : goal.returns-clause-rest
returns-clause-rest c = at_rest c.lay_state-h.ensures

pub returns-clause-held : goal.returns-clause-held
returns-clause-held c = held-is c.lay_state-h.ensures.state refl

-- `start_128` meets its contract: the cells are laid, the first words drawn, and the cells taken back.
use mathlib.Core.Path.{sym, ap, ◌∙◌, subst}
use Rattle.standard.specs.States.{Held}
use Rattle.mac_registers.specs.Stored.{packed}
use Rattle.mac_registers.specs.Tagging.{begun-EIA3}
use Rattle.mac_registers.proofs.AtRest.{opened-as}
use Rattle.mac_registers.proofs.Packed.{good-EIA3}
use Rattle.standard.proofs.Held.{Ready}
use Rattle.mac_tagging.proofs.Laid.{goes_back}
use Rattle.mac_tagging.proofs.calls.start_128.Goals as goal

pub taken-requires : goal.taken-requires
taken-requires c =
    let back = goes_back (opened-as c.begin_128-o.ensures (good-EIA3 _ (subst Ready (sym c.new-start.ensures.held) c.requires))) in
    record { room = back.0; halves = back.1.0; start_fits = back.1.1 }

pub returns : goal.returns
returns c =
    c.taken.ensures ∙ c.begin_128-o.ensures.stored ∙ ap (λ (x : Held). packed 4 (begun-EIA3 x)) c.new-start.ensures.held

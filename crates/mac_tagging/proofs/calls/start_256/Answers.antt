-- `start_256` meets its contract: the cells are laid, the first words drawn, and the cells taken back.
use mathlib.Core.Path.{sym, ap, ◌∙◌, subst}
use Prim.Native.Nat.{ℕ, ◌*◌}
use Rattle.standard.specs.States.{Held}
use Rattle.mac_registers.specs.Stored.{packed}
use Rattle.mac_registers.specs.Tagging.{begun-ZUC256}
use Rattle.mac_registers.proofs.AtRest.{opened-as}
use Rattle.mac_registers.proofs.Packed.{good-ZUC256}
use Rattle.standard.proofs.Held.{Ready}
use Rattle.mac_tagging.proofs.Laid.{goes_back}
use Rattle.mac_tagging.proofs.calls.start_256.Goals as goal

pub taken-requires : goal.taken-requires
taken-requires c =
    let back = goes_back (opened-as c.begin_256-o.ensures (good-ZUC256 c.requires.width_fits _ (subst Ready (sym c.new-start.ensures.held) c.requires.ready))) in
    record { room = back.0; halves = back.1.0; start_fits = back.1.1 }

pub returns : goal.returns
returns c =
    let w : ℕ = c.args.width in
    c.taken.ensures ∙ c.begin_256-o.ensures.stored ∙ ap (λ (x : Held). packed w (begun-ZUC256 (w * 8) x)) c.new-start.ensures.held

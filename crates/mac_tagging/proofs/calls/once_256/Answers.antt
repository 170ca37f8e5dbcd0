-- `once_256` meets its contract: the cells are laid, the first words drawn, and the tag is closed.
use mathlib.Core.Path.{sym, ap, ◌∙◌, subst}
use Prim.Native.Nat.{ℕ, ◌*◌}
use Rattle.standard.specs.States.{Held}
use Rattle.mac_registers.specs.Stored.{tag_words}
use Rattle.mac_registers.specs.Tagging.{begun-ZUC256, closed-ZUC256}
use Rattle.mac_registers.proofs.AtRest.{opened-as}
use Rattle.mac_registers.proofs.Packed.{at_packed, good-ZUC256}
use Rattle.standard.proofs.Held.{Ready}
use Rattle.mac_tagging.proofs.calls.once_256.Goals as goal

pub close_256-requires : goal.close_256-requires
close_256-requires c =
    let begun = c.begin_256-o.ensures in
    record { opened = opened-as begun (good-ZUC256 c.requires.width_fits _ (subst Ready (sym c.new-start.ensures.held) c.requires.ready)); bits_fit = c.requires.bits_fit }

pub returns : goal.returns
returns c =
    let w : ℕ = c.args.width in
    let m = c.args.message.now in
    c.close_256.ensures
    ∙ at_packed (λ x st. tag_words x (closed-ZUC256 (x * 8) st m c.args.l)) c.begin_256-o.ensures.stored (good-ZUC256 c.requires.width_fits _ (subst Ready (sym c.new-start.ensures.held) c.requires.ready))
    ∙ ap (λ (x : Held). tag_words w (closed-ZUC256 (w * 8) (begun-ZUC256 (w * 8) x) m c.args.l)) c.new-start.ensures.held

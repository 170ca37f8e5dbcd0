-- `finish_128` meets its contract: the cells are laid, and the tag is closed.
use mathlib.Core.Path.{ap, ◌∙◌}
use Rattle.standard.specs.States.{Stored}
use Rattle.mac_registers.specs.Stored.{tagging_of}
use Rattle.mac_registers.specs.Tagging.{closed-EIA3}
use Rattle.mac_registers.proofs.AtRest.{opened}
use Rattle.mac_tagging.proofs.calls.finish_128.Goals as goal

pub close_128-requires : goal.close_128-requires
close_128-requires c =
    let laid = c.lay-o.ensures in
    record { opened = opened laid c.requires.holds; width_is = ap (λ (x : Stored). x.width) laid.stored ∙ c.requires.width_is; bits_fit = c.requires.bits_fit }

pub returns : goal.returns
returns c =
    let laid = c.lay-o.ensures in
    c.close_128.ensures ∙ ap (λ (x : Stored). closed-EIA3 (tagging_of x) c.args.tail.now c.args.l) laid.stored

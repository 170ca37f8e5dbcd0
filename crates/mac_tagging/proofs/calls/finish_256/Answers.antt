-- `finish_256` meets its contract: the cells are laid, and the tag is closed.
use mathlib.Core.Path.{ap, ◌∙◌}
use Prim.Native.Nat.{◌*◌}
use Rattle.standard.specs.States.{Stored}
use Rattle.mac_registers.specs.Stored.{tag_words, tagging_of}
use Rattle.mac_registers.specs.Tagging.{closed-ZUC256}
use Rattle.mac_registers.proofs.AtRest.{opened}
use Rattle.mac_tagging.proofs.calls.finish_256.Goals as goal

pub close_256-requires : goal.close_256-requires
close_256-requires c =
    let laid = c.lay-o.ensures in
    record { opened = opened laid c.requires.holds; bits_fit = c.requires.bits_fit }

pub returns : goal.returns
returns c =
    let laid = c.lay-o.ensures in
    c.close_256.ensures ∙ ap (λ (x : Stored). tag_words x.width (closed-ZUC256 (x.width * 8) (tagging_of x) c.args.tail.now c.args.l)) laid.stored

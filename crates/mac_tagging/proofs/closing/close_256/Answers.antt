-- `close_256` meets its contract: an update by the whole bytes, and the closing block.
use mathlib.Core.Path.{sym}
use native.Mathlib.Omega.{arith}
use lib.Seq.{length-take-le}
use Rattle.mac_registers.specs.Inner.{Holds}
use Rattle.mac_registers.specs.InnerOpen.{stored_at}
use Rattle.mac_blocks.proofs.Moves.{cnt-most}
use Rattle.mac_tagging.proofs.Ends.{closes-256, end-held}
use Rattle.mac_tagging.proofs.closing.close_256.Goals as goal

pub slice_bounds-update-end : goal.slice_bounds-update-end
slice_bounds-update-end c =
    sym (length-take-le _ _ (omega (arith, c.requires.bits_fit)))

pub last_tag-requires : goal.last_tag-requires
last_tag-requires c =
    let held : Holds (stored_at c.update-e.new.run.cells c.update-e.result) =
    end-held c.requires.opened.holds.good c.args.tail.now c.args.l _ c.update-e.ensures.stored in
    let h = held in
    record { width_fits = (h.good.a-width, cnt-most _ h); bits_fit = (omega arith, omega (arith, c.requires.bits_fit)) }

pub returns : goal.returns
returns c =
    let held : Holds (stored_at c.update-e.new.run.cells c.update-e.result) =
    end-held c.requires.opened.holds.good c.args.tail.now c.args.l _ c.update-e.ensures.stored in
    let run = c.update-e.new.run.cells in
    closes-256 c.requires.opened.holds.good c.args.tail.now c.args.l _ c.update-e.ensures.stored _ (c.last_tag.ensures run held)

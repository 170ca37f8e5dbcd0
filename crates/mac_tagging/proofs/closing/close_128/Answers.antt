-- `close_128` meets its contract: as that of a ZUC-256 tag of 32 bits, and one word more.
use mathlib.Core.Path.{sym}
use native.Mathlib.Omega.{arith}
use lib.Seq.{length-take-le}
use Rattle.mac_registers.specs.Inner.{Holds}
use Rattle.mac_registers.specs.InnerOpen.{stored_at}
use Rattle.mac_blocks.proofs.Moves.{cnt-most}
use Rattle.mac_tagging.proofs.Ends.{closes-128, end-held, tag_fits, width_four}
use Rattle.mac_tagging.proofs.closing.close_128.Goals as goal

pub slice_bounds-update-end : goal.slice_bounds-update-end
slice_bounds-update-end c =
    sym (length-take-le _ _ (omega (arith, c.requires.bits_fit)))

pub last_tag-tag-requires : goal.last_tag-tag-requires
last_tag-tag-requires c =
    let held : Holds (stored_at c.update-e.new.run.cells c.update-e.result) =
    end-held c.requires.opened.holds.good c.args.tail.now c.args.l _ c.update-e.ensures.stored in
    let h = held in
    record { width_fits = (h.good.a-width, cnt-most _ h); bits_fit = (omega arith, omega (arith, c.requires.bits_fit)) }

pub overflow_mul-e : goal.overflow_mul-e
overflow_mul-e c =
    let held : Holds (stored_at c.update-e.new.run.cells c.update-e.result) =
    end-held c.requires.opened.holds.good c.args.tail.now c.args.l _ c.update-e.ensures.stored in
    omega (arith, cnt-most _ held)

pub overflow_add-e : goal.overflow_add-e
overflow_add-e c =
    let held : Holds (stored_at c.update-e.new.run.cells c.update-e.result) =
    end-held c.requires.opened.holds.good c.args.tail.now c.args.l _ c.update-e.ensures.stored in
    omega (arith, cnt-most _ held)

pub extra-word-requires : goal.extra-word-requires
extra-word-requires c =
    let held : Holds (stored_at c.update-e.new.run.cells c.update-e.result) =
    end-held c.requires.opened.holds.good c.args.tail.now c.args.l _ c.update-e.ensures.stored in
    let t = c.last_tag-tag in
    record { opened = record { rest = c.update-e.ensures.rest; holds = held }; width_is = width_four c.requires.opened.holds.good c.args.tail.now c.args.l _ c.update-e.ensures.stored c.requires.width_is _ (t.ensures c.update-e.new.run.cells held) }

pub overflow_cast-result : goal.overflow_cast-result
overflow_cast-result c =
    let held : Holds (stored_at c.update-e.new.run.cells c.update-e.result) =
    end-held c.requires.opened.holds.good c.args.tail.now c.args.l _ c.update-e.ensures.stored in
    record {
      fits = tag_fits c.requires.opened.holds.good c.args.tail.now c.args.l _ c.update-e.ensures.stored c.requires.width_is
          _ (c.last_tag-tag.ensures c.update-e.new.run.cells held);
    }

pub returns : goal.returns
returns c =
    let held : Holds (stored_at c.update-e.new.run.cells c.update-e.result) =
    end-held c.requires.opened.holds.good c.args.tail.now c.args.l _ c.update-e.ensures.stored in
    closes-128 c.requires.opened.holds.good c.args.tail.now c.args.l _ c.update-e.ensures.stored c.requires.width_is
    _ (c.last_tag-tag.ensures c.update-e.new.run.cells held) _ c.extra-word.ensures

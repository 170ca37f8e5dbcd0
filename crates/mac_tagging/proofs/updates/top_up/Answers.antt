-- `top_up` meets its contract: nothing waits, or the block is completed.
use mathlib.Core.Path.{◌≡◌, sym}
use Prim.Native.Nat.{◌-◌, ◌<◌}
use native.Mathlib.Omega.{arith}
use lib.ListN.{length, take}
use lib.Seq.{length-take-le}
use Rattle.mac_registers.specs.InnerOpen.{stored_at}
use Rattle.mac_registers.specs.Tagging.{updated}
use Rattle.mac_blocks.proofs.Moves.{cnt-lt}
use Rattle.mac_tagging.proofs.updates.top_up.Goals as goal

pub returns-then-o-eq0 : goal.returns-then-o-eq0
unfolding updated
returns-then-o-eq0 c =
    let opened = c.requires.opened in
    record { within = omega arith; none = c.if-o-eq0.true; stands = record { rest = opened.rest; stored = sym opened.holds.packs } }

pub overflow_sub-at : goal.overflow_sub-at
overflow_sub-at c =
    let short : c.args.o.cnt < c.args.o.width =
    cnt-lt (stored_at c.args.run.now.cells c.args.o) c.requires.opened.holds in
    omega (arith, short)

pub slice_bounds-complete-end : goal.slice_bounds-complete-end
slice_bounds-complete-end c =
    let lacking : length (take (c.args.o.width - c.args.o.cnt) c.args.message.now) ≡ c.args.o.width - c.args.o.cnt =
    length-take-le _ _ (omega (arith, c.requires.fills)) in
    sym lacking

pub complete-next-requires : goal.complete-next-requires
complete-next-requires c =
    let short : c.args.o.cnt < c.args.o.width =
    cnt-lt (stored_at c.args.run.now.cells c.args.o) c.requires.opened.holds in
    let lacking : length (take (c.args.o.width - c.args.o.cnt) c.args.message.now) ≡ c.args.o.width - c.args.o.cnt =
    length-take-le _ _ (omega (arith, c.requires.fills)) in
    record { opened = c.requires.opened; fills = omega (arith, short, lacking) }

pub returns : goal.returns
returns c =
    let fed = c.complete-next.ensures in
    record { within = omega (arith, c.requires.fills); none = fed.1; stands = fed.0 }

-- `complete` meets its contract: what waits and the bytes behind it are one block, with nothing waiting before it.
use mathlib.Core.List.{List}
use mathlib.Core.Path.{◌≡◌, refl, sym, subst}
use Prim.Native.Nat.{ℕ, ◌≤◌}
use native.Mathlib.Omega.{arith}
use lib.ListN.{length, take}
use lib.Seq.{length-take-le}
use borrow.Author.Rules.{rules}
use Rattle.mac_registers.specs.InnerBlocks.{Blocks}
use Rattle.mac_registers.specs.InnerOpen.{stored_at}
use Rattle.mac_registers.proofs.Packed.{width-most}
use Rattle.mac_blocks.proofs.Moves.{emptied, emptied-held}
use Rattle.mac_tagging.proofs.Bytes.{one-block-is}
use Rattle.mac_tagging.proofs.updates.complete.Goals as goal

pub slice_bounds-full-end : goal.slice_bounds-full-end
slice_bounds-full-end c =
    let places : length c.behind-full.result ≡ 16 =
    search rules in
    let room : c.args.o.width ≤ length c.behind-full.result =
    omega (arith, places, width-most c.requires.opened.holds.good.a-width) in
    room

pub slice_bounds-whole-end : goal.slice_bounds-whole-end
slice_bounds-whole-end c =
    let places : length c.behind-full.result ≡ 16 =
    search rules in
    let room : c.args.o.width ≤ length c.behind-full.result =
    omega (arith, places, width-most c.requires.opened.holds.good.a-width) in
    sym (length-take-le _ _ room)

pub whole-r-requires : goal.whole-r-requires
whole-r-requires c =
    let opened = c.requires.opened in
    (record { rest = opened.rest; holds = emptied-held (stored_at c.args.run.now.cells c.args.o) opened.holds }, (refl, omega arith))

pub returns : goal.returns
returns c =
    let fed = c.whole-r in
    let a = c.args in
    let st = stored_at a.run.now.cells a.o in
    let h = c.requires.opened.holds in
    let r = stored_at c.whole-r.new.run.cells fed.result.o in (
      record {
        rest = fed.ensures.0;
        stored =
            one-block-is st h a.bytes.now c.requires.fills r fed.result.at
            (subst (λ (x : List ℕ). Blocks (emptied st h) (take a.o.width x) 0 r fed.result.at) c.behind-full.ensures fed.ensures.1);
      },
      fed.ensures.1.none,
    )

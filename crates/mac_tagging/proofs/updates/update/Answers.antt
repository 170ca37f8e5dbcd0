-- `update` meets its contract: all bytes wait; or a block is completed, whole blocks are fed, and the rest waits.
use mathlib.Core.List.{List}
use mathlib.Core.Path.{◌≡◌, sym, ap, ◌∙◌, subst}
use Prim.Native.Nat.{ℕ, ◌*◌, ◌-◌, ◌<◌}
use native.Mathlib.Omega.{arith}
use lib.ListN.{drop, length, length-drop, take}
use lib.Seq.{length-take-le, take_all}
use Rattle.standard.specs.States.{Stored}
use Rattle.mac_registers.specs.declared.OnRun.{OnRun}
use Rattle.mac_registers.specs.Inner.{Width}
use Rattle.mac_registers.specs.InnerOpen.{AtRest, held_on, stored_at}
use Rattle.mac_registers.specs.Stored.{packed, tagging_of}
use Rattle.mac_registers.specs.Tagging.{updated}
use Rattle.mac_registers.proofs.AtRest.{opened-as}
use Rattle.mac_registers.proofs.Packed.{good-updated, held-as}
use Rattle.mac_blocks.proofs.Moves.{cnt-lt}
use Rattle.mac_tagging.proofs.Bytes.{part-on}
use Rattle.mac_tagging.proofs.updates.update.Goals as goal

pub overflow_sub-o : goal.overflow_sub-o
overflow_sub-o c =
    let short : c.args.o.cnt < c.args.o.width =
    cnt-lt (stored_at c.args.run.now.cells c.args.o) c.requires.holds in
    omega (arith, short)

pub returns-then-message-o : goal.returns-then-message-o
returns-then-message-o c =
    let run = c.args.run.now.cells in
    let opened = c.requires in
    record {
      rest = subst (λ (g : OnRun). AtRest run c.args.run.now.pairs g.h) (sym c.wait.ensures.same) opened.rest;
      stored = c.wait.ensures.stored (held_on run) opened.holds;
    }

pub whole-fed-requires : goal.whole-fed-requires
whole-fed-requires c =
    let topped = c.top_up-topped.ensures in
    (opened-as topped.stands (good-updated _ c.requires.holds.good), (topped.none, topped.within))

pub wait-requires-2 : goal.wait-requires-2
unfolding packed
wait-requires-2 c =
    let so_far : stored_at c.whole-fed.new.run.cells c.whole-fed.result.o
    ≡ packed c.args.o.width (updated (c.args.o.width * 8) (tagging_of (stored_at c.args.run.now.cells c.args.o)) (take c.whole-fed.result.at c.args.message.now)) =
    let topped = c.top_up-topped in
    let b = c.whole-fed.ensures.1 in
    part-on c.requires.holds.good c.args.message.now topped.result.at c.whole-fed.result.at (omega (arith, b.at-is)) topped.ensures.stands.stored b.held in
    let same_width : c.whole-fed.result.o.width ≡ c.args.o.width =
    ap (λ (x : Stored). x.width) so_far in
    let first_width : c.top_up-topped.result.o.width ≡ c.args.o.width =
    ap (λ (x : Stored). x.width) c.top_up-topped.ensures.stands.stored in
    let m : List ℕ = c.args.message.now in
    let at : ℕ = c.whole-fed.result.at in
    let b = c.whole-fed.ensures.1 in
    let left : length (take (length m - at) (drop at m)) ≡ length m - at = length-take-le (length m - at) (drop at m) (omega (arith, length-drop at m)) in (
      omega (arith, b.none, left, b.all, b.within, same_width, first_width),
      subst Width (sym same_width) c.requires.holds.good.a-width,
    )

pub returns : goal.returns
returns c =
    let so_far : stored_at c.whole-fed.new.run.cells c.whole-fed.result.o
    ≡ packed c.args.o.width (updated (c.args.o.width * 8) (tagging_of (stored_at c.args.run.now.cells c.args.o)) (take c.whole-fed.result.at c.args.message.now)) =
    let topped = c.top_up-topped in
    let b = c.whole-fed.ensures.1 in
    part-on c.requires.holds.good c.args.message.now topped.result.at c.whole-fed.result.at (omega (arith, b.at-is)) topped.ensures.stands.stored b.held in
    let a = c.args in
    let w = a.o.width in
    let m : List ℕ = a.message.now in
    let run = c.whole-fed.new.run.cells in
    let fed = c.whole-fed.ensures in
    let good = c.requires.holds.good in
    let waits = c.wait-2.ensures in
    record {
      rest = subst (λ (g : OnRun). AtRest run c.whole-fed.new.run.pairs g.h) (sym waits.same) fed.0;
      stored =
          part-on good m c.whole-fed.result.at (length m) fed.1.within so_far (waits.stored (held_on run) (held-as so_far (good-updated _ good)))
          ∙ ap (λ (l : List ℕ). packed w (updated (w * 8) (tagging_of (stored_at a.run.now.cells a.o)) l)) (take_all (length m) m (omega arith));
    }

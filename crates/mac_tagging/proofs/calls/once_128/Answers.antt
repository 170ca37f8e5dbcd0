-- `once_128` meets its contract: start-up on the run, the first words drawn, and the tag closed.
use mathlib.Core.Path.{◌≡◌, refl, sym, ap, ◌∙◌, subst}
use Rattle.standard.specs.States.{Held, Stored, from_zero}
use Rattle.standard.specs.Generator.{started}
use Rattle.zuc.specs.Reading.{loaded_of}
use Rattle.mac_registers.specs.Stored.{packed}
use Rattle.mac_registers.specs.Tagging.{begun-EIA3, closed-EIA3}
use Rattle.mac_registers.proofs.AtRest.{opened-as}
use Rattle.mac_registers.proofs.Packed.{at_packed, good-EIA3}
use Rattle.standard.proofs.Held.{Ready, held-is}
use Rattle.mac_registers.specs.InnerOpen.{held_on}
use Rattle.mac_tagging.proofs.Laid.{from-loaded}
use Rattle.mac_tagging.proofs.calls.once_128.Goals as goal

pub close_128-requires : goal.close_128-requires
unfolding packed
close_128-requires c =
    let k : Held = from_zero (started (loaded_of c.args.loaded)) in
    let laid : held_on c.begin-h.new.run.cells (record { h = c.begin-h.result; start = 0 }) ≡ k = held-is c.begin-h.ensures.state refl in
    let begun = c.begin_128-o.ensures in
    record {
      opened = opened-as begun (good-EIA3 _ (subst Ready (sym laid) (from-loaded (loaded_of c.args.loaded) c.requires.cells)));
      width_is = ap (λ (x : Stored). x.width) begun.stored;
      bits_fit = c.requires.bits_fit;
    }

pub returns : goal.returns
returns c =
    let k : Held = from_zero (started (loaded_of c.args.loaded)) in
    let laid : held_on c.begin-h.new.run.cells (record { h = c.begin-h.result; start = 0 }) ≡ k = held-is c.begin-h.ensures.state refl in
    let m = c.args.message.now in
    c.close_128.ensures
    ∙ at_packed (λ x st. closed-EIA3 st m c.args.l) c.begin_128-o.ensures.stored (good-EIA3 _ (subst Ready (sym laid) (from-loaded (loaded_of c.args.loaded) c.requires.cells)))
    ∙ ap (λ (x : Held). closed-EIA3 (begun-EIA3 x) m c.args.l) laid

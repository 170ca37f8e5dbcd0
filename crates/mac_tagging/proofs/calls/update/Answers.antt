-- `update` of a state meets its contract: all bytes wait; or the cells are laid, the bytes taken in, and the cells taken back.
use mathlib.Core.Path.{ap, ◌∙◌}
use native.Mathlib.Omega.{arith}
use Rattle.standard.specs.States.{Stored}
use Prim.Native.Nat.{◌*◌}
use Rattle.zuc.specs.Reading.{held_of}
use Rattle.mac_registers.specs.Stored.{packed, stored_of, tagging_of}
use Rattle.mac_registers.specs.Tagging.{updated}
use Rattle.mac_registers.proofs.AtRest.{opened, opened-as}
use Rattle.mac_registers.proofs.Packed.{good-updated}
use Rattle.mac_blocks.proofs.Moves.{cnt-lt}
use Rattle.mac_tagging.proofs.Laid.{goes_back}
use Rattle.mac_tagging.proofs.calls.update.Goals as goal

pub overflow_sub-s : goal.overflow_sub-s
overflow_sub-s c =
    omega (arith, cnt-lt (stored_of c.args.s) c.requires)

pub returns-then-message-s : goal.returns-then-message-s
returns-then-message-s c = c.wait.ensures.stored held_of c.requires

pub update-e-requires : goal.update-e-requires
update-e-requires c =
    opened c.lay-o.ensures c.requires

pub taken-requires : goal.taken-requires
taken-requires c =
    let laid = c.lay-o.ensures in
    let back = goes_back (opened-as c.update-e.ensures (good-updated _ (opened laid c.requires).holds.good)) in
    record { room = back.0; halves = back.1.0; start_fits = back.1.1 }

pub returns : goal.returns
returns c =
    let m = c.args.message.now in
    c.taken.ensures
    ∙ c.update-e.ensures.stored
    ∙ ap (λ (x : Stored). packed x.width (updated (x.width * 8) (tagging_of x) m)) c.lay-o.ensures.stored

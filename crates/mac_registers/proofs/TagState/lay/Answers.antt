-- `TagState::lay`: the generator is laid on the run, and the other fields stay.
use Rattle.std.proofs.Common.{ap, sym, subst, ◌∙◌}
use Rattle.standard.specs.States.{Held}
use Rattle.mac_registers.specs.InnerOpen.{AtRest, stored_at}
use Rattle.mac_registers.specs.Stored.{tagging_of}
use Rattle.mac_registers.specs.declared.OnRun.{OnRun}
use Rattle.mac_registers.specs.declared.TagOn.{TagOn}
use Rattle.mac_registers.proofs.TagState.lay.Goals as goal

pub new-requires : goal.new-requires
unfolding tagging_of
new-requires c = c.requires.good.sound

pub returns : goal.returns
returns c =
    let s = c.args.self in
    let laid = c.new in
    record {
      rest = subst (λ (o : TagOn OnRun). AtRest laid.new.run.cells laid.new.run.pairs o.g.h) (sym c.beside.ensures) laid.ensures.rest;
      stored =
          ap (stored_at laid.new.run.cells) c.beside.ensures
          ∙ ap (λ (k : Held). record { generator = k; key = s.key; tag = s.tag; rem = s.rem; cnt = s.cnt; width = s.width }) laid.ensures.held;
    }

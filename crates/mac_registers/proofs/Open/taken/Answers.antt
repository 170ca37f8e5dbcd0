-- `Open::taken`: the cells come back in their places, and the other fields stay.
use Rattle.std.proofs.Common.{ap, ◌∙◌}
use Rattle.standard.specs.States.{Held}
use Rattle.mac_registers.specs.Stored.{stored_of}
use Rattle.mac_registers.proofs.Open.taken.Goals as goal

pub returns : goal.returns
returns c =
    let o = c.args.self in
    ap stored_of c.beside.ensures
    ∙ ap (λ (k : Held). record { generator = k; key = o.key; tag = o.tag; rem = o.rem; cnt = o.cnt; width = o.width }) c.state_of.ensures

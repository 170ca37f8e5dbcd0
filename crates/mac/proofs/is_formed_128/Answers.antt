-- `mac::is_formed_128` meets its contract: of width 4, and well formed.
use mathlib.Core.Bool.{Bool, and-false, and-true, ◌&&◌}
use mathlib.Core.Path.{sym, ap, ◌∙◌}
use lib.Dec.{leb}
use borrow.Author.Tests.{eq-eqb, ne_eqb}
use Rattle.standard.specs.States.{formed, formed-128, limit, tag_formed}
use Rattle.mac_registers.specs.Stored.{stored_of}
use Rattle.mac.proofs.is_formed_128.Goals as goal

pub returns-then-state-eq4-clause-formed : goal.returns-then-state-eq4-clause-formed
unfolding formed-128 tag_formed
returns-then-state-eq4-clause-formed c =
    let a = c.args in
    let f = formed (stored_of a.state) in
    c.is_formed_256.ensures.formed
    ∙ sym (ap (λ (b : Bool). b && leb a.count limit) (ap (λ (b : Bool). f && b) (eq-eqb a.state.width 4 c.if-state-eq4.true) ∙ and-true f))

pub returns-else-state-eq4-clause-formed : goal.returns-else-state-eq4-clause-formed
unfolding formed-128 tag_formed
returns-else-state-eq4-clause-formed c =
    let a = c.args in
    let f = formed (stored_of a.state) in
    ne_eqb a.state.width 4 c.if-state-eq4.false
    ∙ sym (ap (λ (b : Bool). b && leb a.count limit) (ap (λ (b : Bool). f && b) (ne_eqb a.state.width 4 c.if-state-eq4.false) ∙ and-false f))

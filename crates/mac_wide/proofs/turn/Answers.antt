-- `turn`: each word of the entry goes over its word of the register.
use borrow.Author.Rules.{rules}
use mathlib.Core.Path.{◌∙◌}
use Rattle.mac_wide.proofs.Rows.{over-listed}
use Rattle.standard.proofs.Made.{made}
use Rattle.mac_wide.proofs.turn.Goals as goal

pub returns : goal.returns
returns g c =
    made (λ i y q l s. search rules) c.from_fn.ensures.items
    ∙ over-listed 8 _ c.args.entry c.args.x (search rules) (search rules)

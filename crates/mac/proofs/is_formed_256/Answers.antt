-- `mac::is_formed_256` meets its contract: well formed, and a count within the limit.
use mathlib.Core.Bool.{Bool, ◌&&◌}
use mathlib.Core.Path.{ap, ◌∙◌}
use lib.Dec.{leb}
use Rattle.standard.specs.States.{limit, tag_formed}
use Rattle.mac.proofs.is_formed_256.Goals as goal

pub returns-then-is_formed-clause-formed : goal.returns-then-is_formed-clause-formed
unfolding tag_formed
returns-then-is_formed-clause-formed c = ap (λ (b : Bool). b && leb c.args.count limit) c.if-is_formed.ensures.formed

pub returns-else-is_formed-clause-formed : goal.returns-else-is_formed-clause-formed
unfolding tag_formed
returns-else-is_formed-clause-formed c = c.if-is_formed.false ∙ ap (λ (b : Bool). b && leb c.args.count limit) c.if-is_formed.ensures.formed

-- `join`: each cell is joined from its place.
use borrow.Author.Rules.{rules}
use Rattle.zuc_loading.specs.InnerRows.{joined}
use Rattle.standard.proofs.Made.{made}
use Rattle.zuc_loading.proofs.zuc256.join.Goals as goal

pub returns : goal.returns
unfolding joined
returns c = made (λ i y q l s. search rules) c.from_fn.ensures.items

-- `multiples` meets its contract: the table as it is spelled.
use borrow.Author.Rules.{rules}
use Rattle.mac_wide.proofs.Tables.{spelled}
use Rattle.mac_wide.proofs.multiples.Goals as goal

pub returns : goal.returns
returns c =
    let a = c.args in
    spelled a.x a.y _ _ _ (search rules) (search rules) c.up-b.ensures c.up-c.ensures c.up-d.ensures

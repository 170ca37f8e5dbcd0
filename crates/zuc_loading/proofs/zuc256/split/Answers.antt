-- `split` gives the four windows of 6 bits, by the law of shifts and remainders.
use mathlib.Core.Path.{sym}
use Rattle.zuc_loading.proofs.Sextets.{by-shifts}
use borrow.Author.Rules.{rules}
use Rattle.zuc_loading.proofs.zuc256.split.Goals as goal

pub returns : goal.returns
returns c = sym (by-shifts c.args.x c.args.y c.args.z (search rules) (search rules) (search rules))

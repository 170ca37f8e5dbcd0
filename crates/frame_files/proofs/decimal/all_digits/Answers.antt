-- `all_digits` meets its contract: what `all` answers is the definition.
use Rattle.std.proofs.Common.{leb, ◌&&◌, ◌∙◌, rules, tests}
use Rattle.std.proofs.lemmas.Iterator.{YieldsList-from_slice}
use Rattle.std.proofs.lemmas.Iterator.Search.{all_from_yields_List}
use Rattle.frame_files.proofs.Digits.{all_digits-is}
use Rattle.frame_files.proofs.decimal.all_digits.Goals as goal

pub returns : goal.returns
returns c =
    let l = c.args.text.now in
    all_from_yields_List (λ x. leb 48 x && leb x 57) _ _ _ c.all.ensures.ran (YieldsList-from_slice l cc) (λ x b q k. search (rules, tests)) ∙ all_digits-is l

-- `registers::forms::all_zero` meets its contract: what `all` answers is the definition.
use Rattle.std.proofs.Common.{eqb, ◌∙◌, rules, tests}
use Rattle.std.proofs.lemmas.Iterator.{YieldsList-from_slice}
use Rattle.std.proofs.lemmas.Iterator.Search.{all_from_yields_List}
use Rattle.mac_registers.proofs.Packed.{all_zero-is}
use Rattle.mac_registers.proofs.forms.all_zero.Goals as goal

pub returns : goal.returns
returns c =
    let l = c.args.words.now in
    all_from_yields_List (λ x. eqb x 0) _ _ _ c.all.ensures.ran (YieldsList-from_slice l cc) (λ x b q k. search (rules, tests)) ∙ all_zero-is l

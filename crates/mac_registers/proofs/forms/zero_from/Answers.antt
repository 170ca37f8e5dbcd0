-- `registers::forms::zero_from` meets its contract: what `all` answers of the bytes from one on is the definition.
use Rattle.std.proofs.Common.{List, ℕ, drop, length, take, ◌-◌, arith, eqb, ap, ◌∙◌, rules, take_all, tests}
use lib.ListN.{length-drop}
use Rattle.std.proofs.lemmas.Iterator.{YieldsList-from_slice}
use Rattle.std.proofs.lemmas.Iterator.Search.{all_from_yields_List}
use Rattle.standard.specs.States.{all_zero}
use Rattle.mac_registers.proofs.Packed.{all_zero-is}
use Rattle.mac_registers.proofs.forms.zero_from.Goals as goal

pub returns : goal.returns
returns c =
    let m = c.args.rem.now in
    let l : List ℕ = drop c.args.from m in
    let part : List ℕ = take (length m - c.args.from) l in
    all_from_yields_List (λ x. eqb x 0) _ _ _ c.all.ensures.ran (YieldsList-from_slice part cc) (λ x b q k. search (rules, tests))
    ∙ all_zero-is part ∙ ap all_zero (take_all (length m - c.args.from) l (omega (arith, length-drop c.args.from m)))

-- `placed`: the places, and the registers behind them.
use borrow.Author.Rules.{rules}
use lib.ListN.{length}
use mathlib.Core.List.{List, ◌++◌}
use mathlib.Core.Path.{◌≡◌, ◌∙◌, ap₂, refl, sym}
use Rattle.capi_arrays.specs.Arrays.{placed}
use Rattle.standard.proofs.Made.{laid}
use Rattle.zuc.proofs.Turning.{places-back}
use Rattle.capi_arrays.proofs.placed.Goals as goal

pub returns : goal.returns
unfolding placed
returns c =
    let z = c.args.z in
    let full : length c.copy_from_slice.new.self ≡ 16 = search rules in
    laid 16 2 _ _ _ full refl
    ∙ ap₂ (λ (x y : List _). x ++ y) (c.copy_from_slice.ensures.after ∙ sym (places-back z.start z.s)) c.copy_from_slice-2.ensures.after

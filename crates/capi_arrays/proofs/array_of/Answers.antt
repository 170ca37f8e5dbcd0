-- `array_of`: places and registers, and the two numbers behind them.
use borrow.Author.Rules.{rules}
use lib.ListN.{length}
use mathlib.Core.List.{List, ◌++◌}
use mathlib.Core.Path.{◌≡◌, ◌∙◌, ap, ap₂, refl}
use Rattle.capi_arrays.proofs.Packing.{array-held}
use Rattle.capi_arrays.specs.Arrays.{array_of, held_in}
use Rattle.standard.proofs.Made.{laid}
use Rattle.zuc.proofs.Turning.{length_from}
use Rattle.zuc.specs.Reading.{counted_of}
use Rattle.capi_arrays.proofs.array_of.Goals as goal

pub returns : goal.returns
unfolding array_of
returns c =
    let g = c.args.g in
    let places : length g.z.s ≡ 16 = search rules in
    let full : length c.copy_from_slice.new.self ≡ 18 = search rules in
    let is =
    laid 18 2 _ _ _ full refl
    ∙ ap₂ (λ (x y : List _). x ++ y) (c.copy_from_slice.ensures.after ∙ c.placed.ensures) c.copy_from_slice-2.ensures.after in
    record { is = is; back = ap held_in is ∙ array-held (counted_of g) (length_from g.z.start g.z.s ∙ places) }

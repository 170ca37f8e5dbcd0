-- `turned` is a draw of document 01, by its parts.
use Rattle.capi_arrays.specs.Arrays.{held_from}
use Rattle.zuc.proofs.Drawing.{draw-next, draw-word}
use borrow.Author.Rules.{rules}
use Rattle.capi_draw.proofs.turned.Goals as goal

pub new_cell-cell-requires : goal.new_cell-cell-requires
unfolding held_from
new_cell-cell-requires c =
    record { places_fit = (search rules, c.requires.start); cells = c.requires.cells }

pub reorganized-x-requires : goal.reorganized-x-requires
unfolding held_from
reorganized-x-requires c = (search rules, c.requires.start)

pub returns : goal.returns
unfolding held_from
returns c =
    let a = c.args in
    let σ = (held_from a.i a.a.now).meaning in
    let new = c.new_cell-cell.ensures in
    let x = c.reorganized-x.ensures in
    let out = c.f-out.ensures in
    λ j. record {
      cell = new j;
      r1 = (draw-next σ new x out j).R₁;
      r2 = (draw-next σ new x out j).R₂;
      word = draw-word σ new x out j;
    }

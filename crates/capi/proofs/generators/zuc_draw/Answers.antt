-- `zuc_draw` is the outcome of a draw: refused, with the array as it came, where a test fails; else the draw in the array.
use mathlib.Core.Path.{sym, ◌∙◌}
use Rattle.capi.proofs.Refusals.{draw-refused, draw-spent}
use Rattle.capi_draw.proofs.Formed.{ready-in}
use Rattle.keystream.specs.Draws.{draw_outcome}
use Rattle.standard.specs.Refusals.{tested}
use Rattle.capi.proofs.generators.zuc_draw.Goals as goal

pub returns-then-not-is_formed : goal.returns-then-not-is_formed
returns-then-not-is_formed c =
    let a = c.args.state.now in
    (λ i. record { number = c.from.ensures i; word = 0; array = a })
    ∙ sym (draw-refused a c.is_formed.ensures.full (sym c.if-not-is_formed.ensures.is))

pub returns-then-not-has_word : goal.returns-then-not-has_word
returns-then-not-has_word c =
    let a = c.args.state.now in
    (λ i. record { number = c.from-then-not-has_word.ensures i; word = 0; array = a })
    ∙ sym (draw-spent a c.is_formed.ensures.full (sym c.if-not-is_formed.ensures.is) (sym c.if-not-has_word.ensures))

pub draw_in-requires-clause-ready : goal.draw_in-requires-clause-ready
draw_in-requires-clause-ready c = ready-in _ c.is_formed.ensures.full (sym c.if-not-is_formed.ensures.is)

pub returns : goal.returns
unfolding draw_outcome tested
returns c =
    rw (sym c.if-not-is_formed.ensures.is, sym c.if-not-has_word.ensures)
    (λ i. record { number = 0; word = c.draw_in.ensures.word i; array = c.draw_in.ensures.array i })

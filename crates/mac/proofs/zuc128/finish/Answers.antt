-- `mac::zuc128::finish` meets its contract: refused before anything moves, or closed, and a state of zeros.
use mathlib.Core.Path.{refl, ap, subst, sym, ◌∙◌}
use Prim.Native.Nat.{ℕ, ◌+◌, ◌<◌}
use lib.Dec.{leb}
use Rattle.mac_registers.specs.Stored.{stored_of, tagging_of}
use Rattle.mac_registers.specs.Tagging.{closed-EIA3}
use Rattle.mac.specs.Calls.{close_words-128, finish_outcome-128}
use Rattle.mac.specs.Reading.{tagged_of-128}
use Rattle.standard.specs.States.{formed-128, limit, tag_formed}
use Rattle.mac.proofs.Outcomes.{bad-bits, bad-state, closed, formed-four, holds-short, too_many}
use Rattle.mac.proofs.zuc128.finish.Goals as goal

pub returns-then-not-is_formed_128 : goal.returns-then-not-is_formed_128
unfolding finish_outcome-128
returns-then-not-is_formed_128 c =
    let a = c.args in
    bad-state 0 (tag_formed formed-128 (tagged_of-128 a.mac.now)) (tagged_of-128 a.mac.now) (close_words-128 (stored_of a.mac.now.state) a.l) a.tail.now a.l _ (sym c.if-not-is_formed_128.ensures.formed)

pub returns-then-not-bits_fit : goal.returns-then-not-bits_fit
unfolding finish_outcome-128
returns-then-not-bits_fit c =
    let a = c.args in
    bad-bits 0 (tag_formed formed-128 (tagged_of-128 a.mac.now)) (tagged_of-128 a.mac.now) (close_words-128 (stored_of a.mac.now.state) a.l) a.tail.now a.l _
    (sym c.if-not-is_formed_128.ensures.formed) (sym c.if-not-bits_fit.ensures)

pub to_close_128-requires : goal.to_close_128-requires
to_close_128-requires c =
    let a = c.args in
    subst (λ (w : ℕ). a.mac.now.state.cnt < w) (formed-four (tagged_of-128 a.mac.now) (sym c.if-not-is_formed_128.ensures.formed))
    (holds-short (c.if-not-is_formed_128.ensures.within refl).0)

pub returns-then-not-has_left : goal.returns-then-not-has_left
unfolding finish_outcome-128
returns-then-not-has_left c =
    let a = c.args in
    too_many 0 (tag_formed formed-128 (tagged_of-128 a.mac.now)) (tagged_of-128 a.mac.now) (close_words-128 (stored_of a.mac.now.state) a.l) a.tail.now a.l _
    (sym c.if-not-is_formed_128.ensures.formed) (sym c.if-not-bits_fit.ensures)
    (sym (c.if-not-has_left.ensures ∙ ap (λ (n : ℕ). leb (a.mac.now.count + n) limit) c.to_close_128.ensures))

pub finish_128-tag-requires-clause-width_is : goal.finish_128-tag-requires-clause-width_is
finish_128-tag-requires-clause-width_is c = formed-four (tagged_of-128 c.args.mac.now) (sym c.if-not-is_formed_128.ensures.formed)

pub returns : goal.returns
unfolding finish_outcome-128
returns c =
    let a = c.args in
    closed 0 (tag_formed formed-128 (tagged_of-128 a.mac.now)) (tagged_of-128 a.mac.now) (close_words-128 (stored_of a.mac.now.state) a.l) a.tail.now a.l (closed-EIA3 (tagging_of (stored_of a.mac.now.state)) a.tail.now a.l)
    (sym c.if-not-is_formed_128.ensures.formed) (sym c.if-not-bits_fit.ensures)
    (sym (c.if-not-has_left.ensures ∙ ap (λ (n : ℕ). leb (a.mac.now.count + n) limit) c.to_close_128.ensures)) _ _ c.finish_128-tag.ensures c.zero_state.ensures

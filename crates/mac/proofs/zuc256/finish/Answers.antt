-- `mac::zuc256::finish` meets its contract: refused before anything moves, or closed, and a state of zeros.
use mathlib.Core.Path.{refl, ap, sym, ◌∙◌}
use Prim.Native.Nat.{ℕ, ◌+◌, ◌*◌}
use lib.Dec.{leb}
use Rattle.mac_registers.specs.Stored.{stored_of, tag_words, tagging_of}
use Rattle.mac_registers.specs.Tagging.{closed-ZUC256}
use Rattle.mac.specs.Calls.{close_words-256, finish_outcome-256, no_words}
use Rattle.mac.specs.Reading.{tagged_of-256}
use Rattle.standard.specs.States.{formed, limit, tag_formed}
use Rattle.mac.proofs.Outcomes.{bad-bits, bad-state, closed, holds-short, too_many}
use Rattle.mac.proofs.zuc256.finish.Goals as goal

pub returns-then-not-is_formed_256 : goal.returns-then-not-is_formed_256
unfolding finish_outcome-256
returns-then-not-is_formed_256 c =
    let a = c.args in
    bad-state no_words (tag_formed formed (tagged_of-256 a.mac.now)) (tagged_of-256 a.mac.now) (close_words-256 (stored_of a.mac.now.state) a.l) a.tail.now a.l _ (sym c.if-not-is_formed_256.ensures.formed)

pub returns-then-not-bits_fit : goal.returns-then-not-bits_fit
unfolding finish_outcome-256
returns-then-not-bits_fit c =
    let a = c.args in
    bad-bits no_words (tag_formed formed (tagged_of-256 a.mac.now)) (tagged_of-256 a.mac.now) (close_words-256 (stored_of a.mac.now.state) a.l) a.tail.now a.l _
    (sym c.if-not-is_formed_256.ensures.formed) (sym c.if-not-bits_fit.ensures)

pub to_close_256-requires : goal.to_close_256-requires
to_close_256-requires c =
    let within = c.if-not-is_formed_256.ensures.within refl in
    (within.0.good.a-width, holds-short within.0)

pub returns-then-not-has_left : goal.returns-then-not-has_left
unfolding finish_outcome-256
returns-then-not-has_left c =
    let a = c.args in
    too_many no_words (tag_formed formed (tagged_of-256 a.mac.now)) (tagged_of-256 a.mac.now) (close_words-256 (stored_of a.mac.now.state) a.l) a.tail.now a.l _
    (sym c.if-not-is_formed_256.ensures.formed) (sym c.if-not-bits_fit.ensures)
    (sym (c.if-not-has_left.ensures ∙ ap (λ (n : ℕ). leb (a.mac.now.count + n) limit) c.to_close_256.ensures))

pub returns : goal.returns
unfolding finish_outcome-256
returns c =
    let a = c.args in
    closed no_words (tag_formed formed (tagged_of-256 a.mac.now)) (tagged_of-256 a.mac.now) (close_words-256 (stored_of a.mac.now.state) a.l) a.tail.now a.l (tag_words a.mac.now.state.width (closed-ZUC256 (a.mac.now.state.width * 8) (tagging_of (stored_of a.mac.now.state)) a.tail.now a.l))
    (sym c.if-not-is_formed_256.ensures.formed) (sym c.if-not-bits_fit.ensures)
    (sym (c.if-not-has_left.ensures ∙ ap (λ (n : ℕ). leb (a.mac.now.count + n) limit) c.to_close_256.ensures)) _ _ c.finish_256-tag.ensures c.zero_state.ensures

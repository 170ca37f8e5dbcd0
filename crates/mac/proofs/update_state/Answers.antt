-- `mac::update_state` meets its contract: refused before anything moves, or the inner update, and the count raised by its words.
use mathlib.Core.Path.{refl, ap, ap₂, sym, ◌∙◌}
use Prim.Native.Nat.{ℕ, ◌+◌}
use lib.Dec.{leb}
use Rattle.standard.specs.States.{Stored, limit}
use Rattle.standard.specs.Refusals.{tested}
use Rattle.mac.specs.Calls.{update_outcome}
use Rattle.mac.proofs.Outcomes.{holds-short}
use Rattle.mac.proofs.update_state.Goals as goal

pub to_update-drawn-requires : goal.to_update-drawn-requires
to_update-drawn-requires c = (c.requires.0.good.a-width, holds-short c.requires.0)

pub returns-then-not-has_left : goal.returns-then-not-has_left
unfolding update_outcome tested
returns-then-not-has_left c =
    rw (sym (c.if-not-has_left.ensures ∙ ap (λ (n : ℕ). leb (c.args.count.now + n) limit) c.to_update-drawn.ensures)) refl

pub returns : goal.returns
unfolding update_outcome tested
returns c =
    rw (sym (c.if-not-has_left.ensures ∙ ap (λ (n : ℕ). leb (c.args.count.now + n) limit) c.to_update-drawn.ensures))
    (ap₂ (λ (x : Stored) (n : ℕ). record { number = 0; state = record { held = x; count = c.args.count.now + n } }) c.update.ensures c.to_update-drawn.ensures)

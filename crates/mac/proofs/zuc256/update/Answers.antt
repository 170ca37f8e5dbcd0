-- `mac::zuc256::update` meets its contract: this kind's test, and past it what the shared update does.
use mathlib.Core.Bool.{Bool}
use mathlib.Core.Path.{◌∙◌, ap, refl, sym}
use Rattle.standard.specs.Refusals.{tested}
use Rattle.mac.specs.Calls.{update_outcome}
use Rattle.mac.specs.Reading.{tagged_of-256}
use Rattle.mac.proofs.zuc256.update.Goals as goal

pub returns-then-not-is_formed_256 : goal.returns-then-not-is_formed_256
unfolding update_outcome tested
returns-then-not-is_formed_256 c = rw (sym c.if-not-is_formed_256.ensures.formed) refl

pub returns : goal.returns
returns c =
    c.update_state.ensures
    ∙ ap (λ (b : Bool). update_outcome b (tagged_of-256 c.args.mac.now) c.args.message.now) c.if-not-is_formed_256.ensures.formed

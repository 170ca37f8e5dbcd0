-- Words drawn by accepted calls, one after the other, as their contracts tell them: single draws and fills, in any mixture.
use Rattle.std.specs.Prelude.{List, [], ◌∷◌, ◌++◌, ◌≡◌, ℕ}
use Rattle.keystream.specs.Draws.{DrawOutcome, FillOutcome, draw_outcome, fill_outcome}
use Rattle.standard.specs.Refusals.{accepted}
use Rattle.standard.specs.States.{Counted, Held}

-- from a state, the words drawn and the state after them: o is what is told of a call's result, equal to what the contract says
pub data Draws : Counted Held → List ℕ → Counted Held → Type 0 where
  none : {g : Counted Held} → Draws g [] g
  one : {g g' : Counted Held} {words : List ℕ} (o : DrawOutcome) → o ≡ draw_outcome g → o.number ≡ accepted → Draws o.state words g'
      → Draws g (o.word ∷ words) g'
  many : {g g' : Counted Held} {words : List ℕ} (buffer : List ℕ) (o : FillOutcome) → o ≡ fill_outcome g buffer → o.number ≡ accepted → Draws o.state words g'
      → Draws g (o.buffer ++ words) g'

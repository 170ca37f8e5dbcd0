-- Blocks masked in clean mode one after the other from one start, the state handed on, as the calls' contracts tell it (request 2026-02).
use Rattle.std.specs.Prelude.{List, [], ◌∷◌, ◌≡◌, ℕ, ◌*◌, ◌%◌, length}
use Rattle.standard.specs.Refusals.{accepted}
use Rattle.standard.specs.States.{Counted, Held}
use Rattle.mask.specs.Outcome.{Outcome, clean_outcome}

-- each block masked whole, L = 8n, by an accepted call: the blocks, what they become, and the state after them. o is what is told of a
-- call's result, equal to what the contract says
pub data Masks : Counted Held → List (List ℕ) → List (List ℕ) → Counted Held → Type 0 where
  none : {g : Counted Held} → Masks g [] [] g
  more : {g g' : Counted Held} {block : List ℕ} {blocks masked : List (List ℕ)} (o : Outcome) → o ≡ clean_outcome g (length block * 8) block
      → o.number ≡ accepted → Masks o.state blocks masked g' → Masks g (block ∷ blocks) (o.buffer ∷ masked) g'

-- and then the last block, of any length, at any bit length that it takes: end is what is told of that call
pub record BlocksMasked (g : Counted Held) (blocks masked : List (List ℕ)) (last : List ℕ) (L : ℕ) (end : Outcome) : Type 0 where
  pub between : Counted Held
  pub masks : Masks g blocks masked between
  pub closes : end ≡ clean_outcome between L last
  pub closed : end.number ≡ accepted

-- each of these blocks is a multiple of 32 bits
abbrev pub WholeWords : List (List ℕ) → Type 0
WholeWords [] = Unit {0}
WholeWords (block ∷ blocks) = (length block % 4 ≡ 0) × WholeWords blocks

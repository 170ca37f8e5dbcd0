-- A block that is masked in clean mode once per hop, each hop from a state of its own, as the calls' contracts tell it (request 2026-10).
use Rattle.std.specs.Prelude.{true, List, [], ◌∷◌, ◌≡◌, ℕ, ◌+◌, ◌≤◌}
use Rattle.standard.specs.Confidentiality.{words_to_mask_clean}
use Rattle.standard.specs.Generator.{word_at}
use Rattle.standard.specs.Notation.{◌⊕◌}
use Rattle.standard.specs.Refusals.{accepted}
use Rattle.standard.specs.States.{Counted, Held, generator_formed, limit}
use Rattle.mask.specs.Outcome.{Outcome, clean_outcome}

-- accepted calls on one buffer at one bit length, by the states of the hops: the buffer before the first and after the last. o is what is
-- told of a call's result, equal to what the contract says
pub data Hops (L : ℕ) : List (Counted Held) → List ℕ → List ℕ → Type 0 where
  none : {buffer : List ℕ} → Hops L [] buffer buffer
  hop : {g : Counted Held} {rest : List (Counted Held)} {buffer after : List ℕ} (o : Outcome) → o ≡ clean_outcome g L buffer → o.number ≡ accepted
      → Hops L rest o.buffer after → Hops L (g ∷ rest) buffer after

-- the exclusive or of the keystreams of all hops
unfoldable pub streams : List (Counted Held) → ℕ → ℕ
streams [] n = 0
streams (g ∷ rest) n = word_at g.held.meaning n ⊕ streams rest n

-- one order of hops and another
pub data Reordered : List (Counted Held) → List (Counted Held) → Type 0 where
  same : {a : List (Counted Held)} → Reordered a a
  swap : {g h : Counted Held} {a : List (Counted Held)} → Reordered (g ∷ h ∷ a) (h ∷ g ∷ a)
  keep : {g : Counted Held} {a b : List (Counted Held)} → Reordered a b → Reordered (g ∷ a) (g ∷ b)
  then : {a b c : List (Counted Held)} → Reordered a b → Reordered b c → Reordered a c

-- hops that come in pairs from one state
pub data Paired : List (Counted Held) → Type 0 where
  no_more : Paired []
  pair : {g : Counted Held} {rest : List (Counted Held)} → Paired rest → Paired (g ∷ g ∷ rest)

-- every hop's state is well formed and has words enough
abbrev pub Serve : ℕ → List (Counted Held) → Type 0
Serve L [] = Unit {0}
Serve L (g ∷ rest) = ((generator_formed g ≡ true) × (g.count + words_to_mask_clean L ≤ limit)) × Serve L rest

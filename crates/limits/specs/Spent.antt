-- A run of calls that the limit ends: its updates are accepted up to a call that is refused by 16.
use Rattle.std.specs.Prelude.{Bool, List, [], ◌∷◌, ◌≡◌, ℕ}
use Rattle.standard.specs.Refusals.{accepted, spent}
use Rattle.standard.specs.States.{Counted, Stored, tag_formed}
use Rattle.mac.specs.Calls.{Closing, update_outcome}

pub data Spends {Tag : Type 0} (test : Stored → Bool) (finish_outcome : Counted Stored → List ℕ → ℕ → Closing Tag) : Counted Stored → List (List ℕ) → List ℕ → ℕ → Type 0 where
  at-closing : {s : Counted Stored} {tail : List ℕ} {l : ℕ} → (finish_outcome s tail l).number ≡ spent → Spends test finish_outcome s [] tail l
  at-update : {s : Counted Stored} {part tail : List ℕ} {parts : List (List ℕ)} {l : ℕ} → (update_outcome (tag_formed test s) s part).number ≡ spent
      → Spends test finish_outcome s (part ∷ parts) tail l
  later : {s : Counted Stored} {part tail : List ℕ} {parts : List (List ℕ)} {l : ℕ} → (update_outcome (tag_formed test s) s part).number ≡ accepted
      → Spends test finish_outcome (update_outcome (tag_formed test s) s part).state parts tail l → Spends test finish_outcome s (part ∷ parts) tail l

-- A tag made by accepted calls, as their contracts tell them: a start, updates that cut the message anyhow, and a closing; or a one-shot.
use Rattle.std.specs.Prelude.{Bool, List, [], ◌∷◌, ◌++◌, ◌≡◌, ℕ, ◌+◌, ◌*◌, length}
use Rattle.mac_registers.specs.Stored.{tag_of}
use Rattle.standard.specs.Notation.{joined}
use Rattle.standard.specs.States.{Counted, Stored, formed, formed-128, tag_formed}
use Rattle.mac.specs.Calls.{Closing, Once, Outcome, finish_outcome-128, finish_outcome-256, once_outcome-128, once_outcome-256, once_outcome-EIA3, update_outcome}

-- updates one after the other, each accepted: o is what is told of a call's result, equal to what the contract says
pub data Updates (test : Stored → Bool) : Counted Stored → List (List ℕ) → Counted Stored → Type 0 where
  none : {s : Counted Stored} → Updates test s [] s
  more : {s s' : Counted Stored} {part : List ℕ} {parts : List (List ℕ)} (o : Outcome) → o ≡ update_outcome (tag_formed test s) s part → o.number ≡ 0
      → Updates test o.state parts s' → Updates test s (part ∷ parts) s'

-- a tag of a message of L bits, from a start's outcome: by the test of its states, what its closing answers, and the number in the tag's words
pub record Tagged {Tag : Type 0} (test : Stored → Bool) (finish_outcome : Counted Stored → List ℕ → ℕ → Closing Tag) (number_in : Tag → ℕ)
    (start : Outcome) (message : List ℕ) (L tag : ℕ) : Type 0 where
  pub parts : List (List ℕ)
  pub tail : List ℕ
  pub l : ℕ
  pub message-is : message ≡ joined parts ++ tail
  pub L-is : L ≡ length (joined parts) * 8 + l
  pub started : start.number ≡ 0
  pub last : Counted Stored
  pub updates : Updates test start.state parts last
  pub end : Closing Tag
  pub closes : end ≡ finish_outcome last tail l
  pub accepted : end.number ≡ 0
  pub tag_is : tag ≡ number_in end.tag

-- of ZUC-128 or EIA3, and of ZUC-256 at a width in bytes
abbrev pub Tagged-128 : Outcome → List ℕ → ℕ → ℕ → Type 0
Tagged-128 = Tagged formed-128 finish_outcome-128 (λ tag. tag)

abbrev pub Tagged-256 : ℕ → Outcome → List ℕ → ℕ → ℕ → Type 0
Tagged-256 width = Tagged formed finish_outcome-256 (tag_of width)

-- that a start's calls are accepted over these very parts, this tail and these bits of it, and give some tag
abbrev pub Accepts : {Tag : Type 0} → (Stored → Bool) → (Counted Stored → List ℕ → ℕ → Closing Tag) → (Tag → ℕ) → Outcome → List (List ℕ) → List ℕ → ℕ → Type 0
Accepts test finish_outcome number_in start parts tail l =
    (tag : ℕ) × (r : Tagged test finish_outcome number_in start (joined parts ++ tail) (length (joined parts) * 8 + l) tag)
    × ((r.parts ≡ parts) × (r.tail ≡ tail) × (r.l ≡ l))

abbrev pub Accepts-128 : Outcome → List (List ℕ) → List ℕ → ℕ → Type 0
Accepts-128 = Accepts formed-128 finish_outcome-128 (λ tag. tag)

abbrev pub Accepts-256 : ℕ → Outcome → List (List ℕ) → List ℕ → ℕ → Type 0
Accepts-256 width = Accepts formed finish_outcome-256 (tag_of width)

-- a tag of a message of l bits made by an accepted one-shot: told is what is told of its result
pub record Computed {Tag : Type 0} (once : List ℕ → ℕ → Once Tag) (number_in : Tag → ℕ) (message : List ℕ) (l tag : ℕ) : Type 0 where
  pub told : Once Tag
  pub is : told ≡ once message l
  pub accepted : told.number ≡ 0
  pub tag_is : tag ≡ number_in told.tag

abbrev pub Computed-128 : (key iv message : List ℕ) (l tag : ℕ) → Type 0
Computed-128 key iv = Computed (once_outcome-128 key iv) (λ tag. tag)

abbrev pub Computed-EIA3 : (count bearer direction : ℕ) (key message : List ℕ) (l tag : ℕ) → Type 0
Computed-EIA3 count bearer direction key = Computed (once_outcome-EIA3 count bearer direction key) (λ tag. tag)

abbrev pub Computed-256 : (width : ℕ) (key iv message : List ℕ) (l tag : ℕ) → Type 0
Computed-256 width key iv = Computed (once_outcome-256 width key iv) (tag_of width)

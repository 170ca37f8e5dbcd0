-- Request 2026-11: the states that calls leave behind an accepted start, as their contracts tell them, and when two of them meet.
use Rattle.std.specs.Prelude.{List, ◌≡◌, ℕ}
use Rattle.standard.specs.Loading.{d-keystream, row_of}
use Rattle.standard.specs.Refusals.{accepted}
use Rattle.standard.specs.States.{Counted, Held, Stored, formed, formed-128}
use Rattle.zuc_loading.proofs.Loaded.{Bytes}
use Rattle.zuc_apart.specs.Given.{Given, of_EEA3, of_EIA3, zuc128, zuc256}
use Rattle.keystream.specs.Draws.{DrawOutcome, FillOutcome, draw_outcome, fill_outcome}
use Rattle.keystream.specs.Starts.{StartOutcome, start-EEA3, start_tag₂₅₆, start₁₂₈, start₂₅₆}
use Rattle.mask.specs.Outcome.{Outcome, mask_tested}
use Rattle.mac.specs.Calls as mac
use Rattle.mac.specs.Runs.{Updates}

-- the generator in a tag's state, with the state's count
abbrev pub generator_in : Counted Stored → Counted Held
generator_in s = record { held = s.held.generator; count = s.count }

-- A state that stands behind an accepted start of what was given, key and IV being bytes: o is what is told of a call's result, equal to what
-- the contract says. First the starts, of a keystream; then any call that is lent such a state and hands one back, accepted or refused: a draw,
-- a buffer of words, a mask in either mode (however many words it draws); then the generator of a tag, behind its start and accepted updates
pub data Stands : Given → Counted Held → Type 0 where
  zuc128-new : {key iv : List ℕ} → Bytes key → Bytes iv → (o : StartOutcome) → o ≡ start₁₂₈ key iv → o.number ≡ accepted → Stands (zuc128 key iv) o.state
  eea3-new : (count bearer direction : ℕ) {key : List ℕ} → Bytes key → (o : StartOutcome) → o ≡ start-EEA3 count bearer direction key → o.number ≡ accepted
      → Stands (of_EEA3 count bearer direction key) o.state
  zuc256-new : {key iv : List ℕ} → Bytes key → Bytes iv → (o : StartOutcome) → o ≡ start₂₅₆ d-keystream key iv → o.number ≡ accepted
      → Stands (zuc256 d-keystream key iv) o.state
  zuc256-new-with-d : (width : ℕ) {key iv : List ℕ} → Bytes key → Bytes iv → (o : StartOutcome) → o ≡ start_tag₂₅₆ width key iv → o.number ≡ accepted
      → Stands (zuc256 (row_of width) key iv) o.state
  generate : {a : Given} {g : Counted Held} → Stands a g → (o : DrawOutcome) → o ≡ draw_outcome g → Stands a o.state
  fill : {a : Given} {g : Counted Held} → Stands a g → (buffer : List ℕ) (o : FillOutcome) → o ≡ fill_outcome g buffer → Stands a o.state
  mask : {a : Given} {g : Counted Held} → Stands a g → (words L : ℕ) (buffer masked : List ℕ) (o : Outcome) → o ≡ mask_tested g words L buffer masked
      → Stands a o.state
  tag-zuc128 : {key iv : List ℕ} {parts : List (List ℕ)} {last : Counted Stored} → Bytes key → Bytes iv → (o : mac.Outcome) → o ≡ mac.start_outcome-128 key iv
      → o.number ≡ accepted → Updates formed-128 o.state parts last → Stands (zuc128 key iv) (generator_in last)
  tag-eia3 : (count bearer direction : ℕ) {key : List ℕ} {parts : List (List ℕ)} {last : Counted Stored} → Bytes key → (o : mac.Outcome)
      → o ≡ mac.start_outcome-EIA3 count bearer direction key → o.number ≡ accepted → Updates formed-128 o.state parts last
      → Stands (of_EIA3 count bearer direction key) (generator_in last)
  tag-zuc256 : (width : ℕ) {key iv : List ℕ} {parts : List (List ℕ)} {last : Counted Stored} → Bytes key → Bytes iv → (o : mac.Outcome)
      → o ≡ mac.start_outcome-256 width key iv → o.number ≡ accepted → Updates formed o.state parts last
      → Stands (zuc256 (row_of width) key iv) (generator_in last)

-- Two states meet: both have drawn as many words (request 2026-09), and they are equal in meaning (2026-08): their cells agree read from the
-- start index, and R1 and R2 beside them
pub record Meet (g k : Counted Held) : Type 0 where
  pub count : g.count ≡ k.count
  pub meaning : g.held.meaning ≡ k.held.meaning

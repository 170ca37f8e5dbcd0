-- What a masking call gives: the standard's tests in their order, then the mask.
use Rattle.std.specs.Prelude.{List, [], ◌∷◌, ℕ, Result, length}
use Rattle.standard.specs.Confidentiality.{mask_crate, mask_clean, words_to_mask_clean, words_to_mask_crate}
use Rattle.standard.specs.Generator.{word_at}
use Rattle.standard.specs.Refusals.{accepted, bits_test, limit_test, state_test, tested}
use Rattle.standard.specs.States.{Counted, Held, drawn_on, generator_formed}
use Rattle.zuc.specs.Reading.{counted_of}
use Rattle.zuc.specs.declared.Generator.{Generator}
use Rattle.refusals.specs.declared.Refusal.{Refusal}
use Rattle.refusals.specs.Numbers.{answer_number}
use Rattle.std.specs.Result.{result_unwrap_or}

-- all that a call gives: its number, the count of words drawn, the state handed back, and the buffer
pub record Outcome : Type 0 where
  pub number : ℕ
  pub count : ℕ
  pub state : Counted Held
  pub buffer : List ℕ

abbrev pub told : Result ℕ Refusal → Generator → List ℕ → Outcome
told r g buffer = record { number = answer_number r; count = result_unwrap_or r 0; state = counted_of g; buffer = buffer }

-- a refusal hands back state and buffer as they came, and a zero count
abbrev pub refused : Counted Held → List ℕ → ℕ → Outcome
refused g buffer number = record { number = number; count = 0; state = g; buffer = buffer }

-- so many words drawn, and this buffer
abbrev pub drawn : ℕ → Counted Held → List ℕ → Outcome
drawn count g buffer = record { number = accepted; count = count; state = drawn_on count g; buffer = buffer }

-- a mask that draws so many words: both modes' tests, whatever the mask
unfoldable pub mask_tested : Counted Held → ℕ → ℕ → List ℕ → List ℕ → Outcome
mask_tested g words L buffer masked =
    tested (state_test (generator_formed g) ∷ bits_test L buffer ∷ limit_test g.count words ∷ []) (refused g buffer) (drawn words g masked)

abbrev pub crate_outcome : Counted Held → ℕ → List ℕ → Outcome
crate_outcome g L buffer = mask_tested g (words_to_mask_crate (length buffer)) L buffer (mask_crate (word_at g.held.meaning) L buffer)

abbrev pub clean_outcome : Counted Held → ℕ → List ℕ → Outcome
clean_outcome g L buffer = mask_tested g (words_to_mask_clean L) L buffer (mask_clean (word_at g.held.meaning) L buffer)

-- clean mode as it was before request 2026-02, with crate mode's words: theorems hold the buffer to it, and no call does
abbrev pub clean_outcome_before : Counted Held → ℕ → List ℕ → Outcome
clean_outcome_before g L buffer = mask_tested g (words_to_mask_crate (length buffer)) L buffer (mask_clean (word_at g.held.meaning) L buffer)

-- Both modes as one, by a test, for inner functions and theorems alone: at true each definition is clean mode's, at false crate mode's.
use Rattle.std.specs.Prelude.{Bool, List, ℕ, length, if◌then◌else◌}
use Rattle.standard.specs.Confidentiality.{IV-EEA3, bytes_iv-EEA3, mask_clean, mask_crate, words_to_mask_clean, words_to_mask_crate}
use Rattle.standard.specs.Generator.{keystream, word_at}
use Rattle.standard.specs.Loading.{load₁₂₈}
use Rattle.standard.specs.States.{Counted, Held}
use Rattle.mask.specs.Outcome.{Outcome, mask_tested}
use Rattle.mask.specs.Once.{Once, plain_tested, strict_tested}

abbrev pub mode_words : Bool → ℕ → List ℕ → ℕ
mode_words clean L buffer = if clean then words_to_mask_clean L else words_to_mask_crate (length buffer)

abbrev pub mode_mask : Bool → (ℕ → ℕ) → ℕ → List ℕ → List ℕ
mode_mask clean words L buffer = if clean then mask_clean words L buffer else mask_crate words L buffer

abbrev pub mask_outcome : Bool → Counted Held → ℕ → List ℕ → Outcome
mask_outcome clean g L buffer = mask_tested g (mode_words clean L buffer) L buffer (mode_mask clean (word_at g.held.meaning) L buffer)

abbrev pub plain-EEA3 : Bool → (count bearer direction : ℕ) (key : List ℕ) (L : ℕ) (buffer : List ℕ) → Once
plain-EEA3 clean count bearer direction key L buffer =
    plain_tested key (mode_words clean L buffer) L buffer (mode_mask clean (keystream (load₁₂₈ key (IV-EEA3 count bearer direction))) L buffer)

abbrev pub strict-EEA3 : Bool → (count bearer direction : ℕ) (key : List ℕ) (L : ℕ) (buffer : List ℕ) → Once
strict-EEA3 clean count bearer direction key L buffer =
    strict_tested bearer direction key (mode_words clean L buffer) L buffer (mode_mask clean (keystream (load₁₂₈ key (bytes_iv-EEA3 count bearer direction))) L buffer)

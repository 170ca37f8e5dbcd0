-- What EEA3 in one call gives (request 2026-04): the standard's tests in their order, then the mask by the keystream of the loaded key and IV,
-- with no state in between.
use Rattle.std.specs.Prelude.{List, [], ◌∷◌, ℕ, Result, length}
use Rattle.standard.specs.Confidentiality.{IV-EEA3, bytes_iv-EEA3, mask_clean, mask_crate, words_to_mask_clean, words_to_mask_crate}
use Rattle.standard.specs.Generator.{keystream}
use Rattle.standard.specs.Loading.{load₁₂₈}
use Rattle.standard.specs.Refusals.{accepted, bits_test, field_test, key_test, limit_test, tested}
use Rattle.mask.specs.Outcome.{Outcome}
use Rattle.refusals.specs.declared.Refusal.{Refusal}
use Rattle.refusals.specs.Numbers.{answer_number}
use Rattle.std.specs.Result.{result_unwrap_or}

-- all that a call gives: its number, the count of words drawn, and the buffer
pub record Once : Type 0 where
  pub number : ℕ
  pub count : ℕ
  pub buffer : List ℕ

abbrev pub once_told : Result ℕ Refusal → List ℕ → Once
once_told r buffer = record { number = answer_number r; count = result_unwrap_or r 0; buffer = buffer }

-- a refusal hands back the buffer as it came, and a zero count
abbrev pub refused_once : List ℕ → ℕ → Once
refused_once buffer number = record { number = number; count = 0; buffer = buffer }

abbrev pub drawn_once : ℕ → List ℕ → Once
drawn_once count buffer = record { number = accepted; count = count; buffer = buffer }

-- what is seen of a mask from a state that nobody sees
abbrev pub without_state : Outcome → Once
without_state o = record { number = o.number; count = o.count; buffer = o.buffer }

-- a mask that draws so many words of a fresh start, whatever the mask: the plain form's tests, and the strict one's
unfoldable pub plain_tested : List ℕ → ℕ → ℕ → List ℕ → List ℕ → Once
plain_tested key words L buffer masked =
    tested (key_test 16 key ∷ bits_test L buffer ∷ limit_test 0 words ∷ []) (refused_once buffer) (drawn_once words masked)

unfoldable pub strict_tested : ℕ → ℕ → List ℕ → ℕ → ℕ → List ℕ → List ℕ → Once
strict_tested bearer direction key words L buffer masked =
    tested (key_test 16 key ∷ field_test bearer direction ∷ bits_test L buffer ∷ limit_test 0 words ∷ []) (refused_once buffer) (drawn_once words masked)

-- crate mode and clean mode
abbrev pub crate-EEA3 : (count bearer direction : ℕ) (key : List ℕ) (L : ℕ) (buffer : List ℕ) → Once
crate-EEA3 count bearer direction key L buffer =
    plain_tested key (words_to_mask_crate (length buffer)) L buffer (mask_crate (keystream (load₁₂₈ key (IV-EEA3 count bearer direction))) L buffer)

abbrev pub clean-EEA3 : (count bearer direction : ℕ) (key : List ℕ) (L : ℕ) (buffer : List ℕ) → Once
clean-EEA3 count bearer direction key L buffer =
    plain_tested key (words_to_mask_clean L) L buffer (mask_clean (keystream (load₁₂₈ key (IV-EEA3 count bearer direction))) L buffer)

-- and strictly: bearer and direction as given, in the document's IV
abbrev pub strict_crate-EEA3 : (count bearer direction : ℕ) (key : List ℕ) (L : ℕ) (buffer : List ℕ) → Once
strict_crate-EEA3 count bearer direction key L buffer =
    strict_tested bearer direction key (words_to_mask_crate (length buffer)) L buffer (mask_crate (keystream (load₁₂₈ key (bytes_iv-EEA3 count bearer direction))) L buffer)

abbrev pub strict_clean-EEA3 : (count bearer direction : ℕ) (key : List ℕ) (L : ℕ) (buffer : List ℕ) → Once
strict_clean-EEA3 count bearer direction key L buffer =
    strict_tested bearer direction key (words_to_mask_clean L) L buffer (mask_clean (keystream (load₁₂₈ key (bytes_iv-EEA3 count bearer direction))) L buffer)

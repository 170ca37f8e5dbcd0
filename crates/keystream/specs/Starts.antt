-- What the starts answer: the standard's tests in their order, then the started state.
use Rattle.std.specs.Prelude.{List, [], ◌∷◌, ℕ, Result, Ok, Err}
use Rattle.refusals.specs.declared.Refusal.{Refusal}
use Rattle.refusals.specs.Numbers.{refusal_number}
use Rattle.standard.specs.Confidentiality.{IV-EEA3, bytes_iv-EEA3}
use Rattle.standard.specs.Generator.{State, started}
use Rattle.standard.specs.Loading.{load₁₂₈, load₂₅₆, row_of}
use Rattle.standard.specs.Refusals.{accepted, field_test, iv_test, key_test, tested, width_test}
use Rattle.standard.specs.States.{Counted, Held, from_start, from_zero, zeros}
use Rattle.zuc.specs.Reading.{counted_of}
use Rattle.zuc.specs.declared.Generator as declared

-- all that a start gives: its number and the state
pub record StartOutcome : Type 0 where
  pub number : ℕ
  pub state : Counted Held

-- an accepted start hands back the started state, a refused one zeros
abbrev pub accepted_start : State → StartOutcome
accepted_start loaded = record { number = accepted; state = from_start (from_zero (started loaded)) }

abbrev pub refused_start : ℕ → StartOutcome
refused_start number = record { number = number; state = from_start zeros }

abbrev pub start_told : Result declared.Generator Refusal → StartOutcome
start_told (Ok g) = record { number = accepted; state = counted_of g }
start_told (Err refusal) = refused_start (refusal_number refusal)

unfoldable pub start₁₂₈ : List ℕ → List ℕ → StartOutcome
start₁₂₈ key iv = tested (key_test 16 key ∷ iv_test 16 iv ∷ []) refused_start (accepted_start (load₁₂₈ key iv))

unfoldable pub start-EEA3 : ℕ → ℕ → ℕ → List ℕ → StartOutcome
start-EEA3 count bearer direction key = tested (key_test 16 key ∷ []) refused_start (accepted_start (load₁₂₈ key (IV-EEA3 count bearer direction)))

-- request 2026-04: bearer and direction as given, in the document's IV
unfoldable pub strict_start-EEA3 : ℕ → ℕ → ℕ → List ℕ → StartOutcome
strict_start-EEA3 count bearer direction key =
    tested (key_test 16 key ∷ field_test bearer direction ∷ []) refused_start (accepted_start (load₁₂₈ key (bytes_iv-EEA3 count bearer direction)))

-- ZUC-256, with a row of constants d; and of a tag of a width, with that width's row
unfoldable pub start₂₅₆ : List ℕ → List ℕ → List ℕ → StartOutcome
start₂₅₆ d key iv = tested (key_test 32 key ∷ iv_test 23 iv ∷ []) refused_start (accepted_start (load₂₅₆ d key iv))

unfoldable pub start_tag₂₅₆ : ℕ → List ℕ → List ℕ → StartOutcome
start_tag₂₅₆ width key iv =
    tested (width_test width ∷ key_test 32 key ∷ iv_test 23 iv ∷ []) refused_start (accepted_start (load₂₅₆ (row_of width) key iv))

-- What the calls of tags answer: the standard's tests in their order, then the tag. Updates and closings answer by the running rule
-- (mac_registers/specs/Tagging.antt), which the theorems rule-… of proofs/Theorems.antt make unnecessary to believe.
use Rattle.std.specs.Prelude.{Bool, List, [], ◌∷◌, ℕ, ◌+◌, ◌*◌, Result, Ok, Err, ⊤, length}
use Rattle.standard.specs.Generator.{State, keystream, started}
use Rattle.standard.specs.Integrity.{IV-EIA3, bytes_iv-EIA3, drawn_after-EIA3, drawn_after-ZUC256, drawn_by_tag-EIA3, drawn_by_tag-ZUC256, tag-EIA3, tag-ZUC256, words_to_close-EIA3, words_to_close-ZUC256, words_to_update}
use Rattle.standard.specs.Loading.{load₁₂₈, load₂₅₆, row_of}
use Rattle.standard.specs.Refusals.{accepted, bits_test, field_test, iv_test, key_test, limit_test, state_test, tested, width_test}
use Rattle.standard.specs.States.{Counted, Stored, formed, formed-128, from_start, from_zero, tag_formed, zero_stored}
use Rattle.refusals.specs.declared.Refusal.{Refusal}
use Rattle.refusals.specs.Numbers.{answer_number, refusal_number}
use Rattle.std.specs.Result.{result_unwrap_or}
use Rattle.mac_registers.specs.Stored.{packed, tag_words, tagging_of}
use Rattle.mac_registers.specs.Tagging.{begun-EIA3, begun-ZUC256, closed-EIA3, closed-ZUC256, updated}

-- a start and an update give a number and a state
pub record Outcome : Type 0 where
  pub number : ℕ
  pub state : Counted Stored

-- an accepted start hands back a tag state begun over what was loaded, and the words drawn for it; a refused one zeros
abbrev pub begun_tag-128 : State → Outcome
begun_tag-128 loaded =
    record { number = accepted; state = record { held = packed 4 (begun-EIA3 (from_zero (started loaded))); count = drawn_after-EIA3 0 } }

abbrev pub begun_tag-256 : ℕ → State → Outcome
begun_tag-256 width loaded =
    record {
      number = accepted;
      state = record { held = packed width (begun-ZUC256 (width * 8) (from_zero (started loaded))); count = drawn_after-ZUC256 (width * 8) 0 };
    }

abbrev pub refused_tag : ℕ → Outcome
refused_tag number = record { number = number; state = from_start zero_stored }

-- whichever of the two types of tag states it hands back, by how that is read
abbrev pub tag_told : {Mac : Type 0} → (Mac → Counted Stored) → Result Mac Refusal → Outcome
tag_told read (Ok mac) = record { number = accepted; state = read mac }
tag_told read (Err refusal) = refused_tag (refusal_number refusal)

unfoldable pub start_outcome-128 : List ℕ → List ℕ → Outcome
start_outcome-128 key iv = tested (key_test 16 key ∷ iv_test 16 iv ∷ []) refused_tag (begun_tag-128 (load₁₂₈ key iv))

unfoldable pub start_outcome-EIA3 : ℕ → ℕ → ℕ → List ℕ → Outcome
start_outcome-EIA3 count bearer direction key =
    tested (key_test 16 key ∷ []) refused_tag (begun_tag-128 (load₁₂₈ key (IV-EIA3 count bearer direction)))

-- request 2026-04: bearer and direction as given, in the document's IV
unfoldable pub strict_start_outcome-EIA3 : ℕ → ℕ → ℕ → List ℕ → Outcome
strict_start_outcome-EIA3 count bearer direction key =
    tested (key_test 16 key ∷ field_test bearer direction ∷ []) refused_tag (begun_tag-128 (load₁₂₈ key (bytes_iv-EIA3 count bearer direction)))

unfoldable pub start_outcome-256 : ℕ → List ℕ → List ℕ → Outcome
start_outcome-256 width key iv =
    tested (width_test width ∷ key_test 32 key ∷ iv_test 23 iv ∷ []) refused_tag (begun_tag-256 width (load₂₅₆ (row_of width) key iv))

-- an update's answer, and the state after it
abbrev pub update_told : Result ⊤ Refusal → Counted Stored → Outcome
update_told r s = record { number = answer_number r; state = s }

-- the words that an update draws, and the state after it: the bytes are taken in, one after the other
abbrev pub update_words : Stored → List ℕ → ℕ
update_words s message = words_to_update (s.width * 8) s.cnt (length message)

abbrev pub taken_in : Counted Stored → List ℕ → Counted Stored
taken_in s message =
    record {
      held = packed s.held.width (updated (s.held.width * 8) (tagging_of s.held) message);
      count = s.count + update_words s.held message;
    }

-- by whether the state is well formed; a refusal hands back the caller's state
abbrev pub refused_update : Counted Stored → ℕ → Outcome
refused_update s number = record { number = number; state = s }

unfoldable pub update_outcome : Bool → Counted Stored → List ℕ → Outcome
update_outcome ok s message =
    tested (state_test ok ∷ limit_test s.count (update_words s.held message) ∷ []) (refused_update s)
    (record { number = accepted; state = taken_in s message })

-- a closing gives a number, the tag (in the words that the answer has) and a state
pub record Closing (Tag : Type 0) : Type 0 where
  pub number : ℕ
  pub tag : Tag
  pub state : Counted Stored

-- a closing's answer, with what stands for no tag, and the state after it
abbrev pub finish_told : {Tag : Type 0} → Tag → Result Tag Refusal → Counted Stored → Closing Tag
finish_told none r s = record { number = answer_number r; tag = result_unwrap_or r none; state = s }

-- a refusal hands back a tag of zero and the caller's state; else the tag, and a state of zeros
abbrev pub refused_closing : {Tag : Type 0} → Tag → Counted Stored → ℕ → Closing Tag
refused_closing none s number = record { number = number; tag = none; state = s }

-- by whether the state is well formed, and the words that the closing draws
unfoldable pub closing : {Tag : Type 0} → Tag → Bool → Counted Stored → ℕ → List ℕ → ℕ → Tag → Closing Tag
closing none ok s words tail l tag =
    tested (state_test ok ∷ bits_test l tail ∷ limit_test s.count words ∷ []) (refused_closing none s)
    (record { number = accepted; tag = tag; state = from_start zero_stored })

abbrev pub close_words-128 : Stored → ℕ → ℕ
close_words-128 s l = words_to_close-EIA3 s.cnt l

unfoldable pub finish_outcome-128 : Counted Stored → List ℕ → ℕ → Closing ℕ
finish_outcome-128 s tail l =
    closing 0 (tag_formed formed-128 s) s (close_words-128 s.held l) tail l (closed-EIA3 (tagging_of s.held) tail l)

abbrev pub no_words : List ℕ
no_words = 0 ∷ 0 ∷ []

abbrev pub close_words-256 : Stored → ℕ → ℕ
close_words-256 s l = words_to_close-ZUC256 (s.width * 8) s.cnt l

unfoldable pub finish_outcome-256 : Counted Stored → List ℕ → ℕ → Closing (List ℕ)
finish_outcome-256 s tail l =
    closing no_words (tag_formed formed s) s (close_words-256 s.held l) tail l
    (tag_words s.held.width (closed-ZUC256 (s.held.width * 8) (tagging_of s.held) tail l))

-- a one-shot gives a number and the tag, of zero where it is refused
pub record Once (Tag : Type 0) : Type 0 where
  pub number : ℕ
  pub tag : Tag

abbrev pub refused_once : {Tag : Type 0} → Tag → ℕ → Once Tag
refused_once none number = record { number = number; tag = none }

abbrev pub once_told : {Tag : Type 0} → Tag → Result Tag Refusal → Once Tag
once_told none r = record { number = answer_number r; tag = result_unwrap_or r none }

-- the standard's tag of the message over the keystream of what was loaded
unfoldable pub once_outcome-128 : List ℕ → List ℕ → List ℕ → ℕ → Once ℕ
once_outcome-128 key iv message l =
    tested (key_test 16 key ∷ iv_test 16 iv ∷ bits_test l message ∷ limit_test 0 (drawn_by_tag-EIA3 l) ∷ []) (refused_once 0)
    (record { number = accepted; tag = tag-EIA3 (keystream (load₁₂₈ key iv)) message l })

unfoldable pub once_outcome-EIA3 : ℕ → ℕ → ℕ → List ℕ → List ℕ → ℕ → Once ℕ
once_outcome-EIA3 count bearer direction key message l =
    tested (key_test 16 key ∷ bits_test l message ∷ limit_test 0 (drawn_by_tag-EIA3 l) ∷ []) (refused_once 0)
    (record { number = accepted; tag = tag-EIA3 (keystream (load₁₂₈ key (IV-EIA3 count bearer direction))) message l })

-- request 2026-04
unfoldable pub strict_once_outcome-EIA3 : ℕ → ℕ → ℕ → List ℕ → List ℕ → ℕ → Once ℕ
strict_once_outcome-EIA3 count bearer direction key message l =
    tested (key_test 16 key ∷ field_test bearer direction ∷ bits_test l message ∷ limit_test 0 (drawn_by_tag-EIA3 l) ∷ []) (refused_once 0)
    (record { number = accepted; tag = tag-EIA3 (keystream (load₁₂₈ key (bytes_iv-EIA3 count bearer direction))) message l })

unfoldable pub once_outcome-256 : ℕ → List ℕ → List ℕ → List ℕ → ℕ → Once (List ℕ)
once_outcome-256 width key iv message l =
    tested (width_test width ∷ key_test 32 key ∷ iv_test 23 iv ∷ bits_test l message ∷ limit_test 0 (drawn_by_tag-ZUC256 (width * 8) l) ∷ []) (refused_once no_words)
    (record { number = accepted; tag = tag_words width (tag-ZUC256 (width * 8) (keystream (load₂₅₆ (row_of width) key iv)) message l) })

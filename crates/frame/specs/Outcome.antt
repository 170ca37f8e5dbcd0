-- What writing and reading a frame give (request 2026-01): the tests in their order, then the standard's frame, or its contents.
use Rattle.std.specs.Prelude.{List, [], ◌∷◌, ℕ, ◌-◌, Result, Ok, Err, ⊤, eqb, leb, length, ◌&&◌}
use Rattle.standard.specs.Frame.{Fields, beside_bytes, body_fits, body_in, fields_in, frame_of, masked_body, most_bytes, tag_in, tag_over, two_at, version, with_body}
use Rattle.standard.specs.Integrity.{drawn_by_tag-EIA3}
use Rattle.standard.specs.Notation.{◌⟨◌⟩}
use Rattle.standard.specs.Refusals.{Test, accepted, bad_body, bad_frame, bad_length, bad_tag, field_test, key_test, limit_test, tested}
use Rattle.frame.specs.declared.FrameFields.{FrameFields}
use Rattle.refusals.specs.declared.Refusal.{Refusal}
use Rattle.refusals.specs.Numbers.{answer_number, refusal_number}

-- the struct of the code, read as the standard's fields
abbrev pub fields_of : FrameFields → Fields
fields_of f = record { COUNT = f.count; bearer = f.bearer; direction = f.direction; L = f.bits }

abbrev pub no_fields : Fields
no_fields = record { COUNT = 0; bearer = 0; direction = 0; L = 0 }

-- TESTS of the bytes lent, for a writer; of the bytes lent and the version, and of the length field, for a reader
abbrev pub least_test : List ℕ → Test
least_test frame = record { passes = leb beside_bytes (length frame); number = bad_frame }

abbrev pub most_test : List ℕ → Test
most_test frame = record { passes = leb (length frame) most_bytes; number = bad_length }

abbrev pub version_test : List ℕ → Test
version_test frame = record { passes = leb beside_bytes (length frame) && eqb (frame ⟨ 0 ⟩) version; number = bad_frame }

abbrev pub length_test : List ℕ → Test
length_test frame = record { passes = eqb (two_at frame 1) (length frame - 3); number = bad_length }

-- of fields; of a body; of the words that EIA3 draws, which are more than EEA3's; of the tag, over the masked body
abbrev pub range_test : Fields → Test
range_test f = field_test f.bearer f.direction

abbrev pub body_test : Fields → List ℕ → Test
body_test f frame = record { passes = body_fits f.L (body_in frame); number = bad_body }

abbrev pub draw_test : Fields → Test
draw_test f = limit_test 0 (drawn_by_tag-EIA3 f.L)

abbrev pub tag_test : List ℕ → List ℕ → Test
tag_test IK frame = record { passes = eqb (tag_in frame) (tag_over IK (fields_in frame) (body_in frame)); number = bad_tag }

-- WRITING: the number, and the frame
pub record Written : Type 0 where
  pub number : ℕ
  pub frame : List ℕ

abbrev pub written_told : Result ⊤ Refusal → List ℕ → Written
written_told r frame = record { number = answer_number r; frame = frame }

abbrev pub write_tests : (CK IK : List ℕ) → Fields → List ℕ → List Test
write_tests CK IK f frame =
    key_test 16 CK ∷ key_test 16 IK ∷ least_test frame ∷ most_test frame ∷ range_test f ∷ body_test f frame ∷ draw_test f ∷ []

-- a refusal leaves the frame as it came
unfoldable pub write_outcome : (CK IK : List ℕ) → Fields → List ℕ → Written
write_outcome CK IK f frame =
    tested (write_tests CK IK f frame) (λ number. record { number = number; frame = frame })
    (record { number = accepted; frame = frame_of CK IK f (body_in frame) })

-- READING: the number, the fields, and the frame with its body unmasked
pub record Readout : Type 0 where
  pub number : ℕ
  pub fields : Fields
  pub frame : List ℕ

abbrev pub read_told : Result FrameFields Refusal → List ℕ → Readout
read_told (Ok f) frame = record { number = accepted; fields = fields_of f; frame = frame }
read_told (Err refusal) frame = record { number = refusal_number refusal; fields = no_fields; frame = frame }

abbrev pub read_tests : (CK IK : List ℕ) → List ℕ → List Test
read_tests CK IK frame =
    key_test 16 CK ∷ key_test 16 IK ∷ version_test frame ∷ length_test frame ∷ range_test (fields_in frame) ∷ body_test (fields_in frame) frame ∷ draw_test (fields_in frame)
    ∷ tag_test IK frame ∷ []

-- a refusal leaves the frame as it came, with its body masked, and answers no fields. (Masked twice in clean mode a body is plain again)
unfoldable pub read_outcome : (CK IK : List ℕ) → List ℕ → Readout
read_outcome CK IK frame =
    tested (read_tests CK IK frame) (λ number. record { number = number; fields = no_fields; frame = frame })
    (record { number = accepted; fields = fields_in frame; frame = with_body frame (masked_body CK (fields_in frame) (body_in frame)) })

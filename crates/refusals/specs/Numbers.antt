-- Refusals read as the standard's numbers, and the number that an answer tells. Its value is the library's `result_unwrap_or`.
use Rattle.std.specs.Prelude.{ℕ, Result, Ok, Err}
use Rattle.refusals.specs.declared.Refusal.{Refusal}
use Rattle.refusals.specs.declared.Refusal.TheVariants.{BadWidth, BadKey, BadIv, BadState, BadBits, BadFrame, BadLength, BadField, BadBody, BadTag, BadReuse, BadAge, BadLink, Spent}
use Rattle.standard.specs.Refusals.{accepted, bad_age, bad_bits, bad_body, bad_field, bad_frame, bad_iv, bad_key, bad_length, bad_link, bad_reuse, bad_state, bad_tag, bad_width, spent}

abbrev pub refusal_number : Refusal → ℕ
refusal_number BadWidth = bad_width
refusal_number BadKey = bad_key
refusal_number BadIv = bad_iv
refusal_number BadState = bad_state
refusal_number BadBits = bad_bits
refusal_number BadFrame = bad_frame
refusal_number BadLength = bad_length
refusal_number BadField = bad_field
refusal_number BadBody = bad_body
refusal_number BadTag = bad_tag
refusal_number BadReuse = bad_reuse
refusal_number BadAge = bad_age
refusal_number BadLink = bad_link
refusal_number Spent = spent

abbrev pub answer_number : {A : Type 0} → Result A Refusal → ℕ
answer_number (Ok value) = accepted
answer_number (Err refusal) = refusal_number refusal

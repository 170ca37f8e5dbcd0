-- The sealed block of request 2026-01 (document 02): a frame that two vendors can read. All its numbers are big-endian.
--
--   byte 0          the version, 1
--   bytes 1..2      the length of all that follows them
--   bytes 3..6      COUNT
--   byte 7          bearer
--   byte 8          direction
--   bytes 9..12     the bit length L
--   from byte 13    the body, ceil(L/8) bytes, at most 65521
--   the last four   the tag
use Rattle.std.specs.Prelude.{Bool, ◌&&◌, List, [], ◌∷◌, ◌++◌, ℕ, ◌+◌, ◌-◌, eqb, drop, length, take}
use Rattle.standard.specs.Bits.{byte_of, bytes_of}
use Rattle.standard.specs.Confidentiality.{bytes_iv-EEA3, keep_high, kept_by_clean, mask_clean}
use Rattle.standard.specs.Generator.{keystream}
use Rattle.standard.specs.Integrity.{bytes_iv-EIA3, tag-EIA3}
use Rattle.standard.specs.Loading.{load₁₂₈}
use Rattle.standard.specs.Notation.{◌⟨◌⟩, ◌‖₈◌, ceil}

abbrev pub version : ℕ
version = 1

-- the bytes before the body, and all those beside it; the most that a frame has
abbrev pub head_bytes : ℕ
head_bytes = 13

abbrev pub beside_bytes : ℕ
beside_bytes = 17

abbrev pub most_bytes : ℕ
most_bytes = 65538

-- what a frame carries beside its body
pub record Fields : Type 0 where
  pub COUNT : ℕ
  pub bearer : ℕ
  pub direction : ℕ
  pub L : ℕ

-- the body under the confidentiality key: masked under EEA3 in clean mode
unfoldable pub masked_body : List ℕ → Fields → List ℕ → List ℕ
masked_body CK f body = mask_clean (keystream (load₁₂₈ CK (bytes_iv-EEA3 f.COUNT f.bearer f.direction))) f.L body

-- the tag under the integrity key: EIA3 of the masked body's L bits
unfoldable pub tag_over : List ℕ → Fields → List ℕ → ℕ
tag_over IK f masked = tag-EIA3 (keystream (load₁₂₈ IK (bytes_iv-EIA3 f.COUNT f.bearer f.direction))) masked f.L

-- the bytes before a body of n bytes
unfoldable pub head_of : Fields → ℕ → List ℕ
head_of f n =
    version ∷ byte_of (n + 14) 2 ∷ byte_of (n + 14) 3 ∷ [] ++ bytes_of f.COUNT ++ (f.bearer ∷ f.direction ∷ []) ++ bytes_of f.L

-- THE FRAME of these fields and a plain body, under the two keys
unfoldable pub frame_of : (CK IK : List ℕ) → Fields → List ℕ → List ℕ
frame_of CK IK f body = head_of f (length body) ++ (masked_body CK f body ++ bytes_of (tag_over IK f (masked_body CK f body)))

-- What stands in a frame: a number of two bytes and of four at a place; head, body and tag; the fields
abbrev pub two_at : List ℕ → ℕ → ℕ
two_at frame i = frame ⟨ i ⟩ ‖₈ frame ⟨ i + 1 ⟩

abbrev pub four_at : List ℕ → ℕ → ℕ
four_at frame i = frame ⟨ i ⟩ ‖₈ frame ⟨ i + 1 ⟩ ‖₈ frame ⟨ i + 2 ⟩ ‖₈ frame ⟨ i + 3 ⟩

abbrev pub body_in : List ℕ → List ℕ
body_in frame = take (length frame - beside_bytes) (drop head_bytes frame)

abbrev pub tag_in : List ℕ → ℕ
tag_in frame = four_at frame (length frame - 4)

abbrev pub fields_in : List ℕ → Fields
fields_in frame = record { COUNT = four_at frame 3; bearer = frame ⟨ 7 ⟩; direction = frame ⟨ 8 ⟩; L = four_at frame 9 }

-- the frame with another body of that length in it, and no other byte touched
abbrev pub with_body : List ℕ → List ℕ → List ℕ
with_body frame body = take head_bytes frame ++ (body ++ drop (length frame - beside_bytes) (drop head_bytes frame))

-- a body of L bits: ceil(L/8) bytes, and no bit past L set in the last one
unfoldable pub body_fits : ℕ → List ℕ → Bool
body_fits L body =
    eqb (ceil L 8) (length body)
    && eqb (keep_high (kept_by_clean L (length body - 1)) (body ⟨ length body - 1 ⟩)) (body ⟨ length body - 1 ⟩)

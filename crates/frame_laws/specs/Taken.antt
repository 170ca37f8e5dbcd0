-- What a writer and a reader take, in the words of request 2026-01, without the order in which it is tested.
use Rattle.std.specs.Prelude.{List, ◌≡◌, ℕ, ◌-◌, ◌^◌, ◌<◌, ◌≤◌, length}
use Rattle.standard.specs.Bits.{M}
use Rattle.standard.specs.Frame.{Fields, body_in, fields_in, frame_of, tag_in, tag_over, two_at}
use Rattle.standard.specs.Notation.{◌⟨◌⟩, ceil}

-- no bit of the body is set at L or past it
abbrev pub NoBitPast : ℕ → List ℕ → Type 0
NoBitPast L body = (i : ℕ) → L ≤ i → M body i ≡ 0

-- a writer takes these keys and fields and the frame lent, with the plain body at byte 13
pub record Writable (CK IK : List ℕ) (f : Fields) (frame : List ℕ) : Type 0 where
  pub CK-bytes : length CK ≡ 16
  pub IK-bytes : length IK ≡ 16
  pub least : 17 ≤ length frame
  pub most : length frame ≤ 65538
  pub bearer : f.bearer ≤ 31
  pub direction : f.direction ≤ 1
  pub body_bytes : ceil f.L 8 ≡ length frame - 17
  pub no-bit-past : NoBitPast f.L (body_in frame)

-- all that a reader asks of the keys and of the frame lent, with the masked body at byte 13, before it looks at the tag
pub record Framed (CK IK frame : List ℕ) : Type 0 where
  pub CK-bytes : length CK ≡ 16
  pub IK-bytes : length IK ≡ 16
  pub least : 17 ≤ length frame
  pub version : frame ⟨ 0 ⟩ ≡ 1
  pub length-field : two_at frame 1 ≡ length frame - 3
  pub bearer : (fields_in frame).bearer ≤ 31
  pub direction : (fields_in frame).direction ≤ 1
  pub body_bytes : ceil (fields_in frame).L 8 ≡ length frame - 17
  pub no-bit-past : NoBitPast (fields_in frame).L (body_in frame)

-- and the tag is EIA3's of the masked body
abbrev pub TagRight : (IK frame : List ℕ) → Type 0
TagRight IK frame = tag_in frame ≡ tag_over IK (fields_in frame) (body_in frame)

-- contents that a frame can have: fields in range, and a plain body of L bits, at most 65521 bytes
pub record Contents (f : Fields) (body : List ℕ) : Type 0 where
  pub bearer : f.bearer ≤ 31
  pub direction : f.direction ≤ 1
  pub most : length body ≤ 65521
  pub bytes : ceil f.L 8 ≡ length body
  pub no-bit-past : NoBitPast f.L body

-- a frame of some contents under two keys of 16 bytes, with a COUNT of 32 bits
pub record Sealed (CK IK frame : List ℕ) : Type 0 where
  pub CK-bytes : length CK ≡ 16
  pub IK-bytes : length IK ≡ 16
  pub fields : Fields
  pub body : List ℕ
  pub count : fields.COUNT < 2 ^ 32
  pub contents : Contents fields body
  pub is : frame ≡ frame_of CK IK fields body

-- The table of refusal numbers (document 01, "Refusal numbers, in order of checking"), and what deciding by it means.
-- Each number is given when, and only when, the words beside it hold and no test before it failed. Later requests add theirs here.
-- Document 01's are checked in rising order; a request says its own order.
use Rattle.std.specs.Prelude.{Bool, ◌&&◌, not, List, [], ◌∷◌, ℕ, ◌+◌, ◌*◌, eqb, leb, ltb, length, if◌then◌else◌}
use Rattle.standard.specs.Integrity.{is_width}
use Rattle.standard.specs.States.{limit}

-- no refusal
abbrev pub accepted : ℕ
accepted = 0

-- the tag width is not 4, 8 or 16 bytes
abbrev pub bad_width : ℕ
bad_width = 1

-- the key is not 16 bytes (ZUC-128, EEA3, EIA3) or 32 (ZUC-256)
abbrev pub bad_key : ℕ
bad_key = 2

-- the IV is not 16 bytes (ZUC-128) or 23 (ZUC-256)
abbrev pub bad_iv : ℕ
bad_iv = 3

-- the state is malformed (States.antt says when)
abbrev pub bad_state : ℕ
bad_state = 4

-- the bit length is more than 8 times the bytes lent
abbrev pub bad_bits : ℕ
bad_bits = 5

-- Request 2026-01 (a sealed block), checked after 2 in this order: 6, 7, 8, 9, then the limit's 16, then 10.
-- fewer than 17 bytes are lent, or, where a frame is read, its version is not 1
abbrev pub bad_frame : ℕ
bad_frame = 6

-- the length field is not the bytes lent less 3; where a frame is written, more than 65538 bytes are lent
abbrev pub bad_length : ℕ
bad_length = 7

-- ceil(L/8) is not the bytes lent less 17, or a bit past L is set in the body's last byte
abbrev pub bad_body : ℕ
bad_body = 9

-- the tag is wrong
abbrev pub bad_tag : ℕ
bad_tag = 10

-- Request 2026-04: a strict form was given a bearer above 31 or a direction above 1; checked directly after 2, and before 5
abbrev pub bad_field : ℕ
bad_field = 8

-- Request 2026-09: the words that the call would draw are more than what is left of its start; checked after 5, or after 4 where 5 does
-- not apply
abbrev pub spent : ℕ
spent = 16

-- Request 2026-03 (a guard over a table of links), checked in this order: 13, 12, 11.
-- no such link
abbrev pub bad_link : ℕ
bad_link = 13

-- the COUNT is more than 63 below the link's highest
abbrev pub bad_age : ℕ
bad_age = 12

-- the COUNT was already accepted
abbrev pub bad_reuse : ℕ
bad_reuse = 11

-- a test that a call makes before it alters anything, and the number that refuses where it fails
pub record Test : Type 0 where
  pub passes : Bool
  pub number : ℕ

abbrev pub width_test : ℕ → Test
width_test width = record { passes = is_width width; number = bad_width }

abbrev pub key_test : ℕ → List ℕ → Test
key_test bytes key = record { passes = eqb (length key) bytes; number = bad_key }

abbrev pub iv_test : ℕ → List ℕ → Test
iv_test bytes iv = record { passes = eqb (length iv) bytes; number = bad_iv }

-- of a bearer and a direction
abbrev pub field_test : ℕ → ℕ → Test
field_test bearer direction = record { passes = leb bearer 31 && leb direction 1; number = bad_field }

abbrev pub state_test : Bool → Test
state_test formed = record { passes = formed; number = bad_state }

abbrev pub bits_test : ℕ → List ℕ → Test
bits_test bits lent = record { passes = leb bits (length lent * 8); number = bad_bits }

-- of a state's count and the words that a call would draw
abbrev pub limit_test : ℕ → ℕ → Test
limit_test count words = record { passes = leb (count + words) limit; number = spent }

-- of a place in a table; of a COUNT and a link's highest one; of whether a COUNT is known as accepted
abbrev pub link_test : {A : Type 0} → ℕ → List A → Test
link_test at table = record { passes = ltb at (length table); number = bad_link }

abbrev pub age_test : ℕ → ℕ → Test
age_test COUNT highest = record { passes = leb highest (COUNT + 63); number = bad_age }

abbrev pub reuse_test : Bool → Test
reuse_test known = record { passes = not known; number = bad_reuse }

-- THE ORDER OF CHECKING: the first test that fails decides, and the call is refused by its number; where none fails, the answer
unfoldable pub tested : {A : Type 0} → List Test → (ℕ → A) → A → A
tested [] refused answer = answer
tested (test ∷ rest) refused answer = if test.passes then tested rest refused answer else refused test.number

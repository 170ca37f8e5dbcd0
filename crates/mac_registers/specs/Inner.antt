-- Inner functions only: what they ask of a tag in the making, and parts of the running rule that they promise.
use Rattle.std.specs.Prelude.{List, ◌⊎◌, ◌≡◌, ℕ, ◌+◌, ◌-◌, ◌*◌, ◌/◌, ◌^◌, ◌<◌, eqb, get_or, length, if◌then◌else◌}
use Rattle.standard.specs.Notation.{◌⟨◌⟩}
use Rattle.standard.specs.Bits.{z}
use Rattle.standard.specs.States.{Held, Stored, moved}
use Rattle.standard.proofs.Held.{Ready}
use Rattle.mac_registers.specs.Stored.{packed, tagging_of}
use Rattle.mac_registers.specs.Tagging.{Tagging}

-- the widths of a tag, in bytes
abbrev pub Width : ℕ → Type 0
Width width = (width ≡ 4) ⊎ ((width ≡ 8) ⊎ (width ≡ 16))

-- a state that a struct of a width can hold, and a struct that holds one: what the inner functions ask
pub record Good (width : ℕ) (st : Tagging) : Type 0 where
  pub a-width : Width width
  pub sound : Ready st.generator
  pub tag-lt : st.tag < 2 ^ (width * 8)
  pub short : length st.waiting < width

pub record Holds (s : Stored) : Type 0 where
  pub good : Good s.width (tagging_of s)
  pub packs : packed s.width (tagging_of s) ≡ s

-- the bits of words drawn before they are used
abbrev pub bits_of : List ℕ → ℕ → ℕ
bits_of words = z (λ j. words ⟨ j ⟩)

-- ZUC-128 and EIA3: the generator after the extra word
unfoldable pub extra_state : Tagging → ℕ → Held
extra_state st n = if eqb n 0 then st.generator else moved 1 st.generator

-- the byte that closes a message, by the byte after it and the r bits of it that are the message's: a set bit stands after them
unfoldable pub last_byte : List ℕ → ℕ → ℕ
last_byte rest r = if eqb r 0 then 128 else (get_or rest 0 0 / 2 ^ (8 - r) * 2 + 1) * 2 ^ (7 - r)

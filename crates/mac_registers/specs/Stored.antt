-- How the struct of the code holds a tag in the making, at a width of 4, 8 or 16 bytes: the reading and the way back.
use Rattle.std.specs.Prelude.{List, [], ◌∷◌, ◌++◌, ℕ, ◌+◌, ◌-◌, ◌*◌, ◌/◌, ◌%◌, ◌^◌, eqb, length, replicate, take, if◌then◌else◌}
use Rattle.standard.specs.Notation.{◌⟨◌⟩}
use Rattle.standard.specs.States.{Held, Stored}
use Rattle.zuc.specs.declared.Zuc.{Zuc}
use Rattle.zuc.specs.Reading.{held_of}
use Rattle.mac_registers.specs.Tagging.{Tagging}
use Rattle.mac_registers.specs.declared.TagOn.{TagOn}

infixl 50 ◌‖₆₄◌
infixl 50 ◌‖₁₂₈◌
-- the struct's fields, its generator read as what it means and its index
abbrev pub stored_by : {G : Type 0} → (G → Held) → TagOn G → Stored
stored_by held s = record { generator = held s.g; key = s.key; tag = s.tag; rem = s.rem; cnt = s.cnt; width = s.width }

abbrev pub stored_of : TagOn Zuc → Stored
stored_of s = stored_by held_of s

-- concatenation a || b, by the width of b
abbrev pub ◌‖₆₄◌ : ℕ → ℕ → ℕ
a ‖₆₄ b = a * 2 ^ 64 + b

abbrev pub ◌‖₁₂₈◌ : ℕ → ℕ → ℕ
a ‖₁₂₈ b = a * 2 ^ 128 + b

-- the key pair of 2t bits in its words: one at 4 bytes, two at 8, four at 16
unfoldable pub key_of : ℕ → List ℕ → ℕ
key_of width k =
    if eqb width 4 then k ⟨ 0 ⟩
    else if eqb width 8 then k ⟨ 0 ⟩ ‖₆₄ k ⟨ 1 ⟩
    else (k ⟨ 0 ⟩ ‖₆₄ k ⟨ 1 ⟩) ‖₁₂₈ (k ⟨ 2 ⟩ ‖₆₄ k ⟨ 3 ⟩)

unfoldable pub key_words : ℕ → ℕ → List ℕ
key_words width k =
    if eqb width 4 then k ∷ 0 ∷ 0 ∷ 0 ∷ []
    else if eqb width 8 then k / 2 ^ 64 ∷ k % 2 ^ 64 ∷ 0 ∷ 0 ∷ []
    else k / 2 ^ 128 / 2 ^ 64 ∷ k / 2 ^ 128 % 2 ^ 64 ∷ k % 2 ^ 128 / 2 ^ 64 ∷ k % 2 ^ 128 % 2 ^ 64 ∷ []

-- the tag of t bits in its words: two at 16 bytes, and else one
unfoldable pub tag_of : ℕ → List ℕ → ℕ
tag_of width t = if eqb width 16 then t ⟨ 0 ⟩ ‖₆₄ t ⟨ 1 ⟩ else t ⟨ 0 ⟩

unfoldable pub tag_words : ℕ → ℕ → List ℕ
tag_words width t = if eqb width 16 then t / 2 ^ 64 ∷ t % 2 ^ 64 ∷ [] else t ∷ 0 ∷ []

-- the reading, and the way back: the bytes that wait stand first, and zeros after them
unfoldable pub tagging_of : Stored → Tagging
tagging_of s =
    record {
      generator = s.generator;
      key = key_of s.width s.key;
      tag = tag_of s.width s.tag;
      waiting = take s.cnt s.rem;
    }

unfoldable pub packed : ℕ → Tagging → Stored
packed width st =
    record {
      generator = st.generator;
      key = key_words width st.key;
      tag = tag_words width st.tag;
      rem = st.waiting ++ replicate (16 - length st.waiting) 0;
      cnt = length st.waiting;
      width = width;
    }

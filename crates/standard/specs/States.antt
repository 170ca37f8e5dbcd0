-- What a call is lent and hands back as a state, and when it is malformed (document 01, "Refusal numbers"; refused by 4).
use Rattle.std.specs.Prelude.{Bool, true, ◌&&◌, List, [], ◌∷◌, ℕ, zero, suc, ◌+◌, ◌-◌, ◌/◌, ◌%◌, ◌^◌, eqb, leb, ltb, drop, length, replicate, if◌then◌else◌}
use Rattle.standard.specs.Notation.{◌⟨◌⟩}
use Rattle.standard.specs.Generator.{State, next}
use Rattle.standard.specs.Integrity.{is_width}

-- a generator's state is malformed when a cell lies outside 1..2147483647
unfoldable pub well_formed : List ℕ → Bool
well_formed [] = true
well_formed (s ∷ rest) = leb 1 s && leb s (2 ^ 31 - 1) && well_formed rest

-- Request 2026-08: the cells stay put, and a state carries the index at which they start. What a call is lent and hands back is the
-- state that is meant, its cells read from that index, and beside it the index
pub record Held : Type 0 where
  pub meaning : State
  pub start : ℕ

-- it is malformed when its cells are, or the start index is above 15
unfoldable pub held_formed : Held → Bool
held_formed h = well_formed h.meaning.cells && ltb h.start 16

-- a start gives index 0
abbrev pub from_zero : State → Held
from_zero σ = record { meaning = σ; start = 0 }

-- each draw raises it by one, from 15 back to 0: what is held after n draws
unfoldable pub moved : ℕ → Held → Held
moved zero h = h
moved (suc n) h = record { meaning = next (moved n h).meaning; start = ((moved n h).start + 1) % 16 }

-- what a refused start hands back
unfoldable pub zeros : Held
zeros = from_zero (record { cells = replicate 16 0; R₁ = 0; R₂ = 0 })

-- Request 2026-09: a start is spent after so many words, those of an EIA3 tag of 2^32 bits
abbrev pub limit : ℕ
limit = 134217730

-- a state carries how many words its start has drawn: 0 after a start, and each draw raises it
pub record Counted (A : Type 0) : Type 0 where
  pub held : A
  pub count : ℕ

abbrev pub from_start : {A : Type 0} → A → Counted A
from_start x = record { held = x; count = 0 }

abbrev pub drawn_on : ℕ → Counted Held → Counted Held
drawn_on n g = record { held = moved n g.held; count = g.count + n }

-- it is malformed when what it holds is, or the count is above the limit
unfoldable pub generator_formed : Counted Held → Bool
generator_formed g = held_formed g.held && leb g.count limit

-- the words that a draw draws, and a fill
abbrev pub words_to_draw : ℕ
words_to_draw = 1

abbrev pub words_to_fill : List ℕ → ℕ
words_to_fill buffer = length buffer

-- A tag's state: the generator, the key pair in four words of 64 bits, the tag in two, sixteen waiting bytes, their count, the width
-- in bytes. Document 01, "What must change shape": key pairs and tags as two or four 64-bit words
pub record Stored : Type 0 where
  pub generator : Held
  pub key : List ℕ
  pub tag : List ℕ
  pub rem : List ℕ
  pub cnt : ℕ
  pub width : ℕ

-- the parts unused at a width: a key pair has twice the tag's bits, so one word at 4 bytes, two at 8, four at 16; a tag of 4 bytes
-- has the low half of its first word, one of 8 bytes all of it
unfoldable pub unused : ℕ → List ℕ → List ℕ → List ℕ
unused width k t =
    if eqb width 4 then k ⟨ 1 ⟩ ∷ k ⟨ 2 ⟩ ∷ k ⟨ 3 ⟩ ∷ t ⟨ 0 ⟩ / 2 ^ 32 ∷ t ⟨ 1 ⟩ ∷ []
    else if eqb width 8 then k ⟨ 2 ⟩ ∷ k ⟨ 3 ⟩ ∷ t ⟨ 1 ⟩ ∷ []
    else []

unfoldable pub all_zero : List ℕ → Bool
all_zero [] = true
all_zero (x ∷ rest) = eqb x 0 && all_zero rest

-- a tag's state is malformed when its generator's is, the width is not 4, 8 or 16, a part unused at its width is not zero,
-- the waiting byte count is not below the width, or a waiting byte at or past that count is not zero
unfoldable pub formed : Stored → Bool
formed s =
    held_formed s.generator && is_width s.width && all_zero (unused s.width s.key s.tag) && ltb s.cnt s.width
    && all_zero (drop s.cnt s.rem)

-- for ZUC-128 and EIA3 also when the width is not 4
unfoldable pub formed-128 : Stored → Bool
formed-128 s = formed s && eqb s.width 4

-- and, by request 2026-09, when the count is above the limit
unfoldable pub tag_formed : (Stored → Bool) → Counted Stored → Bool
tag_formed test s = test s.held && leb s.count limit

-- what a refused tag start and an accepted finish hand back
unfoldable pub zero_stored : Stored
zero_stored = record { generator = zeros; key = replicate 4 0; tag = replicate 2 0; rem = replicate 16 0; cnt = 0; width = 0 }

-- The worked examples P1..P11 of document 01, each case of each: what a definition gives, and what it must be. A number is a list of one.
use Rattle.std.specs.Prelude.{List, [], ◌∷◌, ◌++◌, ℕ, get_or, replicate}
use Rattle.standard.specs.Generator.{State, s₁₆, S, L₁, L₂, W, F}
use Rattle.standard.specs.Loading.{IV₂₅₆}
use Rattle.standard.specs.Confidentiality.{IV-EEA3, mask_crate, mask_clean}
use Rattle.standard.specs.Integrity.{IV-EIA3, tag-EIA3, tag-ZUC256}

pub record Example : Type 0 where
  pub gives : List ℕ
  pub must : List ℕ

abbrev pub number : ℕ → ℕ → Example
number gives must = record { gives = gives ∷ []; must = must ∷ [] }

abbrev pub bytes : List ℕ → List ℕ → Example
bytes gives must = record { gives = gives; must = must }

abbrev all : ℕ → List ℕ
all cell = replicate 16 cell

abbrev full : ℕ → ℕ → State
full R₁ R₂ = record { cells = all 2147483647; R₁ = R₁; R₂ = R₂ }

-- the words of P9 and P10, and those of P11
abbrev four_words : ℕ → ℕ
four_words n = get_or (0x80000000 ∷ 0x00000001 ∷ 0x0000000F ∷ 0x00000100 ∷ []) n 0

abbrev two_words : ℕ → ℕ
two_words n = get_or (0x11223344 ∷ 0x55667788 ∷ []) n 0

abbrev five : List ℕ
five = replicate 5 0

abbrev six_bit_iv : List ℕ
six_bit_iv = replicate 17 0 ++ (0x12 ∷ 0x34 ∷ 0x56 ∷ 0 ∷ 0 ∷ 0 ∷ [])

unfoldable pub examples : List Example
examples =
    -- P1 cells all 2147483647, u = 0
    number (s₁₆ 0 (all 2147483647)) 2147483647 ∷
    -- P2 cells all 1, u = 0 or u = 2147483647
    number (s₁₆ 0 (all 1)) 3309825 ∷
    number (s₁₆ 2147483647 (all 1)) 3309825 ∷
    -- P3 cells all 1 but s15 = 65536, u = 0
    number (s₁₆ 0 (replicate 15 1 ++ (65536 ∷ []))) 3277058 ∷
    -- P4 S
    number (S 0x00010203) 0x3EC25B71 ∷
    number (S 0xFFFFFFFF) 0x60F260F2 ∷
    -- P5 L1, L2
    number (L₁ 1) 0x01040405 ∷
    number (L₂ 1) 0x40404101 ∷
    -- P6 cells all 2147483647, R1 = R2 = 0; then R2 = 1, R1 = 0
    number (W (full 0 0)) 0xFFFFFFFF ∷
    number (F (full 0 0)).R₁ 0x60F260F2 ∷
    number (F (full 0 0)).R₂ 0x60F260F2 ∷
    number (W (full 0 1)) 0 ∷
    -- P7 COUNT 01020304, bearer 37, direction 3: EEA3 IV, EIA3 IV
    bytes (IV-EEA3 0x01020304 37 3) (1 ∷ 2 ∷ 3 ∷ 4 ∷ 0x2C ∷ 0 ∷ 0 ∷ 0 ∷ 1 ∷ 2 ∷ 3 ∷ 4 ∷ 0x2C ∷ 0 ∷ 0 ∷ 0 ∷ []) ∷
    bytes (IV-EIA3 0x01020304 37 3) (1 ∷ 2 ∷ 3 ∷ 4 ∷ 0x28 ∷ 0 ∷ 0 ∷ 0 ∷ 0x81 ∷ 2 ∷ 3 ∷ 4 ∷ 0x28 ∷ 0 ∷ 0x80 ∷ 0 ∷ []) ∷
    -- P8 ZUC-256 IV bytes 17..19 = 12 34 56: the first four 6-bit numbers
    bytes (IV₂₅₆ six_bit_iv 17 ∷ IV₂₅₆ six_bit_iv 18 ∷ IV₂₅₆ six_bit_iv 19 ∷ IV₂₅₆ six_bit_iv 20 ∷ []) (0x04 ∷ 0x23 ∷ 0x11 ∷ 0x16 ∷ []) ∷
    -- P9 EIA3 rule: 0 bits; one set bit; 32 bits with only the last set; 33 zero bits
    number (tag-EIA3 four_words [] 0) 0x80000001 ∷
    number (tag-EIA3 four_words (0x80 ∷ []) 1) 0x8000000F ∷
    number (tag-EIA3 four_words (0 ∷ 0 ∷ 0 ∷ 1 ∷ []) 32) 0x0000000E ∷
    number (tag-EIA3 four_words five 33) 0x00000102 ∷
    -- P10 ZUC-256 rule at 32 bits: 0 bits; one set bit
    number (tag-ZUC256 32 four_words [] 0) 0x80000001 ∷
    number (tag-ZUC256 32 four_words (0x80 ∷ []) 1) 0x80000003 ∷
    -- P11 crate mode: L = 40, 32, 35, 33, 24, 0; clean mode: L = 32
    bytes (mask_crate two_words 40 five) (0x11 ∷ 0x22 ∷ 0x33 ∷ 0x44 ∷ 0x55 ∷ []) ∷
    bytes (mask_crate two_words 32 five) (0x11 ∷ 0x22 ∷ 0x33 ∷ 0x44 ∷ 0x55 ∷ []) ∷
    bytes (mask_crate two_words 35 five) (0x11 ∷ 0x22 ∷ 0x33 ∷ 0x44 ∷ 0x40 ∷ []) ∷
    bytes (mask_crate two_words 33 five) (0x11 ∷ 0x22 ∷ 0x33 ∷ 0x44 ∷ 0x00 ∷ []) ∷
    bytes (mask_crate two_words 24 five) (0x11 ∷ 0x22 ∷ 0x33 ∷ 0x44 ∷ 0x00 ∷ []) ∷
    bytes (mask_crate two_words 0 five) (0x11 ∷ 0x00 ∷ 0x00 ∷ 0x00 ∷ 0x00 ∷ []) ∷
    bytes (mask_clean two_words 32 five) (0x11 ∷ 0x22 ∷ 0x33 ∷ 0x44 ∷ 0x00 ∷ []) ∷ []

-- what the definitions give, row by row, and what they must
unfoldable pub given : List Example → List (List ℕ)
given [] = []
given (example ∷ rest) = example.gives ∷ given rest

unfoldable pub required : List Example → List (List ℕ)
required [] = []
required (example ∷ rest) = example.must ∷ required rest

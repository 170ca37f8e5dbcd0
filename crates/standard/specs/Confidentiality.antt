-- 128-EEA3 (Document 1, section 3) and masking by bit length (document 01, "Masking").
use Rattle.std.specs.Prelude.{List, [], ◌∷◌, ◌++◌, ℕ, ◌+◌, ◌-◌, ◌*◌, ◌/◌, ◌%◌, ◌^◌, min, ltb, eqb, if◌then◌else◌}
use Rattle.standard.specs.Notation.{◌⊕◌, ceil, each_from}
use Rattle.standard.specs.Bits.{byte_of, bytes_of}

-- 3.3 (initialisation): IV[0..3] = COUNT; IV[4] = BEARER || DIRECTION || 00; IV[5..7] = 0; IV[8..15] = IV[0..7]
abbrev pub half_iv-EEA3 : ℕ → ℕ → ℕ → List ℕ
half_iv-EEA3 COUNT BEARER DIRECTION = bytes_of COUNT ++ ((BEARER * 2 ^ 3 + DIRECTION * 2 ^ 2) ∷ 0 ∷ 0 ∷ 0 ∷ [])

abbrev pub bytes_iv-EEA3 : ℕ → ℕ → ℕ → List ℕ
bytes_iv-EEA3 COUNT BEARER DIRECTION = half_iv-EEA3 COUNT BEARER DIRECTION ++ half_iv-EEA3 COUNT BEARER DIRECTION

-- Document 01: a bearer keeps its low 5 bits, a direction its low bit. (Request 2026-04: strict forms take the numbers as given)
unfoldable pub IV-EEA3 : ℕ → ℕ → ℕ → List ℕ
IV-EEA3 count bearer direction = bytes_iv-EEA3 count (bearer % 2 ^ 5) (direction % 2)

-- 3.5 (encryption and decryption): OBS[i] = IBS[i] ⊕ z[i]
abbrev pub OBS : (ℕ → ℕ) → (ℕ → ℕ) → ℕ → ℕ
OBS IBS z i = IBS i ⊕ z i

-- Document 01: byte j is xored with byte j mod 4, highest first, of word floor(j/4)
unfoldable pub masked : (ℕ → ℕ) → ℕ → ℕ → ℕ
masked words j byte = byte ⊕ byte_of (words (j / 4)) (j % 4)

-- a byte with its k high bits kept and the others zeroed
unfoldable pub keep_high : ℕ → ℕ → ℕ
keep_high k byte = byte / 2 ^ (8 - k) * 2 ^ (8 - k)

-- Document 01: how many high bits of byte j crate mode leaves at a bit length L. It zeroes the low 8 - (L mod 8) bits
-- of byte floor(L/8) if L mod 8 is not 0, and every byte after byte floor(L/8)
unfoldable pub kept_by_crate : ℕ → ℕ → ℕ
kept_by_crate L j = if ltb (L / 8) j then 0 else if ltb j (L / 8) then 8 else if eqb (L % 8) 0 then 8 else L % 8

-- Document 01: clean mode zeroes every bit at or past L
unfoldable pub kept_by_clean : ℕ → ℕ → ℕ
kept_by_clean L j = min 8 (L - j * 8)

-- the buffer after masking, by what the mode keeps at the bit length
unfoldable pub masked_buffer : (ℕ → ℕ) → (ℕ → ℕ) → List ℕ → List ℕ
masked_buffer kept words buffer = each_from (λ j byte. keep_high (kept j) (masked words j byte)) 0 buffer

abbrev pub mask_crate : (ℕ → ℕ) → ℕ → List ℕ → List ℕ
mask_crate words L buffer = masked_buffer (kept_by_crate L) words buffer

abbrev pub mask_clean : (ℕ → ℕ) → ℕ → List ℕ → List ℕ
mask_clean words L buffer = masked_buffer (kept_by_clean L) words buffer

-- Request 2026-10: the buffer with every bit at or past L cleared, and no bit masked
abbrev pub cleared_past : ℕ → List ℕ → List ℕ
cleared_past L buffer = each_from (λ j byte. keep_high (kept_by_clean L j) byte) 0 buffer

-- Document 01: the words that crate mode draws over a buffer of n bytes, whatever the bit length
abbrev pub words_to_mask_crate : ℕ → ℕ
words_to_mask_crate n = n / 4 + 1

-- 3.4 (keystream generation): ⌈LENGTH/32⌉ words; by request 2026-02 clean mode draws so many at a bit length L, whatever the buffer
abbrev pub words_to_mask_clean : ℕ → ℕ
words_to_mask_clean L = ceil L 32

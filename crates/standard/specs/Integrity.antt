-- 128-EIA3 (Document 1, section 4) and the ZUC-256 tags (version 1.1, its MAC generation). LENGTH and l count bits, L words, N bytes.
use Rattle.std.specs.Prelude.{Bool, ◌||◌, List, [], ◌∷◌, ℕ, zero, suc, ◌+◌, ◌-◌, ◌*◌, ◌/◌, ◌%◌, ◌^◌, eqb}
use Rattle.standard.specs.Notation.{◌⊕◌, ceil}
use Rattle.standard.specs.Bits.{M, byte_of, window, z}

-- 4.3 (initialisation): IV[0..3] = COUNT; IV[4] = BEARER || 000; IV[5..7] = 0; IV[8] = IV[0] ⊕ (DIRECTION << 7); IV[9..13] = IV[1..5];
-- IV[14] = IV[6] ⊕ (DIRECTION << 7); IV[15] = IV[7]
abbrev pub bytes_iv-EIA3 : ℕ → ℕ → ℕ → List ℕ
bytes_iv-EIA3 COUNT BEARER DIRECTION =
    byte_of COUNT 0 ∷ byte_of COUNT 1 ∷ byte_of COUNT 2 ∷ byte_of COUNT 3 ∷
    (BEARER * 2 ^ 3) ∷ 0 ∷ 0 ∷ 0 ∷
    (byte_of COUNT 0 ⊕ DIRECTION * 2 ^ 7) ∷ byte_of COUNT 1 ∷ byte_of COUNT 2 ∷ byte_of COUNT 3 ∷
    (BEARER * 2 ^ 3) ∷ 0 ∷ (0 ⊕ DIRECTION * 2 ^ 7) ∷ 0 ∷ []

-- Document 01: a bearer keeps its low 5 bits, a direction its low bit. (Request 2026-04: strict forms take the numbers as given)
unfoldable pub IV-EIA3 : ℕ → ℕ → ℕ → List ℕ
IV-EIA3 count bearer direction = bytes_iv-EIA3 count (bearer % 2 ^ 5) (direction % 2)

-- x where the bit is set, and else 0
abbrev pub where_set : ℕ → ℕ → ℕ
where_set zero x = 0
where_set (suc bit) x = x

-- T = 0; for i = 0 .. l-1: if m[i] = 1 then T = T ⊕ (the window at from + i). That is, over a stream of bits and a message m of l bits:
-- the exclusive or of the windows of t bits at the places from + i, i being the places of the message's set bits
unfoldable pub T : (t : ℕ) (bits : ℕ → ℕ) (from : ℕ) (m : ℕ → ℕ) (l : ℕ) → ℕ
T t bits from m zero = 0
T t bits from m (suc l) = T t bits from m l ⊕ where_set (m l) (window bits (from + l) t)

-- 4.4 and 4.5 (the keystream, the MAC): L = ⌈(LENGTH + 64)/32⌉ words; T over the windows z_i at the set bits; T = T ⊕ z_LENGTH;
-- MAC = T ⊕ z_(32·(L-1)). Document 01's ZUC-128 tag is the same, over the keystream of a key and an IV of one's own
unfoldable pub tag-EIA3 : (ℕ → ℕ) → List ℕ → ℕ → ℕ
tag-EIA3 words message LENGTH =
    T 32 (z words) 0 (M message) LENGTH ⊕ window (z words) LENGTH 32 ⊕ window (z words) (32 * (ceil (LENGTH + 64) 32 - 1)) 32

-- ZUC-256 tags have 32, 64 or 128 bits; document 01 gives their width in bytes
abbrev pub is_width : ℕ → Bool
is_width width = eqb width 4 || eqb width 8 || eqb width 16

-- ZUC-256, MAC generation, t bits: Tag = (z_0, .., z_(t-1)); Tag = Tag ⊕ W_i at the set bits, W_i = (z_(t+i), .., z_(2t+i-1)); Tag = Tag ⊕ W_l
unfoldable pub tag-ZUC256 : ℕ → (ℕ → ℕ) → List ℕ → ℕ → ℕ
tag-ZUC256 t words message l =
    window (z words) 0 t ⊕ T t (z words) t (M message) l ⊕ window (z words) (t + l) t

-- Document 01, "Tags": the words drawn in all after updates of N bytes, and after a closing call that brings the message to LENGTH (l) bits
abbrev pub drawn_after-EIA3 : ℕ → ℕ
drawn_after-EIA3 N = 2 + N / 4

abbrev pub drawn_by_tag-EIA3 : ℕ → ℕ
drawn_by_tag-EIA3 LENGTH = ceil LENGTH 32 + 2

abbrev pub drawn_after-ZUC256 : ℕ → ℕ → ℕ
drawn_after-ZUC256 t N = t / 32 * (3 + 8 * N / t)

abbrev pub drawn_by_tag-ZUC256 : ℕ → ℕ → ℕ
drawn_by_tag-ZUC256 t l = t / 32 * (3 + l / t)

-- Request 2026-09: the words that a call draws of a tag state where some bytes wait, so that the count comes to those numbers: an update
-- of N bytes, and a closing by l bits. (A start draws drawn_after of 0 bytes, a one-shot drawn_by_tag)
abbrev pub words_to_update : (t waiting N : ℕ) → ℕ
words_to_update t waiting N = t / 32 * (8 * (waiting + N) / t)

abbrev pub words_to_close-EIA3 : (waiting l : ℕ) → ℕ
words_to_close-EIA3 waiting l = ceil (8 * waiting + l) 32

abbrev pub words_to_close-ZUC256 : (t waiting l : ℕ) → ℕ
words_to_close-ZUC256 t waiting l = t / 32 * ((8 * waiting + l) / t)

-- What masking does, for a reader: its bits are EEA3's OBS, the stray byte, and masking twice; over what a mode keeps.
use mathlib.Core.Path.{◌≡◌, refl, sym, ap, ap₂, ◌∙◌}
use mathlib.Core.Logic.{⊎_elim}
use mathlib.Core.List.{List, ◌++◌}
use Prim.Native.Nat.{ℕ, suc, ◌+◌, ◌-◌, ◌*◌, ◌/◌, ◌%◌, ◌^◌, ◌<◌, ◌≤◌, min}
use native.Mathlib.Nat.{eq-zero-or-pos, zero-add, zero-div}
use native.Mathlib.Omega.{arith}
use lib.Bits.{xor_mod, xor_shr}
use lib.ListN.{length, get_or, set, get_or-eq_default}
use lib.Pow.{shr-shr, field, mod-mod-pow}
use Rattle.standard.specs.Notation.{◌⊕◌, each_from}
use Rattle.standard.specs.Bits.{bit_of, bit_at, M, z, byte_of}
use Rattle.standard.specs.Confidentiality.{OBS, masked, keep_high, kept_by_crate, kept_by_clean, cleared_past, masked_buffer, mask_crate, mask_clean}
use Rattle.standard.proofs.Each.{length-each, get_or-each, each_append, each-ext, each_set}
use Rattle.standard.proofs.Twice.{mask-twice}
use Rattle.standard.proofs.Kept.{keep_all, kept-bit, lost-bit, crate_end, end-le, crate-kept, kept_same, kept-stray}

pub bit_xor : (n a b p : ℕ) → bit_of n (a ⊕ b) p ≡ bit_of n a p ⊕ bit_of n b p
unfolding bit_of
bit_xor n a b p =
    ap (λ (x : ℕ). x % 2) (xor_shr a b (n - suc p)) ∙ xor_mod (a / 2 ^ (n - suc p)) (b / 2 ^ (n - suc p)) 1

zero_bit : (n p : ℕ) → bit_of n 0 p ≡ 0
unfolding bit_of
zero_bit n p = ap (λ (x : ℕ). x % 2) (zero-div (2 ^ (n - suc p)))

-- the bits of a word's bytes are the word's
byte-bit : (x j p : ℕ) → j < 4 → p < 8 → bit_of 8 (byte_of x j) p ≡ bit_of 32 x (8 * j + p)
unfolding bit_of byte_of
byte-bit x j p hj hp =
    ap (λ (k : ℕ). x / 2 ^ (8 * (3 - j)) % 2 ^ k / 2 ^ (8 - suc p) % 2) e
    ∙ ap (λ (y : ℕ). y % 2) (field (x / 2 ^ (8 * (3 - j))) (suc p) (8 - suc p))
    ∙ ap (λ (k : ℕ). x / 2 ^ (8 * (3 - j)) / 2 ^ (8 - suc p) % 2 ^ k % 2) d
    ∙ mod-mod-pow (x / 2 ^ (8 * (3 - j)) / 2 ^ (8 - suc p)) p 1
    ∙ ap (λ (y : ℕ). y % 2) (shr-shr x (8 * (3 - j)) (8 - suc p) ∙ ap (λ (k : ℕ). x / 2 ^ k) f)
  where
    e : 8 ≡ suc p + (8 - suc p)
    e = omega arith

    d : suc p ≡ p + 1
    d = omega arith

    f : 8 * (3 - j) + (8 - suc p) ≡ 32 - suc (8 * j + p)
    f = omega arith

-- the bit of a masked byte is the message's bit xored with the keystream's
masked-bit : (words : ℕ → ℕ) (i byte : ℕ) → bit_of 8 (masked words (i / 8) byte) (i % 8) ≡ bit_of 8 byte (i % 8) ⊕ z words i
unfolding masked z bit_at
masked-bit words i byte =
    bit_xor 8 byte (byte_of (words (i / 8 / 4)) (i / 8 % 4)) (i % 8)
    ∙ ap (λ (x : ℕ). bit_of 8 byte (i % 8) ⊕ x)
    (byte-bit (words (i / 8 / 4)) (i / 8 % 4) (i % 8) (omega arith) (omega arith)
    ∙ ap₂ (λ (x y : ℕ). bit_of 32 (words x) y) (omega arith) (omega arith))

module _ (kept words : ℕ → ℕ) (buffer : List ℕ) where
  byte_at : (j : ℕ) → j < length buffer → get_or (masked_buffer kept words buffer) j 0 ≡ keep_high (kept j) (masked words j (get_or buffer j 0))
  unfolding masked_buffer
  byte_at j h = get_or-each (λ j byte. keep_high (kept j) (masked words j byte)) 0 buffer j h ∙ rw zero-add refl

  pub length-masked : length (masked_buffer kept words buffer) ≡ length buffer
  unfolding masked_buffer
  length-masked = length-each (λ j byte. keep_high (kept j) (masked words j byte)) 0 buffer

  -- EEA3's own line, at each bit that the mode keeps
  pub obs : (i : ℕ) → i < length buffer * 8 → i % 8 < kept (i / 8) → M (masked_buffer kept words buffer) i ≡ OBS (M buffer) (z words) i
  unfolding M bit_at
  obs i h k =
      ap (λ (x : ℕ). bit_of 8 x (i % 8)) (byte_at (i / 8) (omega arith))
      ∙ kept-bit (kept (i / 8)) (masked words (i / 8) (get_or buffer (i / 8) 0)) (i % 8) k
      ∙ masked-bit words i (get_or buffer (i / 8) 0)

-- the same bytes where the same bits are kept
pub mask-ext : (kept kept' words : ℕ → ℕ) (buffer : List ℕ) → ((j : ℕ) → j < length buffer → kept j ≡ kept' j)
    → masked_buffer kept words buffer ≡ masked_buffer kept' words buffer
unfolding masked_buffer
mask-ext kept kept' words buffer e =
    each-ext (λ j byte. keep_high (kept j) (masked words j byte)) (λ j byte. keep_high (kept' j) (masked words j byte)) 0 0 buffer
    (λ i h. ap (λ (k : ℕ). keep_high k (masked words (0 + i) (get_or buffer i 0))) (e (0 + i) (omega arith)))

-- clean mode over two buffers, the first full and of whole words: as if each were masked by itself, the second by the words after the first's
pub clean-append : (words : ℕ → ℕ) (L : ℕ) (a b : List ℕ) → length a % 4 ≡ 0
    → mask_clean words (length a * 8 + L) (a ++ b) ≡ mask_clean words (length a * 8) a ++ mask_clean (λ n. words (length a / 4 + n)) L b
unfolding masked_buffer masked kept_by_clean
clean-append words L a b whole =
    each_append (f words (length a * 8 + L)) 0 a b
    ∙ ap₂ ◌++◌
    (each-ext (f words (length a * 8 + L)) (f words (length a * 8)) 0 0 a
    (λ i h. ap (λ (k : ℕ). keep_high k (masked words (0 + i) (get_or a i 0))) (omega arith)))
    (each-ext (f words (length a * 8 + L)) (f (λ n. words (length a / 4 + n)) L) (0 + length a) 0 b
    (λ i h. at i (get_or b i 0)))
  where
    f : (ℕ → ℕ) → ℕ → ℕ → ℕ → ℕ
    f words L j byte = keep_high (min 8 (L - j * 8)) (masked words j byte)

    at : (i byte : ℕ) → f words (length a * 8 + L) (0 + length a + i) byte ≡ f (λ n. words (length a / 4 + n)) L (0 + i) byte
    at i byte =
        ap₂ (λ (k x : ℕ). keep_high k (byte ⊕ x)) (omega arith) (ap₂ (λ (n j : ℕ). byte_of (words n) j) (omega arith) (omega arith))

module _ (words : ℕ → ℕ) (L : ℕ) (buffer : List ℕ) where
  -- crate mode is clean mode at another bit length: at L + 8 where L ends on the edge of a byte, else at L
  pub crate-clean : mask_crate words L buffer ≡ mask_clean words (crate_end L) buffer
  crate-clean = mask-ext (kept_by_crate L) (kept_by_clean (crate_end L)) words buffer (λ j h. crate-kept L j)

  -- OBS[i] = IBS[i] ⊕ z[i] for every i below the bit length
  pub obs-clean : (i : ℕ) → L ≤ length buffer * 8 → i < L → M (mask_clean words L buffer) i ≡ OBS (M buffer) (z words) i
  unfolding kept_by_clean
  obs-clean i b h = obs (kept_by_clean L) words buffer i (omega arith) (omega arith)

  pub obs-crate : (i : ℕ) → L ≤ length buffer * 8 → i < L → M (mask_crate words L buffer) i ≡ OBS (M buffer) (z words) i
  unfolding kept_by_clean
  obs-crate i b h = obs (kept_by_crate L) words buffer i (omega arith) (omega (arith, end-le L, crate-kept L (i / 8)))

  -- clean mode zeroes every bit at or past L
  pub zero-clean : (i : ℕ) → L ≤ i → M (mask_clean words L buffer) i ≡ 0
  unfolding M bit_at kept_by_clean
  zero-clean i h =
      ⊎_elim
      (λ e. ap (λ (x : ℕ). bit_of 8 x (i % 8)) (get_or-eq_default (mask_clean words L buffer) 0 (omega (arith, length-masked (kept_by_clean L) words buffer)))
      ∙ zero_bit 8 (i % 8))
      (λ p. ap (λ (x : ℕ). bit_of 8 x (i % 8)) (byte_at (kept_by_clean L) words buffer (i / 8) (omega arith))
      ∙ lost-bit (kept_by_clean L (i / 8)) (masked words (i / 8) (get_or buffer (i / 8) 0)) (i % 8) (omega arith) (omega arith))
      (eq-zero-or-pos (length buffer - i / 8))

  -- the two modes agree unless L is a multiple of 8 below the buffer's bits
  pub modes-agree : (L % 8 ≡ 0 → L < length buffer * 8 → ⊥) → mask_crate words L buffer ≡ mask_clean words L buffer
  modes-agree n = mask-ext (kept_by_crate L) (kept_by_clean L) words buffer (λ j h. kept_same L j (λ e d. n e (omega arith)))

  -- there byte L/8 stays masked in crate mode, and every other byte is clean mode's
  pub stray-byte : L % 8 ≡ 0 → L < length buffer * 8
      → mask_crate words L buffer ≡ set (mask_clean words L buffer) (L / 8) (masked words (L / 8) (get_or buffer (L / 8) 0))
  unfolding masked_buffer
  stray-byte e h =
      sym
      (each_set (λ j byte. keep_high (kept_by_crate L j) (masked words j byte)) (λ j byte. keep_high (kept_by_clean L j) (masked words j byte)) buffer (L / 8)
      (masked words (L / 8) (get_or buffer (L / 8) 0)) (omega arith)
      (rw (kept-stray L e) (sym (keep_all (masked words (L / 8) (get_or buffer (L / 8) 0)))))
      (λ i n. ap (λ (k : ℕ). keep_high k (masked words i (get_or buffer i 0))) (sym (kept_same L i (λ d. n)))))

  pub twice-clean : mask_clean words L (mask_clean words L buffer) ≡ cleared_past L buffer
  twice-clean = mask-twice (kept_by_clean L) words buffer

  pub twice-crate : mask_crate words L (mask_crate words L buffer) ≡ each_from (λ j. keep_high (kept_by_clean (crate_end L) j)) 0 buffer
  twice-crate = mask-twice (kept_by_crate L) words buffer
      ∙ each-ext (λ j. keep_high (kept_by_crate L j)) (λ j. keep_high (kept_by_clean (crate_end L) j)) 0 0 buffer
      (λ i h. ap (λ (k : ℕ). keep_high k (get_or buffer i 0)) (crate-kept L (0 + i)))

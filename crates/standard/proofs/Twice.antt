-- Masking twice: by two keystreams it is masking by their exclusive or, whatever a mode keeps, and by one keystream twice it is none. Byte by
-- byte, since what is kept are high bits.
use mathlib.Core.Path.{◌≡◌, sym, ap, ◌∙◌}
use mathlib.Core.List.{List}
use Prim.Native.Nat.{ℕ, ◌+◌, ◌-◌, ◌*◌, ◌/◌, ◌%◌, ◌^◌}
use native.Mathlib.Nat.{zero-div}
use lib.Bits.{xor_mod, xor_self, xor_shr, xor_zero_r}
use lib.ListN.{get_or}
use Rattle.standard.specs.Notation.{◌⊕◌, each_from}
use Rattle.standard.specs.Bits.{byte_of}
use Rattle.standard.specs.Confidentiality.{keep_high, masked, masked_buffer}
use Rattle.standard.proofs.Each.{each-each, each-ext}
use Rattle.standard.proofs.Kept.{keep-both}

-- the bytes of an exclusive or
pub byte-xor : (a b j : ℕ) → byte_of (a ⊕ b) j ≡ byte_of a j ⊕ byte_of b j
unfolding byte_of
byte-xor a b j =
    ap (λ (x : ℕ). x % 2 ^ 8) (xor_shr a b (8 * (3 - j))) ∙ xor_mod (a / 2 ^ (8 * (3 - j))) (b / 2 ^ (8 * (3 - j))) 8

module _ (kept words : ℕ → ℕ) (buffer : List ℕ) where
  -- masked by one keystream and then by another: as by their exclusive or
  pub mask-both : (words' : ℕ → ℕ) → masked_buffer kept words' (masked_buffer kept words buffer) ≡ masked_buffer kept (λ n. words n ⊕ words' n) buffer
  unfolding masked_buffer masked
  mask-both words' =
      each-each (f words') (f words) 0 buffer
      ∙ each-ext (λ j byte. f words' j (f words j byte)) (f (λ n. words n ⊕ words' n)) 0 0 buffer
      (λ i h. let n = (0 + i) / 4 in
      let j = (0 + i) % 4 in
      keep-both (kept (0 + i)) (get_or buffer i 0) (byte_of (words n) j) (byte_of (words' n) j)
      ∙ ap (λ (x : ℕ). keep_high (kept (0 + i)) (get_or buffer i 0 ⊕ x)) (sym (byte-xor (words n) (words' n) j)))
    where
      f : (ℕ → ℕ) → ℕ → ℕ → ℕ
      f w j byte = keep_high (kept j) (masked w j byte)

  -- a keystream of zeros masks nothing: the bits that are kept stay as they came
  pub mask-zero : ((n : ℕ) → words n ≡ 0) → masked_buffer kept words buffer ≡ each_from (λ j. keep_high (kept j)) 0 buffer
  unfolding masked_buffer masked byte_of
  mask-zero none =
      each-ext (λ j byte. keep_high (kept j) (masked words j byte)) (λ j. keep_high (kept j)) 0 0 buffer
      (λ i h. ap (keep_high (kept (0 + i))) (ap (λ (x : ℕ). get_or buffer i 0 ⊕ byte_of x ((0 + i) % 4)) (none ((0 + i) / 4)) ∙ ap (λ (x : ℕ). get_or buffer i 0 ⊕ x % 2 ^ 8) (zero-div (2 ^ (8 * (3 - (0 + i) % 4)))) ∙ xor_zero_r (get_or buffer i 0)))

-- masking serves encryption and decryption alike: done twice it leaves the bits that are kept as they came, and no others
pub mask-twice : (kept words : ℕ → ℕ) (buffer : List ℕ) → masked_buffer kept words (masked_buffer kept words buffer) ≡ each_from (λ j. keep_high (kept j)) 0 buffer
mask-twice kept words buffer = mask-both kept words buffer words ∙ mask-zero kept (λ n. words n ⊕ words n) buffer (λ n. xor_self (words n))

-- Tables of multiples, and what a turn looks up in them: by the four message bits that an index stands for.
use mathlib.Core.Path.{◌≡◌, refl, sym, ap, ap₂, ◌∙◌}
use mathlib.Core.List.{List, [], ◌∷◌}
use Prim.Native.Nat.{ℕ, zero, suc, ◌+◌, ◌-◌, ◌*◌, ◌/◌, ◌%◌, ◌^◌, ◌<◌}
use native.Mathlib.Nat.{add-zero, zero-add}
use native.Mathlib.Omega.{arith}
use lib.Bits.{bit_xor, xor_zero_l, xor_zero_r}
use Rattle.standard.specs.Notation.{◌⊕◌, ◌⟨◌⟩, listed}
use Rattle.standard.specs.Bits.{M, bit_at, bit_of, window}
use Rattle.standard.specs.Integrity.{T}
use Rattle.standard.proofs.Linear.{M-lt}
use Rattle.standard.proofs.Listed.{get_or-listed}
use Rattle.standard.proofs.Register.{sum-window, window-high, window-low, window-none, window-up, window-xor}
use Rattle.standard.proofs.Sum.{sum-ext, sum_lt}
use Rattle.standard.proofs.Window.{bit-window, bit_at_lt, window-cell, window-ext}
use Rattle.standard.proofs.Xor.{xor_assoc}
use Rattle.mac_wide.specs.InnerRows.{four_on, multiple, multiples_of, raised, stream_of}
use Rattle.mac_wide.proofs.Rows.{looked, looked-lt}

-- the table, spelled as the code makes it
abbrev entries : ℕ → ℕ → ℕ → ℕ → List ℕ
entries x b c d =
    0 ∷ d ∷ c ∷ (c ⊕ d) ∷ b ∷ (b ⊕ d) ∷ (b ⊕ c) ∷ (b ⊕ (c ⊕ d)) ∷ x ∷ (x ⊕ d) ∷ (x ⊕ c) ∷ (x ⊕ (c ⊕ d)) ∷
    (x ⊕ b) ∷ (x ⊕ b ⊕ d) ∷ (x ⊕ b ⊕ c) ∷ (x ⊕ b ⊕ (c ⊕ d)) ∷ []

spelled-from : (s : ℕ → ℕ) (x b c d : ℕ) → x ≡ window s 0 64 → b ≡ window s 1 64 → c ≡ window s 2 64 → d ≡ window s 3 64
    → entries x b c d ≡ listed (λ n. T 64 s 0 (bit_of 4 n) 4) 0 16
unfolding listed T bit_of
spelled-from s x b c d ex eb ec ed = rw (ex, eb, ec, ed) (simp (xor_zero_l, xor_zero_r, xor_assoc))

pub spelled : (x y b c d : ℕ) → x < 2 ^ 64 → y < 2 ^ 64 → b ≡ raised 1 x y → c ≡ raised 2 x y → d ≡ raised 3 x y → entries x b c d ≡ multiples_of x y
unfolding multiples_of multiple
spelled x y b c d hx hy eb ec ed =
    spelled-from S x b c d first (eb ∙ ap₂ (raised 1) first second ∙ window-up S bits 63 1 0) (ec ∙ ap₂ (raised 2) first second ∙ window-up S bits 62 2 0)
    (ed ∙ ap₂ (raised 3) first second ∙ window-up S bits 61 3 0)
  where
    S : ℕ → ℕ
    S = stream_of (x ∷ y ∷ [])

    bits : (i : ℕ) → S i < 2
    bits = bit_at_lt 64 (λ j. (x ∷ y ∷ []) ⟨ j ⟩)

    first : x ≡ window S 0 64
    first = sym (window-cell 64 (omega arith) (λ j. (x ∷ y ∷ []) ⟨ j ⟩) 0 hx)

    second : y ≡ window S 64 64
    second = sym (window-cell 64 (omega arith) (λ j. (x ∷ y ∷ []) ⟨ j ⟩) 1 hy)

-- the high and the low four bits of a byte
module _ (m : List ℕ) (q : ℕ) (h : m ⟨ q ⟩ < 2 ^ 8) where
  byte-is : m ⟨ q ⟩ ≡ window (M m) (q * 8) 8
  unfolding M
  byte-is = sym (window-cell 8 (omega arith) (λ j. m ⟨ j ⟩) q h)

  pub high-four : m ⟨ q ⟩ / 16 ≡ window (M m) (q * 8) 4
  high-four = ap (λ (x : ℕ). x / 16) byte-is ∙ window-high (M m) (M-lt m) (q * 8) 4 4

  pub low-four : m ⟨ q ⟩ % 16 ≡ window (four_on (M m)) (q * 8) 4
  low-four =
      ap (λ (x : ℕ). x % 16) byte-is
      ∙ window-low (M m) (M-lt m) (q * 8) 4 4
      ∙ window-ext (M m) (four_on (M m)) (q * 8 + 4) (q * 8) 4 (λ j u. ap (M m) (place j))
    where
      place : (j : ℕ) → q * 8 + 4 + j ≡ 4 + (q * 8 + j)
      place j = omega arith

module _ (f : ℕ → ℕ) (m : ℕ → ℕ) (b : (i : ℕ) → m i < 2) where
  abbrev S : ℕ → ℕ
  S = bit_at 64 f

  -- an entry of the table of words q and q + 1
  pub entry-is : (q p n : ℕ) → (n ≡ window m p 4) × (n < 16) → multiples_of (f q) (f (q + 1)) ⟨ n ⟩ ≡ T 64 S (q * 64) (λ i. m (p + i)) 4
  unfolding multiples_of multiple bit_at
  entry-is q p n h =
      get_or-listed (multiple (f q) (f (q + 1))) 0 16 n h.1
      ∙ ap (multiple (f q) (f (q + 1))) (zero-add n)
      ∙ sum-ext 64 (stream_of (f q ∷ f (q + 1) ∷ [])) S 0 (q * 64) (bit_of 4 n) (λ i. m (p + i)) 4
      (λ j u. ap₂ (bit_of 64) (pair ((0 + j) / 64) (omega arith) ∙ ap f (word j)) (bit j))
      (λ j u. ap (λ (x : ℕ). bit_of 4 x j) h.0 ∙ bit-window m b p 4 j u)
    where
      pair : (d : ℕ) → d < 2 → (f q ∷ f (q + 1) ∷ []) ⟨ d ⟩ ≡ f (q + d)
      pair zero l = ap f (sym (add-zero q))
      pair (suc zero) l = refl
      pair (suc (suc d)) l = absurd (omega arith)

      word : (j : ℕ) → q + (0 + j) / 64 ≡ (q * 64 + j) / 64
      word j = omega arith

      bit : (j : ℕ) → (0 + j) % 64 ≡ (q * 64 + j) % 64
      bit j = omega arith

  -- a word of a turn's entry: nothing yet, and one message word more
  pub word_none : (j p : ℕ) → 0 ≡ window (looked S m 0 j) p 64
  unfolding looked
  word_none j p = sym (window-none (λ i. 0) p 64 (λ i. refl))

  pub word_more : (W q j v n : ℕ) → v ≡ window (looked S m W j) (q * 64) 64 → (n ≡ window m ((8 * W + 7 - j) * 8) 4) × (n < 16)
      → v ⊕ multiples_of (f (W + q)) (f (W + q + 1)) ⟨ n ⟩ ≡ window (looked S m (suc W) j) (q * 64) 64
  unfolding looked
  word_more W q j v n ev en =
      ap₂ bit_xor ev
      (entry-is (W + q) ((8 * W + 7 - j) * 8) n en
      ∙ sum-window S bits k 4 ((W + q) * 64) 64
      ∙ window-ext (λ i. T 1 S i k 4) (λ i. T 1 S (64 * W + i) k 4) ((W + q) * 64) (q * 64) 64 (λ i u. ap (λ (x : ℕ). T 1 S x k 4) (place i)))
      ∙ window-xor (looked S m W j) (λ i. T 1 S (64 * W + i) k 4) (looked-lt S bits m W j) (λ i. sum_lt 1 S bits (64 * W + i) k 4) (q * 64) 64
    where
      k : ℕ → ℕ
      k i = m ((8 * W + 7 - j) * 8 + i)

      bits : (i : ℕ) → S i < 2
      bits = bit_at_lt 64 f

      place : (i : ℕ) → (W + q) * 64 + i ≡ 64 * W + (q * 64 + i)
      place i = omega arith

-- Each width's words: the key pair moved on and the tag with a block's sum, as the code has them and as numbers.
use mathlib.Core.Path.{◌≡◌, refl, sym, ap, ap₂, ◌∙◌}
use mathlib.Core.List.{List, [], ◌∷◌}
use mathlib.Core.Logic.{⊎_elim}
use Prim.Native.Nat.{ℕ, ◌+◌, ◌*◌, ◌/◌, ◌%◌, ◌^◌, ◌<◌}
use native.Mathlib.Omega.{arith}
use native.Mathlib.Nat.{zero-add}
use lib.Arith.{digits_lt}
use lib.Bits.{xor_block, xor_lt}
use lib.Pow.{high, low}
use Rattle.standard.specs.Notation.{◌⊕◌, ◌⟨◌⟩}
use Rattle.standard.specs.Bits.{M, bit_at, bit_of, window}
use Rattle.standard.specs.Integrity.{T}
use Rattle.standard.proofs.Linear.{M-lt}
use Rattle.standard.proofs.Register.{shl-keeps, sum-piece}
use Rattle.standard.proofs.Sum.{sum-ext, sum-join}
use Rattle.standard.proofs.Window.{bit-window, bit_at_lt, window-cell, window-cells, window-split}
use Rattle.mac_wide.specs.InnerRows.{stream_of}
use Rattle.mac_registers.specs.InnerLookup.{summed}
use Rattle.mac_registers.specs.Stored.{◌‖₁₂₈◌, ◌‖₆₄◌, key_of, key_words, tag_of, tag_words}
use Rattle.mac_registers.specs.Inner.{Width}

-- a key pair moved up by half, in its halves
moved-low : (t hi lo : ℕ) → lo < 2 ^ t → (hi * 2 ^ t + lo) * 2 ^ t % 2 ^ (t + t) ≡ lo * 2 ^ t
moved-low t hi lo h = shl-keeps (hi * 2 ^ t + lo) t t ∙ ap (λ (x : ℕ). x * 2 ^ t) (low hi t h)

-- words out of the numbers that they make
pub words-8 : (a b : ℕ) → b < 2 ^ 64 → key_words 8 (a ‖₆₄ b) ≡ a ∷ b ∷ 0 ∷ 0 ∷ []
unfolding key_words
words-8 a b h = ap₂ (λ (x y : ℕ). x ∷ y ∷ 0 ∷ 0 ∷ []) (high a 64 h) (low a 64 h)

pub words-16 : (a b c d : ℕ) → b < 2 ^ 64 → c < 2 ^ 64 → d < 2 ^ 64 → key_words 16 ((a ‖₆₄ b) ‖₁₂₈ (c ‖₆₄ d)) ≡ a ∷ b ∷ c ∷ d ∷ []
unfolding key_words
words-16 a b c d hb hc hd =
    ap₂ (λ (x y : ℕ). x / 2 ^ 64 ∷ x % 2 ^ 64 ∷ y / 2 ^ 64 ∷ y % 2 ^ 64 ∷ []) (high (a ‖₆₄ b) 128 (digits_lt hc hd)) (low (a ‖₆₄ b) 128 (digits_lt hc hd))
    ∙ ap₂ (λ (x y : ℕ). x ∷ y ∷ (c ‖₆₄ d) / 2 ^ 64 ∷ (c ‖₆₄ d) % 2 ^ 64 ∷ []) (high a 64 hb) (low a 64 hb)
    ∙ ap₂ (λ (x y : ℕ). a ∷ b ∷ x ∷ y ∷ []) (high c 64 hd) (low c 64 hd)

pub tag-words-16 : (a b : ℕ) → b < 2 ^ 64 → tag_words 16 (a ‖₆₄ b) ≡ a ∷ b ∷ []
unfolding tag_words
tag-words-16 a b h = ap₂ (λ (x y : ℕ). x ∷ y ∷ []) (high a 64 h) (low a 64 h)

-- the key pair moved on
module _ (w : ℕ) (k words : List ℕ) where
  abbrev Moved : List ℕ → Type 0
  Moved r = r ≡ key_words w (key_of w k * 2 ^ (w * 8) % 2 ^ (w * 8 + w * 8) + tag_of w words)

  pub moved-4 : w ≡ 4 → Moved ((k ⟨ 0 ⟩ % 2 ^ 32 * 2 ^ 32 + words ⟨ 0 ⟩) ∷ 0 ∷ 0 ∷ 0 ∷ [])
  unfolding key_words key_of tag_of
  moved-4 e = rw e (ap (λ (x : ℕ). (x + words ⟨ 0 ⟩) ∷ 0 ∷ 0 ∷ 0 ∷ []) (sym (shl-keeps (k ⟨ 0 ⟩) 32 32)))

  pub moved-8 : w ≡ 8 → k ⟨ 1 ⟩ < 2 ^ 64 → words ⟨ 0 ⟩ < 2 ^ 64 → Moved (k ⟨ 1 ⟩ ∷ words ⟨ 0 ⟩ ∷ 0 ∷ 0 ∷ [])
  unfolding key_of tag_of
  moved-8 e h h' =
      rw e (sym (ap (λ (x : ℕ). key_words 8 (x + words ⟨ 0 ⟩)) (moved-low 64 (k ⟨ 0 ⟩) (k ⟨ 1 ⟩) h) ∙ words-8 (k ⟨ 1 ⟩) (words ⟨ 0 ⟩) h'))

  pub moved-16 : w ≡ 16 → k ⟨ 2 ⟩ < 2 ^ 64 → k ⟨ 3 ⟩ < 2 ^ 64 → words ⟨ 0 ⟩ < 2 ^ 64 → words ⟨ 1 ⟩ < 2 ^ 64
      → Moved (k ⟨ 2 ⟩ ∷ k ⟨ 3 ⟩ ∷ words ⟨ 0 ⟩ ∷ words ⟨ 1 ⟩ ∷ [])
  unfolding key_of tag_of
  moved-16 e h2 h3 h h' =
      rw e
      (sym
      (ap (λ (x : ℕ). key_words 16 (x + (words ⟨ 0 ⟩ ‖₆₄ words ⟨ 1 ⟩))) (moved-low 128 (k ⟨ 0 ⟩ ‖₆₄ k ⟨ 1 ⟩) (k ⟨ 2 ⟩ ‖₆₄ k ⟨ 3 ⟩) (digits_lt h2 h3))
      ∙ words-16 (k ⟨ 2 ⟩) (k ⟨ 3 ⟩) (words ⟨ 0 ⟩) (words ⟨ 1 ⟩) h3 h h'))

-- a block's sum, its bits read from the block as a number
pub block-bits : (t key : ℕ) (block : List ℕ) → summed t key (window (M block) 0 t) ≡ T t (bit_of (t + t) key) 0 (M block) t
unfolding summed
block-bits t key block =
    sum-ext t (bit_of (t + t) key) (bit_of (t + t) key) 0 0 (bit_of t (window (M block) 0 t)) (M block) t (λ j h. refl)
    (λ j h. bit-window (M block) (M-lt block) 0 t j h ∙ ap (M block) (zero-add j))

-- two words of a key's stream
pair-window : (f : ℕ → ℕ) (q : ℕ) → f q < 2 ^ 64 → f (q + 1) < 2 ^ 64 → window (bit_at 64 f) (q * 64) 128 ≡ f q ‖₆₄ f (q + 1)
pair-window f q h h' =
    window-cells 64 (omega arith) f q 1 h' ∙ ap (λ (x : ℕ). x ‖₆₄ f (q + 1)) (window-cell 64 (omega arith) f q h)

-- the tag with a block's sum
module _ (w : ℕ) (k t block : List ℕ) where
  abbrev Summed : List ℕ → Type 0
  Summed r = r ≡ tag_words w (tag_of w t ⊕ T (w * 8) (bit_of (w * 8 + w * 8) (key_of w k)) 0 (M block) (w * 8))

  pub summed-4 : w ≡ 4 → (sum : ℕ) → sum ≡ summed 32 (k ⟨ 0 ⟩) (window (M block) 0 32) → Summed ((t ⟨ 0 ⟩ ⊕ sum) ∷ 0 ∷ [])
  unfolding tag_words tag_of key_of
  summed-4 e sum s = rw e (ap (λ (x : ℕ). (t ⟨ 0 ⟩ ⊕ x) ∷ 0 ∷ []) (s ∙ block-bits 32 (k ⟨ 0 ⟩) block))

  module _ (small : (i : ℕ) → k ⟨ i ⟩ < 2 ^ 64) where
    pub summed-8 : w ≡ 8 → (sum : ℕ) → sum ≡ T 64 (stream_of (k ⟨ 0 ⟩ ∷ k ⟨ 1 ⟩ ∷ [])) 0 (M block) 64 → Summed ((t ⟨ 0 ⟩ ⊕ sum) ∷ 0 ∷ [])
    unfolding tag_words tag_of key_of
    summed-8 e sum s =
        rw e
        (ap (λ (x : ℕ). (t ⟨ 0 ⟩ ⊕ x) ∷ 0 ∷ [])
        (s
        ∙ sum-piece (bit_at 64 f) (bit_at_lt 64 f) (M block) 64 0 128 64 (omega arith)
        ∙ ap (λ (x : ℕ). T 64 (bit_of 128 x) 0 (M block) 64) (pair-window f 0 (small 0) (small 1))))
      where
        f : ℕ → ℕ
        f j = (k ⟨ 0 ⟩ ∷ k ⟨ 1 ⟩ ∷ []) ⟨ j ⟩

    pub summed-16 : w ≡ 16 → (hi lo : ℕ) → t ⟨ 1 ⟩ < 2 ^ 64 → lo < 2 ^ 64
        → (hi ≡ T 64 (stream_of k) 0 (M block) 128)
        × (lo ≡ T 64 (stream_of k) 64 (M block) 128)
        → Summed ((t ⟨ 0 ⟩ ⊕ hi) ∷ (t ⟨ 1 ⟩ ⊕ lo) ∷ [])
    unfolding tag_of key_of
    summed-16 e hi lo h h' s =
        rw e
        (sym
        (ap (λ (x : ℕ). tag_words 16 ((t ⟨ 0 ⟩ ‖₆₄ t ⟨ 1 ⟩) ⊕ x)) (sym sum)
        ∙ ap (tag_words 16) (xor_block 64 (t ⟨ 0 ⟩) hi (t ⟨ 1 ⟩) lo h h')
        ∙ tag-words-16 (t ⟨ 0 ⟩ ⊕ hi) (t ⟨ 1 ⟩ ⊕ lo) (xor_lt 64 (t ⟨ 1 ⟩) lo h h')))
      where
        f : ℕ → ℕ
        f j = k ⟨ j ⟩

        sum : hi ‖₆₄ lo ≡ T 128 (bit_of 256 ((k ⟨ 0 ⟩ ‖₆₄ k ⟨ 1 ⟩) ‖₁₂₈ (k ⟨ 2 ⟩ ‖₆₄ k ⟨ 3 ⟩))) 0 (M block) 128
        sum =
            ap₂ ◌‖₆₄◌ s.0 s.1
            ∙ sym (sum-join 64 64 (bit_at 64 f) (bit_at_lt 64 f) 0 (M block) 128)
            ∙ sum-piece (bit_at 64 f) (bit_at_lt 64 f) (M block) 128 0 256 128 (omega arith)
            ∙ ap (λ (x : ℕ). T 128 (bit_of 256 x) 0 (M block) 128)
            (window-split (bit_at 64 f) 0 128 128 ∙ ap₂ ◌‖₁₂₈◌ (pair-window f 0 (small 0) (small 1)) (pair-window f 2 (small 2) (small 3)))

-- the third width, where the others are ruled out
pub is-16 : (w : ℕ) → Width w → (w ≡ 4 → ⊥) → (w ≡ 8 → ⊥) → w ≡ 16
is-16 w h not4 not8 = ⊎_elim (λ e. absurd (not4 e)) (λ o. ⊎_elim (λ e. absurd (not8 e)) (λ e. e) o) h

-- four bytes as one word, and two words as one
pub bytes-32 : (m : List ℕ) (k : ℕ) → ((i : ℕ) → m ⟨ i ⟩ < 2 ^ 8)
    → ((m ⟨ k ⟩ * 2 ^ 8 + m ⟨ k + 1 ⟩) * 2 ^ 8 + m ⟨ k + 2 ⟩) * 2 ^ 8 + m ⟨ k + 3 ⟩ ≡ window (M m) (k * 8) 32
unfolding M window
bytes-32 m k h =
    sym
    (window-cells 8 (omega arith) f k 3 (h (k + 3))
    ∙ ap (λ (x : ℕ). x * 2 ^ 8 + m ⟨ k + 3 ⟩)
    (window-cells 8 (omega arith) f k 2 (h (k + 2))
    ∙ ap (λ (x : ℕ). x * 2 ^ 8 + m ⟨ k + 2 ⟩)
    (window-cells 8 (omega arith) f k 1 (h (k + 1)) ∙ ap (λ (x : ℕ). x * 2 ^ 8 + m ⟨ k + 1 ⟩) (window-cell 8 (omega arith) f k (h k)))))
  where
    f : ℕ → ℕ
    f j = m ⟨ j ⟩

pub bytes-64 : (m : List ℕ) (k : ℕ) → window (M m) (k * 8) 32 * 2 ^ 32 + window (M m) ((k + 4) * 8) 32 ≡ window (M m) (k * 8) 64
bytes-64 m k =
    sym (window-split (M m) (k * 8) 32 32 ∙ ap (λ (x : ℕ). window (M m) (k * 8) 32 * 2 ^ 32 + window (M m) x 32) place)
  where
    place : k * 8 + 32 ≡ (k + 4) * 8
    place = omega arith

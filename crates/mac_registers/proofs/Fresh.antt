-- Words drawn before they are used: their bits are the keystream's, and a tag's words and a key pair are made of them.
use mathlib.Core.Logic.{⊎_elim}
use mathlib.Core.Path.{◌≡◌, refl, sym, ap, ap₂, ◌∙◌}
use mathlib.Core.List.{List, [], ◌∷◌, ◌++◌}
use Prim.Native.Nat.{ℕ, ◌+◌, ◌*◌, ◌/◌, ◌%◌, ◌^◌, ◌<◌, ◌≤◌}
use native.Mathlib.Omega.{arith}
use native.Mathlib.Nat.{add-mul, mod-eq_of_lt, zero-add, zero-mod, zero-mul}
use lib.ListN.{get_or, length, replicate, take}
use lib.Seq.{get_or-take, length-take-le, take_at}
use Rattle.standard.specs.Bits.{bit_at, bit_of, window, z}
use Rattle.standard.specs.Generator.{word_at}
use Rattle.standard.specs.States.{Held}
use Rattle.standard.specs.Notation.{◌⟨◌⟩, listed}
use Rattle.standard.proofs.Listed.{get_or-listed, length-listed}
use Rattle.standard.proofs.Register.{shl-keeps}
use Rattle.standard.proofs.Window.{window-cell, window-cells, window-ext, window-lt, window-split}
use Rattle.mac_registers.specs.Stored.{◌‖₆₄◌, key_of, key_words, tag_of, tag_words}
use Rattle.mac_registers.specs.Inner.{Width, bits_of}
use Rattle.mac_registers.proofs.Message.{z-lt}
use Rattle.mac_registers.proofs.Packed.{key_back, tag_back}
use Rattle.mac_registers.proofs.Widths.{tag-words-16}

-- as many words as a width has
pub quarters : {w : ℕ} → Width w → w / 4 * 32 ≡ w * 8
quarters v = ⊎_elim (λ e. rw e refl) (λ o. ⊎_elim (λ e. rw e refl) (λ e. rw e refl) o) v

-- n words at the front that the generator draws next
module _ (words : List ℕ) (n : ℕ) (σ : Held) (drawn : take n words ≡ listed (word_at σ.meaning) 0 n) where
  bit-drawn : (p : ℕ) → p < n * 32 → bits_of words p ≡ z (word_at σ.meaning) p
  unfolding z bit_at
  bit-drawn p h =
      ap (λ (x : ℕ). bit_of 32 x (p % 32))
      (sym (get_or-take n words (p / 32) 0 (omega arith))
      ∙ ap (λ (l : List ℕ). get_or l (p / 32) 0) drawn
      ∙ get_or-listed (word_at σ.meaning) 0 n (p / 32) (omega arith)
      ∙ ap (word_at σ.meaning) (zero-add (p / 32)))

  pub bits-drawn : (a t : ℕ) → a + t ≤ n * 32 → window (bits_of words) a t ≡ window (z (word_at σ.meaning)) a t
  bits-drawn a t h = window-ext (bits_of words) (z (word_at σ.meaning)) a a t (λ j l. bit-drawn (a + j) (omega arith))

-- the front of an array that was filled with words
pub filled : (f : ℕ → ℕ) (n : ℕ) (ys zs l : List ℕ) → ys ≡ listed f 0 (length (take n zs)) → n ≤ length zs → take n (ys ++ l) ≡ listed f 0 n
filled f n ys zs l e h = take_at ys l n (ap length e ∙ length-listed f 0 (length (take n zs)) ∙ length-take-le n zs h) ∙ e ∙ ap (listed f 0) (length-take-le n zs h)

module _ (words : List ℕ) where
  module _ (small : (i : ℕ) → words ⟨ i ⟩ < 2 ^ 32) (at : ℕ) where
    one : window (bits_of words) (at * 32) 32 ≡ words ⟨ at ⟩
    unfolding z
    one = window-cell 32 (omega arith) (λ j. words ⟨ j ⟩) at (small at)

    two : (p : ℕ) → p ≡ at * 32 → window (bits_of words) p 64 ≡ words ⟨ at ⟩ * 2 ^ 32 + words ⟨ at + 1 ⟩
    unfolding z
    two p e =
        ap (λ (x : ℕ). window (bits_of words) x 64) e
        ∙ window-cells 32 (omega arith) (λ j. words ⟨ j ⟩) at 1 (small (at + 1))
        ∙ ap (λ (x : ℕ). x * 2 ^ 32 + words ⟨ at + 1 ⟩) one

  -- the words of a tag from word `at` on
  abbrev pub Fresh-at : ℕ → ℕ → List ℕ → Type 0
  Fresh-at w at r = r ≡ tag_words w (window (bits_of words) (at * 32) (w * 8))

  module _ (small : (i : ℕ) → words ⟨ i ⟩ < 2 ^ 32) (w at : ℕ) where
    pub fresh-4 : w ≡ 4 → Fresh-at w at (words ⟨ at ⟩ ∷ 0 ∷ [])
    unfolding tag_words
    fresh-4 e = rw e (ap (λ (x : ℕ). x ∷ 0 ∷ []) (sym (one small at)))

    pub fresh-8 : w ≡ 8 → (x : ℕ) → x ≡ words ⟨ at ⟩ * 2 ^ 32 + words ⟨ at + 1 ⟩ → Fresh-at w at (x ∷ 0 ∷ [])
    unfolding tag_words
    fresh-8 e x p = rw e (ap (λ (y : ℕ). y ∷ 0 ∷ []) (p ∙ sym (two small at (at * 32) refl)))

    pub fresh-16 : w ≡ 16 → (x y : ℕ) → y < 2 ^ 64 → x ≡ words ⟨ at ⟩ * 2 ^ 32 + words ⟨ at + 1 ⟩ → y ≡ words ⟨ at + 2 ⟩ * 2 ^ 32 + words ⟨ at + 3 ⟩
        → Fresh-at w at (x ∷ y ∷ [])
    fresh-16 e x y h p q =
        rw e
        (sym
        (ap (tag_words 16) (window-split (bits_of words) (at * 32) 64 64)
        ∙ ap₂ (λ (a b : ℕ). tag_words 16 (a ‖₆₄ b)) (two small at (at * 32) refl ∙ sym p) (two small (at + 2) (at * 32 + 64) place ∙ next ∙ sym q)
        ∙ tag-words-16 x y h))
      where
        place : at * 32 + 64 ≡ (at + 2) * 32
        place = omega arith

        next : words ⟨ at + 2 ⟩ * 2 ^ 32 + words ⟨ at + 2 + 1 ⟩ ≡ words ⟨ at + 2 ⟩ * 2 ^ 32 + words ⟨ at + 3 ⟩
        next = ap (λ (k : ℕ). words ⟨ at + 2 ⟩ * 2 ^ 32 + words ⟨ k ⟩) (omega arith)

  module _ {w : ℕ} (v : Width w) where
    fresh-back : (at : ℕ) (r : List ℕ) → Fresh-at w at r → tag_of w r ≡ window (bits_of words) (at * 32) (w * 8)
    fresh-back at r e = ap (tag_of w) e ∙ tag_back v (window (bits_of words) (at * 32) (w * 8))

    -- they are below the width
    pub fresh-lt : (at : ℕ) (r : List ℕ) → Fresh-at w at r → tag_of w r < 2 ^ (w * 8)
    fresh-lt at r e = rw (fresh-back at r e) (window-lt (bits_of words) (z-lt (λ j. words ⟨ j ⟩)) (at * 32) (w * 8))

    key-zero : key_of w (replicate 4 0) ≡ 0
    unfolding key_of
    key-zero = ⊎_elim (λ e. rw e refl) (λ o. ⊎_elim (λ e. rw e refl) (λ e. rw e refl) o) v

    -- a key pair: two halves moved in one after the other
    pub key-at-is : (at : ℕ) (f₁ half f₂ key : List ℕ) → Fresh-at w at f₁
        → half ≡ key_words w (key_of w (replicate 4 0) * 2 ^ (w * 8) % 2 ^ (w * 8 + w * 8) + tag_of w f₁)
        → Fresh-at w (at + w / 4) f₂ → key ≡ key_words w (key_of w half * 2 ^ (w * 8) % 2 ^ (w * 8 + w * 8) + tag_of w f₂)
        → key ≡ key_words w (window (bits_of words) (at * 32) (w * 8 + w * 8))
    key-at-is at f₁ half f₂ key e₁ eh e₂ ek =
        ek
        ∙ ap₂ (λ (x y : ℕ). key_words w (x * 2 ^ (w * 8) % 2 ^ (w * 8 + w * 8) + y))
        (ap (key_of w) (eh ∙ ap (key_words w) first) ∙ key_back v A)
        (fresh-back (at + w / 4) f₂ e₂ ∙ ap (λ (x : ℕ). window (bits_of words) x (w * 8)) place)
        ∙ ap (λ (x : ℕ). key_words w (x + window (bits_of words) (at * 32 + w * 8) (w * 8)))
        (shl-keeps A (w * 8) (w * 8) ∙ ap (λ (x : ℕ). x * 2 ^ (w * 8)) (mod-eq_of_lt (window-lt (bits_of words) (z-lt (λ j. words ⟨ j ⟩)) (at * 32) (w * 8))))
        ∙ ap (key_words w) (sym (window-split (bits_of words) (at * 32) (w * 8) (w * 8)))
      where
        A : ℕ
        A = window (bits_of words) (at * 32) (w * 8)

        first : key_of w (replicate 4 0) * 2 ^ (w * 8) % 2 ^ (w * 8 + w * 8) + tag_of w f₁ ≡ A
        first =
            ap₂ (λ (x y : ℕ). x * 2 ^ (w * 8) % 2 ^ (w * 8 + w * 8) + y) key-zero (fresh-back at f₁ e₁)
            ∙ ap (λ (x : ℕ). x % 2 ^ (w * 8 + w * 8) + A) (zero-mul (2 ^ (w * 8)))
            ∙ ap (λ (x : ℕ). x + A) (zero-mod (2 ^ (w * 8 + w * 8)))
            ∙ zero-add A

        place : (at + w / 4) * 32 ≡ at * 32 + w * 8
        place = add-mul at (w / 4) 32 ∙ ap (λ (x : ℕ). at * 32 + x) (quarters v)

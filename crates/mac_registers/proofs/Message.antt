-- Bits of a message in parts, and of a keystream after some words; by places.
use mathlib.Core.Path.{◌≡◌, ap, ap₂, ◌∙◌}
use mathlib.Core.List.{List, ◌++◌}
use Prim.Native.Nat.{ℕ, ◌+◌, ◌*◌, ◌/◌, ◌%◌, ◌<◌}
use native.Mathlib.Nat.{zero-add}
use native.Mathlib.Omega.{arith}
use lib.ListN.{get_or-append, drop, get_or, length}
use lib.Seq.{get_or-drop}
use Rattle.standard.specs.Bits.{M, bit_at, bit_of, window, z}
use Rattle.standard.specs.Generator.{word_at}
use Rattle.standard.specs.States.{Held, moved}
use Rattle.standard.proofs.Held.{word_at-moved}
use Rattle.standard.proofs.Window.{bit_at_lt, window-ext}

pub z-lt : (words : ℕ → ℕ) (i : ℕ) → z words i < 2
unfolding z
z-lt words i = bit_at_lt 32 words i

-- a message's bits are its front's, and from a byte on those of its rest
pub M-front : (m r : List ℕ) (i : ℕ) → i < length m * 8 → M (m ++ r) i ≡ M m i
unfolding M bit_at
M-front m r i h = ap (λ (x : ℕ). bit_of 8 x (i % 8)) (get_or-append m r 0 (i / 8) (omega arith))

pub M-drop : (c : ℕ) (m : List ℕ) (i : ℕ) → M (drop c m) i ≡ M m (c * 8 + i)
unfolding M bit_at
M-drop c m i = ap₂ (bit_of 8) (get_or-drop c m (i / 8) 0 ∙ ap (λ (x : ℕ). get_or m x 0) q) r
  where
    q : c + i / 8 ≡ (c * 8 + i) / 8
    q = omega arith

    r : i % 8 ≡ (c * 8 + i) % 8
    r = omega arith

-- the keystream after w words
pub z-after : (w : ℕ) (h : Held) (i : ℕ) → z (word_at (moved w h).meaning) i ≡ z (word_at h.meaning) (w * 32 + i)
unfolding z bit_at
z-after w h i = ap₂ (bit_of 32) (word_at-moved w (i / 32) h ∙ ap (word_at h.meaning) q) r
  where
    q : w + i / 32 ≡ (w * 32 + i) / 32
    q = omega arith

    r : i % 32 ≡ (w * 32 + i) % 32
    r = omega arith

pub window-after : (t w : ℕ) (h : Held) → window (z (word_at (moved w h).meaning)) 0 t ≡ window (z (word_at h.meaning)) (w * 32) t
window-after t w h =
    window-ext (z (word_at (moved w h).meaning)) (z (word_at h.meaning)) 0 (w * 32) t
    (λ j l. ap (z (word_at (moved w h).meaning)) (zero-add j) ∙ z-after w h j)

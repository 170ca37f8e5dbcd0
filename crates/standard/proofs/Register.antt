-- Registers of bits: numbers and windows moved up, exclusive ors of windows, and the sum T as a window of its bits; by cutting windows in two.
use mathlib.Core.Path.{◌≡◌, refl, sym, ap, ap₂, ◌∙◌}
use Prim.Native.Nat.{ℕ, zero, suc, ◌+◌, ◌*◌, ◌/◌, ◌%◌, ◌^◌, ◌<◌, ◌≤◌}
use native.Mathlib.Nat.{add_assoc, add-zero, mul-mod_left, zero-add}
use native.Mathlib.Numerals.{add-one}
use native.Mathlib.Omega.{arith}
use lib.Bits.{bit_xor, xor_block, xor_shifted}
use lib.Pow.{high, low, mod-pow-add, shl-shr}
use Rattle.standard.specs.Notation.{◌⊕◌}
use Rattle.standard.specs.Bits.{bit_of, window}
use Rattle.standard.specs.Integrity.{T}
use Rattle.standard.proofs.Window.{bit-window, window-lt, window-split}
use Rattle.standard.proofs.Sum.{sum-ext, sum-join, sum_lt}

-- of a word of k + n digits, `x << n` keeps the k low digits of x
pub shl-keeps : (x k n : ℕ) → x * 2 ^ n % 2 ^ (k + n) ≡ (x % 2 ^ k) * 2 ^ n
shl-keeps x k n =
    mod-pow-add (x * 2 ^ n) k n
    ∙ ap₂ (λ (a b : ℕ). (a % 2 ^ k) * 2 ^ n + b) (shl-shr x n) (mul-mod_left x (2 ^ n))
    ∙ add-zero ((x % 2 ^ k) * 2 ^ n)

module _ (s : ℕ → ℕ) (b : (i : ℕ) → s i < 2) where
  -- the top and the low bits of a window
  pub window-high : (p k c : ℕ) → window s p (k + c) / 2 ^ c ≡ window s p k
  window-high p k c = ap (λ (x : ℕ). x / 2 ^ c) (window-split s p k c) ∙ high (window s p k) c (window-lt s b (p + k) c)

  pub window-low : (p k c : ℕ) → window s p (k + c) % 2 ^ c ≡ window s (p + k) c
  window-low p k c = ap (λ (x : ℕ). x % 2 ^ c) (window-split s p k c) ∙ low (window s p k) c (window-lt s b (p + k) c)

  -- one word moved up, with the top bits of the next one below it
  pub window-up : (c k p : ℕ)
      → window s p (k + c) * 2 ^ k % 2 ^ (c + k) ⊕ window s (p + (k + c)) (k + c) / 2 ^ c ≡ window s (p + k) (c + k)
  window-up c k p =
      ap₂ bit_xor (shl-keeps (window s p (k + c)) c k ∙ ap (λ (x : ℕ). x * 2 ^ k) (window-low p k c)) (window-high (p + (k + c)) k c)
      ∙ xor_shifted (window s (p + k) c) k (window s (p + (k + c)) k) (window-lt s b (p + (k + c)) k)
      ∙ sym (window-split s (p + k) c k ∙ ap (λ (x : ℕ). window s (p + k) c * 2 ^ k + window s x k) (add_assoc p k c))

pub window-none : (s : ℕ → ℕ) (p t : ℕ) → ((j : ℕ) → s (p + j) ≡ 0) → window s p t ≡ 0
unfolding window
window-none s p zero e = refl
window-none s p (suc t) e = ap₂ (λ (x y : ℕ). x * 2 + y) (window-none s p t e) (e t)

pub window-xor : (s r : ℕ → ℕ) → ((i : ℕ) → s i < 2) → ((i : ℕ) → r i < 2) → (p t : ℕ)
    → window s p t ⊕ window r p t ≡ window (λ i. s i ⊕ r i) p t
unfolding window
window-xor s r b d p zero = refl
window-xor s r b d p (suc t) =
    xor_block 1 (window s p t) (window r p t) (s (p + t)) (r (p + t)) (b (p + t)) (d (p + t))
    ∙ ap (λ (x : ℕ). x * 2 + (s (p + t) ⊕ r (p + t))) (window-xor s r b d p t)

module _ (s : ℕ → ℕ) (b : (i : ℕ) → s i < 2) (m : ℕ → ℕ) (l : ℕ) where
  -- a sum of windows is the window of the sums of single bits
  pub sum-window : (o t : ℕ) → T t s o m l ≡ window (λ i. T 1 s i m l) o t
  unfolding window
  sum-window o zero = omega (arith, sum_lt 0 s b o m l)
  sum-window o (suc t) =
      ap (λ (x : ℕ). T x s o m l) (sym (add-one t))
      ∙ sum-join t 1 s b o m l
      ∙ ap (λ (x : ℕ). x * 2 + T 1 s (o + t) m l) (sum-window o t)

  -- a sum reads n bits of the stream at its place
  pub sum-piece : (o n t : ℕ) → l + t ≤ n → T t s o m l ≡ T t (bit_of n (window s o n)) 0 m l
  sum-piece o n t h =
      sum-ext t s (bit_of n (window s o n)) o 0 m m l
      (λ j u. sym (ap (bit_of n (window s o n)) (zero-add j) ∙ bit-window s b o n j (omega arith))) (λ j u. refl)

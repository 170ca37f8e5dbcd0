-- Laws of windows: in two parts, by its bits, of a number, of whole cells; by induction on the width.
use mathlib.Core.Path.{◌≡◌, refl, sym, ap, ap₂, ◌∙◌, subst}
use Prim.Native.Nat.{ℕ, zero, suc, ◌+◌, ◌-◌, ◌*◌, ◌/◌, ◌%◌, ◌^◌, ◌<◌, ◌≤◌}
use native.Mathlib.Nat.{add-zero, zero-add, add-suc, add_assoc, mul-one, mul_assoc, pow-suc, mod-lt, mod-one, div-one, mod-eq_of_lt, add-mul}
use native.Mathlib.Numerals.{add-one}
use native.Mathlib.Omega.{arith}
use lib.Arith.{digits_lt, digits_div, digits_mod}
use lib.Pow.{high, shr-shr, mod-pow-add}
use Rattle.standard.specs.Bits.{bit_of, bit_at, window}

pub bit_of-lt : (n x i : ℕ) → bit_of n x i < 2
unfolding bit_of
bit_of-lt n x i = mod-lt (x / 2 ^ (n - suc i)) (omega arith)

pub bit_at_lt : (n : ℕ) (f : ℕ → ℕ) (i : ℕ) → bit_at n f i < 2
unfolding bit_at
bit_at_lt n f i = bit_of-lt n (f (i / n)) (i % n)

pub window-lt : (s : ℕ → ℕ) → ((i : ℕ) → s i < 2) → (i t : ℕ) → window s i t < 2 ^ t
unfolding window
window-lt s b i zero = omega arith
window-lt s b i (suc t) = subst (λ (x : ℕ). window s i t * 2 + s (i + t) < x) (sym (pow-suc 2 t)) (digits_lt (window-lt s b i t) (b (i + t)))

shift_suc : (a k : ℕ) → a * 2 ^ suc k ≡ a * 2 ^ k * 2
shift_suc a k = ap (λ (x : ℕ). a * x) (pow-suc 2 k) ∙ sym (mul_assoc a (2 ^ k) 2)

pub window-split : (s : ℕ → ℕ) (i a b : ℕ) → window s i (a + b) ≡ window s i a * 2 ^ b + window s (i + a) b
unfolding window
window-split s i a zero = ap (window s i) (add-zero a) ∙ sym (add-zero (window s i a * 1) ∙ mul-one (window s i a))
window-split s i a (suc b) =
    ap (window s i) (add-suc a b)
    ∙ ap₂ (λ (x y : ℕ). x * 2 + s y) (window-split s i a b) (sym (add_assoc i a b))
    ∙ omega (arith, shift_suc (window s i a) b)

pub window-ext : (s s' : ℕ → ℕ) (i i' t : ℕ) → ((j : ℕ) → j < t → s (i + j) ≡ s' (i' + j)) → window s i t ≡ window s' i' t
unfolding window
window-ext s s' i i' zero e = refl
window-ext s s' i i' (suc t) e =
    ap₂ (λ (x y : ℕ). x * 2 + y) (window-ext s s' i i' t (λ j h. e j (omega arith))) (e t (omega arith))

-- the window of a number's own bits
pub window-bit_of : (n x p t : ℕ) → p + t ≤ n → window (bit_of n x) p t ≡ x / 2 ^ (n - (p + t)) % 2 ^ t
unfolding window bit_of
window-bit_of n x p zero h = sym (mod-one (x / 2 ^ (n - (p + 0))))
window-bit_of n x p (suc t) h =
    ap (λ (y : ℕ). y * 2 + x / 2 ^ k % 2) (window-bit_of n x p t (omega arith))
    ∙ ap (λ (y : ℕ). y % 2 ^ t * 2 + x / 2 ^ k % 2)
    (ap (λ (y : ℕ). x / 2 ^ y) e ∙ sym (shr-shr x k 1))
    ∙ sym (mod-pow-add (x / 2 ^ k) t 1)
    ∙ ap₂ (λ (y z : ℕ). x / 2 ^ y % 2 ^ z) e' (add-one t)
  where
    k : ℕ
    k = n - suc (p + t)

    e : n - (p + t) ≡ k + 1
    e = omega arith

    e' : k ≡ n - (p + suc t)
    e' = omega arith

-- bit i of a window
pub bit-window : (s : ℕ → ℕ) → ((i : ℕ) → s i < 2) → (p t i : ℕ) → i < t → bit_of t (window s p t) i ≡ s (p + i)
unfolding bit_of window
bit-window s b p t i h =
    ap (λ (x : ℕ). window s p x / 2 ^ (t - suc i) % 2) e
    ∙ ap (λ (x : ℕ). x / 2 ^ (t - suc i) % 2) (window-split s p (suc i) (t - suc i))
    ∙ ap (λ (x : ℕ). x % 2) (high (window s p (suc i)) (t - suc i) (window-lt s b (p + suc i) (t - suc i)))
    ∙ digits_mod (window s p i) (b (p + i))
  where
    e : t ≡ suc i + (t - suc i)
    e = omega arith

-- the window of one whole cell
pub window-cell : (n : ℕ) → 0 < n → (f : ℕ → ℕ) (k : ℕ) → f k < 2 ^ n → window (bit_at n f) (k * n) n ≡ f k
unfolding bit_at
window-cell n pos f k h =
    window-ext (bit_at n f) (bit_of n (f k)) (k * n) 0 n
    (λ j l. ap₂ (λ (x y : ℕ). bit_of n (f x) y) (digits_div k l) (digits_mod k l ∙ sym (zero-add j)))
    ∙ window-bit_of n (f k) 0 n (omega arith)
    ∙ ap (λ (x : ℕ). f k / 2 ^ x % 2 ^ n) e
    ∙ ap (λ (x : ℕ). x % 2 ^ n) (div-one (f k))
    ∙ mod-eq_of_lt h
  where
    e : n - (0 + n) ≡ 0
    e = omega arith

-- a window of whole cells, by one more cell
pub window-cells : (n : ℕ) → 0 < n → (f : ℕ → ℕ) (k j : ℕ) → f (k + j) < 2 ^ n
    → window (bit_at n f) (k * n) (j * n + n) ≡ window (bit_at n f) (k * n) (j * n) * 2 ^ n + f (k + j)
window-cells n pos f k j h =
    window-split (bit_at n f) (k * n) (j * n) n
    ∙ ap (λ (x : ℕ). window (bit_at n f) (k * n) (j * n) * 2 ^ n + x)
    (ap (λ (x : ℕ). window (bit_at n f) x n) (sym (add-mul k j n)) ∙ window-cell n pos f (k + j) h)

-- Laws of numbers whose bits are grouped anew: entry by entry, and back again; by the bits of windows.
use borrow.Author.Count.{below_none}
use lib.Arith.{digits_div, digits_lt, digits_mod}
use lib.ListN.{length}
use mathlib.Core.List.{List}
use mathlib.Core.Path.{◌≡◌, sym, ap, ap₂, ◌∙◌, subst}
use native.Mathlib.Nat.{add_assoc, add-mul, div-add-mod', div-lt_iff_lt-mul, mod-lt, mul_assoc, mul_comm, one-mul, zero-add}
use native.Mathlib.Omega.{arith}
use Prim.Native.Nat.{ℕ, ◌+◌, ◌-◌, ◌*◌, ◌/◌, ◌%◌, ◌^◌, ◌<◌, ◌≤◌}
use Rattle.capi_arrays.specs.Arrays.{regrouped}
use Rattle.standard.proofs.Listed.{get_or-listed, is-listed, length-listed}
use Rattle.standard.proofs.Window.{bit-window, bit_at_lt, window-bit_of, window-cell, window-ext, window-split}
use Rattle.standard.specs.Bits.{bit_at, bit_of, window}
use Rattle.standard.specs.Notation.{◌⟨◌⟩, listed}

-- two numbers of n bits as one
pub two-joined : (n : ℕ) → 0 < n → (f : ℕ → ℕ) (k : ℕ) → f k < 2 ^ n → f (k + 1) < 2 ^ n → f k * 2 ^ n + f (k + 1) ≡ window (bit_at n f) (k * n) (n + n)
two-joined n pos f k h h' =
    sym
    (window-split (bit_at n f) (k * n) n n
    ∙ ap₂ (λ (x y : ℕ). x * 2 ^ n + y) (window-cell n pos f k h) (ap (λ (x : ℕ). window (bit_at n f) x n) place ∙ window-cell n pos f (k + 1) h'))
  where
    place : k * n + n ≡ (k + 1) * n
    place = sym (add-mul k 1 n ∙ ap (λ (x : ℕ). k * n + x) (one-mul n))

-- a number of n bits out of one of m * n
pub one-cut : (m n : ℕ) → 0 < m → (f : ℕ → ℕ) (i : ℕ) → window (bit_of (m * n) (f (i / m))) (i % m * n) n ≡ window (bit_at (m * n) f) (i * n) n
unfolding bit_at
one-cut m n pos f i =
    window-ext (bit_of (m * n) (f (i / m))) (bit_at (m * n) f) (i % m * n) (i * n) n
    (λ j l.
    let h : i % m * n + j < m * n = digits_lt (mod-lt i pos) l in
    sym
    (ap₂ (λ (x y : ℕ). bit_of (m * n) (f x) y) (ap (λ (x : ℕ). x / (m * n)) (place j) ∙ digits_div (i / m) h)
    (ap (λ (x : ℕ). x % (m * n)) (place j) ∙ digits_mod (i / m) h)))
  where
    place : (j : ℕ) → i * n + j ≡ i / m * (m * n) + (i % m * n + j)
    place j =
        ap (λ (x : ℕ). x * n + j) (sym (div-add-mod' i m))
        ∙ ap (λ (x : ℕ). x + j) (add-mul (i / m * m) (i % m) n ∙ ap (λ (x : ℕ). x + i % m * n) (mul_assoc (i / m) m n))
        ∙ add_assoc (i / m * (m * n)) (i % m * n) j

pub cut_of : (N n w k : ℕ) → k * n + n ≤ N → w / 2 ^ (N - n - n * k) % 2 ^ n ≡ window (bit_of N w) (k * n) n
cut_of N n w k h = sym (window-bit_of N w (k * n) n h ∙ ap (λ (x : ℕ). w / 2 ^ x % 2 ^ n) place)
  where
    place : N - (k * n + n) ≡ N - n - n * k
    place = omega (arith, mul_comm k n)

-- bits that are grouped and read again are the bits
pub bits-same : (m n c : ℕ) → 0 < n → (f : ℕ → ℕ) (p : ℕ) → p < c * n
    → bit_at n (λ i. listed (λ j. window (bit_at m f) (j * n) n) 0 c ⟨ i ⟩) p ≡ bit_at m f p
unfolding bit_at
bits-same m n c pos f p h =
    ap (λ (x : ℕ). bit_of n x (p % n)) (get_or-listed W 0 c (p / n) ((div-lt_iff_lt-mul pos).1 h) ∙ ap W (zero-add (p / n)))
    ∙ bit-window (bit_at m f) (bit_at_lt m f) (p / n * n) n (p % n) (mod-lt p pos)
    ∙ ap (bit_at m f) (div-add-mod' p n)
  where
    W : ℕ → ℕ
    W j = window (bit_at m f) (j * n) n

pub regrouped-length : (m n c : ℕ) (run : List ℕ) → length (regrouped m n c run) ≡ c
unfolding regrouped
regrouped-length m n c run = length-listed (λ j. window (bit_at m (λ i. run ⟨ i ⟩)) (j * n) n) 0 c

-- numbers grouped anew and grouped back are the numbers
pub regrouped-back : (m n c d : ℕ) → 0 < m → 0 < n → c * n ≡ d * m → (run : List ℕ) → length run ≡ d → ((k : ℕ) → k < d → run ⟨ k ⟩ < 2 ^ m)
    → regrouped n m d (regrouped m n c run) ≡ run
unfolding regrouped
regrouped-back m n c d mpos npos same run full fits = sym (is-listed (λ j. window G (j * m) m) run d full (λ k h. sym (entry k h)))
  where
    f : ℕ → ℕ
    f i = run ⟨ i ⟩

    G : ℕ → ℕ
    G = bit_at n (λ i. listed (λ j. window (bit_at m f) (j * n) n) 0 c ⟨ i ⟩)

    entry : (k : ℕ) → k < d → window G (k * m) m ≡ run ⟨ k ⟩
    entry k h =
        window-ext G (bit_at m f) (k * m) (k * m) m
        (λ j l. bits-same m n c npos f (k * m + j) (subst (λ (x : ℕ). k * m + j < x) (sym same) (digits_lt h l)))
        ∙ window-cell m mpos f k (fits k h)

-- the first i entries of a list are those of a function, and where it begins (docs/PORT.md names it)
abbrev pub Filled : (ℕ → ℕ) → ℕ → ℕ → List ℕ → Type 0
Filled f n i xs = (i ≤ n) × (length xs ≡ n) × ((k : ℕ) → k < i → xs ⟨ k ⟩ ≡ f k)

pub none_filled : (f : ℕ → ℕ) (n : ℕ) (xs : List ℕ) → length xs ≡ n → Filled f n 0 xs
none_filled f n xs e = (omega arith, e, below_none (λ k. xs ⟨ k ⟩ ≡ f k))

-- A number joined of parts is joined so of no others, also where bits are or'd onto a constant that is clear below them; a word is its four
-- bytes, and a list of n bytes its n entries. By quotient and remainder, and by entries.
use mathlib.Core.List.{List}
use mathlib.Core.Path.{◌≡◌, sym, ap, ◌∙◌, subst}
use Prim.Native.Nat.{ℕ, ◌+◌, ◌*◌, ◌/◌, ◌%◌, ◌^◌, ◌<◌}
use native.Mathlib.Nat.{add-zero}
use lib.Bits.{or_shifted}
use lib.ListN.{length}
use lib.Pow.{high, low, shr_mod, shr-shr, split}
use lib.Seq.{ext_get_or}
use Rattle.standard.specs.Notation.{◌⟨◌⟩, ◌∣◌, ◌‖₈◌}

-- a before k digits b
pub parted : (k : ℕ) {a b c d : ℕ} → b < 2 ^ k → d < 2 ^ k → a * 2 ^ k + b ≡ c * 2 ^ k + d → (a ≡ c) × (b ≡ d)
parted k {a} {b} {c} {d} p q e =
    (sym (high a k p) ∙ ap (λ (n : ℕ). n / 2 ^ k) e ∙ high c k q, sym (low a k p) ∙ ap (λ (n : ℕ). n % 2 ^ k) e ∙ low c k q)

-- a constant c with k digits x or'd onto it
pub or-parted : (k c d x y : ℕ) → c % 2 ^ k ≡ 0 → d % 2 ^ k ≡ 0 → x < 2 ^ k → y < 2 ^ k → c ∣ x ≡ d ∣ y → (c ≡ d) × (x ≡ y)
or-parted k c d x y p q l m e =
    let both = parted k l m (sym (beside c x p l) ∙ e ∙ beside d y q m) in
    (sym (upper c p) ∙ ap (λ (n : ℕ). n * 2 ^ k) both.0 ∙ upper d q, both.1)
  where
    upper : (n : ℕ) → n % 2 ^ k ≡ 0 → n / 2 ^ k * 2 ^ k ≡ n
    upper n clear = sym (add-zero (n / 2 ^ k * 2 ^ k)) ∙ ap (λ (r : ℕ). n / 2 ^ k * 2 ^ k + r) (sym clear) ∙ split n k

    beside : (n r : ℕ) → n % 2 ^ k ≡ 0 → r < 2 ^ k → n ∣ r ≡ n / 2 ^ k * 2 ^ k + r
    beside n r clear h = ap (λ (m : ℕ). m ∣ r) (sym (upper n clear)) ∙ or_shifted (n / 2 ^ k) k r h

-- the bytes of a word from place n on
up : (x n : ℕ) → x / 2 ^ (n + 8) ‖₈ x / 2 ^ n % 2 ^ 8 ≡ x / 2 ^ n
up x n = ap (λ (m : ℕ). m ‖₈ x / 2 ^ n % 2 ^ 8) (sym (shr-shr x n 8)) ∙ split (x / 2 ^ n) 8

whole : (x : ℕ) → x < 2 ^ 32 → x / 2 ^ 24 % 2 ^ 8 ‖₈ x / 2 ^ 16 % 2 ^ 8 ‖₈ x / 2 ^ 8 % 2 ^ 8 ‖₈ x % 2 ^ 8 ≡ x
whole x h =
    ap (λ (m : ℕ). m ‖₈ x / 2 ^ 8 % 2 ^ 8 ‖₈ x % 2 ^ 8) (ap (λ (m : ℕ). m ‖₈ x / 2 ^ 16 % 2 ^ 8) (shr_mod 8 24 h) ∙ up x 16)
    ∙ ap (λ (m : ℕ). m ‖₈ x % 2 ^ 8) (up x 8)
    ∙ split x 8

pub same_word : (x y : ℕ) → x < 2 ^ 32 → y < 2 ^ 32 → x / 2 ^ 24 % 2 ^ 8 ≡ y / 2 ^ 24 % 2 ^ 8 → x / 2 ^ 16 % 2 ^ 8 ≡ y / 2 ^ 16 % 2 ^ 8
    → x / 2 ^ 8 % 2 ^ 8 ≡ y / 2 ^ 8 % 2 ^ 8 → x % 2 ^ 8 ≡ y % 2 ^ 8 → x ≡ y
same_word x y p q a b c d = sym (whole x p) ∙ (λ i. a i ‖₈ b i ‖₈ c i ‖₈ d i) ∙ whole y q

-- a list of n bytes
pub record OfBytes (n : ℕ) (l : List ℕ) : Type 0 where
  pub long : length l ≡ n
  pub small : (i : ℕ) → l ⟨ i ⟩ < 2 ^ 8

pub same_entries : (n : ℕ) (l m : List ℕ) → length l ≡ n → length m ≡ n → ((i : ℕ) → i < n → l ⟨ i ⟩ ≡ m ⟨ i ⟩) → l ≡ m
same_entries n l m p q same = ext_get_or 0 l m (p ∙ sym q) (λ i h. same i (subst (λ (k : ℕ). i < k) p h))

-- Whole units of a sum, taken apart so that nothing overflows, and the words of whole blocks; by the laws of division.
use mathlib.Core.Logic.{⊎_elim}
use mathlib.Core.Path.{◌≡◌, sym, ap, ap₂, ◌∙◌, subst}
use Prim.Native.Nat.{ℕ, ◌+◌, ◌*◌, ◌/◌, ◌%◌, ◌≤◌, ◌<◌}
use native.Mathlib.Nat.{add_assoc, add_comm, add-mul-div_right, le_trans, mod-add-div', mul_comm, mul-div-le, mul-div-mul_left, mul-le-mul_right, mul_right_comm}
use native.Mathlib.Omega.{arith}
use Rattle.mac_registers.specs.Inner.{Width}
use Rattle.mac_registers.proofs.Packed.{width-most}

pub units-are : (unit before n : ℕ) → 0 < unit → n / unit + (before + n % unit) / unit ≡ (before + n) / unit
units-are unit before n pos =
    add_comm (n / unit) ((before + n % unit) / unit)
    ∙ sym (add-mul-div_right (before + n % unit) (n / unit) pos)
    ∙ ap (λ (m : ℕ). m / unit) (add_assoc before (n % unit) (n / unit * unit) ∙ ap (λ (m : ℕ). before + m) (mod-add-div' n unit))

-- at four things or more to a word, the words are at most a quarter
pub words-most : (words unit m : ℕ) → words * 4 ≤ unit → words * (m / unit) * 4 ≤ m
words-most words unit m h =
    subst (λ (x : ℕ). x ≤ m) (mul_right_comm words 4 (m / unit)) (le_trans (mul-le-mul_right (m / unit) h) (mul-div-le m unit))

-- a width, and its words
pub width-range : {w : ℕ} → Width w → (4 ≤ w) × (w ≤ 16)
width-range v = (⊎_elim (λ e. omega arith) (λ o. ⊎_elim (λ e. omega arith) (λ e. omega arith) o) v, width-most v)

-- bytes to a block, or bits
pub blocks-in-bytes : (w m : ℕ) → w / 4 * (m / w) ≡ w * 8 / 32 * (8 * m / (w * 8))
blocks-in-bytes w m = ap₂ (λ (a b : ℕ). a * b) (omega arith) (sym (mul-div-mul_left m w (omega arith)) ∙ ap (λ (x : ℕ). 8 * m / x) (mul_comm 8 w))

pub blocks-in-bits : (w m : ℕ) → w / 4 * (m / (8 * w)) ≡ w * 8 / 32 * (m / (w * 8))
blocks-in-bits w m = ap₂ (λ (a b : ℕ). a * b) (omega arith) (ap (λ (x : ℕ). m / x) (mul_comm 8 w))

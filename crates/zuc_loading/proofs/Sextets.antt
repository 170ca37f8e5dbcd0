-- The 6-bit numbers of three bytes by shifts and remainders, from the laws of windows; and those of an IV by its bytes, computed.
use lib.Dec.{lit≤}
use lib.ListN.{get_or}
use mathlib.Core.List.{List, [], ◌∷◌}
use mathlib.Core.Path.{◌≡◌, ◌∙◌, ap₂, refl}
use native.Mathlib.Omega.{arith}
use Prim.Native.Nat.{ℕ, ◌%◌, ◌*◌, ◌+◌, ◌/◌, ◌<◌, ◌^◌}
use Rattle.zuc_loading.specs.InnerRows.{sextets}
use Rattle.standard.proofs.Window.{window-bit_of, window-split}
use Rattle.standard.specs.Bits.{M, bit_at, bit_of, window}
use Rattle.standard.specs.Loading.{IV₂₅₆}
use Rattle.standard.specs.Notation.{listed}

pub by-shifts : (x y z : ℕ) → x < 256 → y < 256 → z < 256
    → sextets (x ∷ y ∷ z ∷ []) ≡ x / 4 ∷ (x % 4 * 16 + y / 16) ∷ (y % 16 * 4 + z / 64) ∷ z % 64 ∷ []
unfolding listed window M bit_at bit_of
by-shifts x y z hx hy hz =
    let bits = M (x ∷ y ∷ z ∷ []) in
    let a : x / 2 ^ 2 % 2 ^ 6 ≡ x / 4 = omega arith in
    let b : x / 2 ^ 0 % 2 ^ 2 * 2 ^ 4 + y / 2 ^ 4 % 2 ^ 4 ≡ x % 4 * 16 + y / 16 = omega arith in
    let c : y / 2 ^ 0 % 2 ^ 4 * 2 ^ 2 + z / 2 ^ 6 % 2 ^ 2 ≡ y % 16 * 4 + z / 64 = omega arith in
    let d : z / 2 ^ 0 % 2 ^ 6 ≡ z % 64 = omega arith in
    let a' : window bits 0 6 ≡ x / 4 = window-bit_of 8 x 0 6 (lit≤ tt) ∙ a in
    let b' : window bits 6 6 ≡ x % 4 * 16 + y / 16 =
    window-split bits 6 2 4 ∙ ap₂ (λ (p q : ℕ). p * 2 ^ 4 + q) (window-bit_of 8 x 6 2 (lit≤ tt)) (window-bit_of 8 y 0 4 (lit≤ tt)) ∙ b in
    let c' : window bits 12 6 ≡ y % 16 * 4 + z / 64 =
    window-split bits 12 4 2 ∙ ap₂ (λ (p q : ℕ). p * 2 ^ 2 + q) (window-bit_of 8 y 4 4 (lit≤ tt)) (window-bit_of 8 z 0 2 (lit≤ tt)) ∙ c in
    let d' : window bits 18 6 ≡ z % 64 = window-bit_of 8 z 2 6 (lit≤ tt) ∙ d in
    λ i. a' i ∷ b' i ∷ c' i ∷ d' i ∷ []

pub first-four : (iv : List ℕ) → sextets (get_or iv 17 0 ∷ get_or iv 18 0 ∷ get_or iv 19 0 ∷ []) ≡ listed (IV₂₅₆ iv) 17 4
unfolding listed IV₂₅₆ window M bit_at bit_of
first-four iv = refl

pub last-four : (iv : List ℕ) → sextets (get_or iv 20 0 ∷ get_or iv 21 0 ∷ get_or iv 22 0 ∷ []) ≡ listed (IV₂₅₆ iv) 21 4
unfolding listed IV₂₅₆ window M bit_at bit_of
last-four iv = refl

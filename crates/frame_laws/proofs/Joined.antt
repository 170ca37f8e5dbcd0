-- A number of two or four bytes and its bytes: each gives the other back. By quotient and remainder.
use mathlib.Core.List.{[], ◌∷◌}
use mathlib.Core.Path.{◌≡◌, sym, ◌∙◌}
use Prim.Native.Nat.{ℕ, ◌<◌, ◌%◌, ◌^◌}
use native.Mathlib.Omega.{arith}
use Rattle.standard.specs.Bits.{byte_of, bytes_of}
use Rattle.standard.specs.Notation.{◌‖₈◌}
use Rattle.standard.proofs.Parts.{same_word}
use Rattle.zuc_loading.proofs.Loaded.{byte-lt}

pub bytes-of-two : (a b : ℕ) → a < 2 ^ 8 → b < 2 ^ 8 → (a ≡ byte_of (a ‖₈ b) 2) × (b ≡ byte_of (a ‖₈ b) 3)
unfolding byte_of
bytes-of-two a b ha hb = (omega arith, omega arith)

pub two-joined : (x : ℕ) → x < 2 ^ 16 → byte_of x 2 ‖₈ byte_of x 3 ≡ x
unfolding byte_of
two-joined x h = omega arith

module _ (a b c d : ℕ) (ha : a < 2 ^ 8) (hb : b < 2 ^ 8) (hc : c < 2 ^ 8) (hd : d < 2 ^ 8) where
  each-of-four : (a ≡ byte_of (a ‖₈ b ‖₈ c ‖₈ d) 0) × (b ≡ byte_of (a ‖₈ b ‖₈ c ‖₈ d) 1) × (c ≡ byte_of (a ‖₈ b ‖₈ c ‖₈ d) 2) × (d ≡ byte_of (a ‖₈ b ‖₈ c ‖₈ d) 3)
  unfolding byte_of
  each-of-four = (omega arith, omega arith, omega arith, omega arith)

  pub bytes-of-four : a ∷ b ∷ c ∷ d ∷ [] ≡ bytes_of (a ‖₈ b ‖₈ c ‖₈ d)
  bytes-of-four = λ i. each-of-four.0 i ∷ each-of-four.1 i ∷ each-of-four.2 i ∷ each-of-four.3 i ∷ []

  pub four-lt : a ‖₈ b ‖₈ c ‖₈ d < 2 ^ 32
  four-lt = omega arith

lowest : (x : ℕ) → byte_of x 3 ≡ x % 2 ^ 8
unfolding byte_of
lowest x = omega arith

pub four-joined : (x : ℕ) → x < 2 ^ 32 → byte_of x 0 ‖₈ byte_of x 1 ‖₈ byte_of x 2 ‖₈ byte_of x 3 ≡ x
unfolding byte_of
four-joined x h =
    let y : ℕ = byte_of x 0 ‖₈ byte_of x 1 ‖₈ byte_of x 2 ‖₈ byte_of x 3 in
    let e = each-of-four (byte_of x 0) (byte_of x 1) (byte_of x 2) (byte_of x 3) (byte-lt x 0) (byte-lt x 1) (byte-lt x 2) (byte-lt x 3) in
    same_word y x (four-lt (byte_of x 0) (byte_of x 1) (byte_of x 2) (byte_of x 3) (byte-lt x 0) (byte-lt x 1) (byte-lt x 2) (byte-lt x 3)) h
    (sym e.0) (sym e.1) (sym e.2) (sym (lowest y) ∙ sym e.3 ∙ lowest x)

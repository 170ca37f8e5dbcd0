-- A call's outcome by its tests, with or without a state: which refusal, or the answer; and each mode's mask as the inner functions'.
use mathlib.Core.Bool.{Bool, true, false}
use mathlib.Core.List.{List, [], ◌∷◌}
use mathlib.Core.Path.{◌≡◌, refl, sym, ap, ◌∙◌}
use mathlib.Core.Logic.{⊎_elim}
use Prim.Native.Nat.{ℕ, ◌+◌, ◌*◌, ◌/◌, ◌%◌}
use native.Mathlib.Nat.{eq-zero-or-pos}
use native.Mathlib.Omega.{arith}
use lib.Dec.{leb}
use lib.ListN.{length}
use Rattle.standard.specs.Confidentiality.{mask_clean}
use Rattle.standard.specs.Refusals.{Test, bad_bits, bits_test, limit_test, spent, tested}
use Rattle.standard.specs.States.{limit}
use Rattle.standard.proofs.Kept.{crate_end, edge-end, inner-end}
use Rattle.standard.proofs.Masking.{crate-clean}
use Rattle.mask.specs.Inner.{mode_end}
use Rattle.mask.specs.Modes.{mode_mask}

-- a call by its tests: one of the state or of the key, then those of the bits and of the words that are left
pub record Call (A : Type 0) : Type 0 where
  pub first : Test
  pub L : ℕ
  pub buffer : List ℕ
  pub count : ℕ
  pub words : ℕ
  pub refused : ℕ → A
  pub answer : A

module _ {A : Type 0} (call : Call A) where
  abbrev outcome : A
  outcome = tested (call.first ∷ bits_test call.L call.buffer ∷ limit_test call.count call.words ∷ []) call.refused call.answer

  pub bad-first : call.first.passes ≡ false → call.refused call.first.number ≡ outcome
  unfolding tested
  bad-first f = rw f refl

  module _ (f : call.first.passes ≡ true) where
    pub bad-bits : leb call.L (length call.buffer * 8) ≡ false → call.refused bad_bits ≡ outcome
    unfolding tested
    bad-bits l = rw (f, l) refl

    -- so many words, by a number that is as much
    module _ (l : leb call.L (length call.buffer * 8) ≡ true) {n : ℕ} (same : n ≡ call.words) where
      left : {b : Bool} → leb (call.count + n) limit ≡ b → leb (call.count + call.words) limit ≡ b
      left m = ap (λ (k : ℕ). leb (call.count + k) limit) (sym same) ∙ m

      pub too_many : leb (call.count + n) limit ≡ false → call.refused spent ≡ outcome
      unfolding tested
      too_many m = rw (f, l, left m) refl

      pub done : {a : A} → leb (call.count + n) limit ≡ true → a ≡ call.answer → a ≡ outcome
      unfolding tested
      done m e = rw (f, l, left m) e

-- clean mode up to the mode's end is the mode
pub mode-mask : (clean : Bool) (words : ℕ → ℕ) (L : ℕ) (buffer : List ℕ) {end : ℕ} → end ≡ mode_end clean L
    → mask_clean words end buffer ≡ mode_mask clean words L buffer
mode-mask true words L buffer e = ap (λ (x : ℕ). mask_clean words x buffer) e
mode-mask false words L buffer e = ap (λ (x : ℕ). mask_clean words x buffer) e ∙ sym (crate-clean words L buffer)

-- crate mode keeps all of a byte whose first bit is the first past the length
pub crate-end : (L : ℕ) → L / 8 * 8 + ((L % 8 + 7) % 8 + 1) ≡ crate_end L
crate-end L =
    ⊎_elim (λ e. rw (edge-end L e) (omega arith)) (λ p. rw (inner-end L (λ e. omega arith)) (omega arith)) (eq-zero-or-pos (L % 8))

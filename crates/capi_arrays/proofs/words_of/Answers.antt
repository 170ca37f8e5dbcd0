-- `words_of`: each word joins two of the places and registers.
use borrow.Author.Rules.{rules}
use mathlib.Core.Path.{◌≡◌, ◌∙◌, ap}
use mir.Syntax.{w32}
use mir.Val.{Fits}
use native.Mathlib.Omega.{arith}
use Prim.Native.Nat.{ℕ, ◌+◌, ◌*◌, ◌^◌}
use Rattle.capi_arrays.proofs.Regrouped.{two-joined}
use Rattle.capi_arrays.specs.Arrays.{regrouped}
use Rattle.standard.proofs.Made.{made_as}
use Rattle.standard.specs.Bits.{bit_at, window}
use Rattle.standard.specs.Notation.{◌⟨◌⟩}
use Rattle.capi_arrays.proofs.words_of.Goals as goal

pub returns : goal.returns
unfolding regrouped
returns c =
    let a = c.placed-a.result in
    let fits : (i : ℕ) → Fits w32 (a ⟨ i ⟩) = λ i. search rules in
    let place : (i : ℕ) → 2 * i * 32 ≡ i * 64 = λ i. omega arith in
    made_as {v = λ i. a ⟨ 2 * i ⟩ * 2 ^ 32 + a ⟨ 2 * i + 1 ⟩} (λ i y q l s. search rules) c.from_fn.ensures.items
    (λ i l.
    two-joined 32 (omega arith) (λ k. a ⟨ k ⟩) (2 * i) (fits (2 * i)).fits (fits (2 * i + 1)).fits
    ∙ ap (λ (n : ℕ). window (bit_at 32 (λ k. a ⟨ k ⟩)) n 64) (place i))
    ∙ ap (regrouped 32 64 9) c.placed-a.ensures

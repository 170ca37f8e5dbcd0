-- `xor_word`: a byte of the whole word's xor is the byte's own.
use mathlib.Core.Path.{◌≡◌, ap, ◌∙◌}
use Prim.Native.Nat.{ℕ, ◌<◌, ◌^◌}
use native.Mathlib.Omega.{arith}
use lib.ListN.{get_or}
use Rattle.standard.specs.Confidentiality.{masked}
use Rattle.standard.specs.Bits.{byte_of}
use Rattle.standard.specs.Notation.{◌⊕◌}
use Rattle.mask_bulk.proofs.Words.{joined, byte-masked, four-stored}
use Rattle.mask_bulk.proofs.xor_word.Goals as goal

pub returns : goal.returns
returns c =
    let a = c.args in
    let byte : ℕ → ℕ = λ i. get_or a.part.now i 0 in
    let low : (i : ℕ) → byte i < 2 ^ 8 = λ i. (c.slice_known-1.given i).fits in
    let whole = joined (byte 0) (byte 1) (byte 2) (byte 3) (low 0) (low 1) (low 2) (low 3) in
    let word = c.word_of.result in
    let at : (j : ℕ) → j < 4 → byte_of _ j ≡ byte j → byte_of (word ⊕ a.word) j ≡ masked (λ n. a.word) j (byte j) =
    λ j h e. byte-masked a.word word j (byte j) h (ap (λ (y : ℕ). byte_of y j) c.word_of.ensures ∙ e) in
    four-stored (masked (λ n. a.word)) a.part.now _ _ _ _ c.requires (c.byte_of.ensures ∙ at 0 (omega arith) whole.0)
    (c.byte_of-2.ensures ∙ at 1 (omega arith) whole.1) (c.byte_of-3.ensures ∙ at 2 (omega arith) whole.2)
    (c.byte_of-4.ensures ∙ at 3 (omega arith) whole.3)

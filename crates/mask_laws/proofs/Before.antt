-- The buffer's answer of clean mode is what it was before request 2026-02, and no call that was accepted is refused since; what moved is the
-- words drawn. By the tests of both: ⌈L/32⌉ words are never more than floor(n/4) + 1 where L fits n bytes.
use mathlib.Core.List.{List}
use mathlib.Core.Path.{◌≡◌, sym, ap, ◌∙◌}
use Prim.Native.Nat.{ℕ}
use native.Mathlib.Omega.{arith}
use lib.ListN.{length}
use Rattle.standard.specs.Confidentiality.{mask_clean, words_to_mask_crate}
use Rattle.standard.specs.Generator.{word_at}
use Rattle.standard.specs.Notation.{ceil}
use Rattle.standard.specs.Refusals.{accepted}
use Rattle.standard.specs.States.{Counted, Held}
use Rattle.mask.specs.Outcome.{Outcome, clean_outcome, clean_outcome_before}
use Rattle.mask_laws.proofs.Accepted.{mask-exactly, mask_is}

module _ (g : Counted Held) (L : ℕ) (buffer : List ℕ) (before : (clean_outcome_before g L buffer).number ≡ accepted) where
  abbrev answer : List ℕ
  answer = mask_clean (word_at g.held.meaning) L buffer

  pub still-accepted : (clean_outcome g L buffer).number ≡ accepted
  still-accepted =
      let p = (mask-exactly g (words_to_mask_crate (length buffer)) L buffer answer).0 before in
      (mask-exactly g (ceil L 32) L buffer answer).1 (p.0, p.1, omega (arith, p.1, p.2))

  pub buffer-stays : (clean_outcome g L buffer).buffer ≡ (clean_outcome_before g L buffer).buffer
  buffer-stays =
      ap (λ (x : Outcome). x.buffer) (mask_is g (ceil L 32) L buffer answer still-accepted)
      ∙ sym (ap (λ (x : Outcome). x.buffer) (mask_is g (words_to_mask_crate (length buffer)) L buffer answer before))

-- `registers::key_on` meets its contract: at each width the low half of the key moves up.
use mathlib.Core.List.{[], ◌∷◌}
use mathlib.Core.Path.{ap, ◌∙◌}
use Prim.Native.Nat.{ℕ}
use borrow.Author.Rules.{rules}
use mir.Syntax.{w64}
use mir.Val.{Fits}
use Rattle.standard.specs.Notation.{◌⟨◌⟩}
use Rattle.mac_registers.specs.Stored.{tag_of}
use Rattle.mac_registers.proofs.Widths.{is-16, moved-16, moved-4, moved-8}
use Rattle.mac_registers.proofs.key_on.Goals as goal

pub overflow_cast-words : goal.overflow_cast-words
unfolding tag_of
overflow_cast-words c =
    record { fits = rw c.in-4.is at c.requires.tag_fits }

pub returns-in-4 : goal.returns-in-4
returns-in-4 c =
    ap (λ (x : ℕ). x ∷ 0 ∷ 0 ∷ 0 ∷ []) c.joined.ensures ∙ moved-4 c.args.width c.args.key c.args.words c.in-4.is

pub returns-in-8 : goal.returns-in-8
returns-in-8 c =
    let key-small : (i : ℕ) → Fits w64 (c.args.key ⟨ i ⟩) =
    λ i. search rules in
    let words_small : (i : ℕ) → Fits w64 (c.args.words ⟨ i ⟩) =
    λ i. search rules in
    moved-8 c.args.width c.args.key c.args.words c.in-8.is (key-small 1).fits (words_small 0).fits

pub returns-in_default : goal.returns-in_default
returns-in_default c =
    let key-small : (i : ℕ) → Fits w64 (c.args.key ⟨ i ⟩) =
    λ i. search rules in
    let words_small : (i : ℕ) → Fits w64 (c.args.words ⟨ i ⟩) =
    λ i. search rules in
    moved-16 c.args.width c.args.key c.args.words (is-16 c.args.width c.requires.width_fits c.in_default.in_default-own.rest.0.1 c.in_default.in_default-own.rest.1)
    (key-small 2).fits (key-small 3).fits (words_small 0).fits (words_small 1).fits

-- `new_with_d` is the ZUC-256 start with the row of the width, which the match picks; every other width is refused.
use borrow.Author.Tests.{ne_eqb}
use mathlib.Core.List.{List}
use mathlib.Core.Bool.{true}
use mathlib.Core.Path.{◌≡◌, ◌∙◌, refl}
use Prim.Native.Nat.{ℕ}
use Rattle.zuc_loading.proofs.Rows.{d-tag₁₂₈-row, d-tag₃₂-row, d-tag₆₄-row}
use Rattle.keystream.specs.Starts.{start_tag₂₅₆, start₂₅₆}
use Rattle.standard.specs.Integrity.{is_width}
use Rattle.standard.specs.Loading.{d-tag₁₂₈, d-tag₃₂, d-tag₆₄, row_of}
use Rattle.standard.specs.Refusals.{tested}
use Rattle.keystream.proofs.zuc256.new_with_d.Goals as goal

at_width : {width number : ℕ} (key iv : List ℕ) → width ≡ number → is_width number ≡ true → start₂₅₆ (row_of number) key iv ≡ start_tag₂₅₆ width key iv
unfolding start_tag₂₅₆ start₂₅₆ tested
at_width key iv e t = rw (e, t) refl

pub start-requires : goal.start-requires
unfolding d-tag₃₂
start-requires c = d-tag₃₂-row

pub start-requires-in-8 : goal.start-requires-in-8
unfolding d-tag₆₄
start-requires-in-8 c = d-tag₆₄-row

pub start-requires-in-16 : goal.start-requires-in-16
unfolding d-tag₁₂₈
start-requires-in-16 c = d-tag₁₂₈-row

pub returns-in-4 : goal.returns-in-4
unfolding d-tag₃₂
returns-in-4 c = c.start.ensures ∙ at_width _ _ c.in-4.is refl

pub returns-in-8 : goal.returns-in-8
unfolding d-tag₆₄
returns-in-8 c = c.start-in-8.ensures ∙ at_width _ _ c.in-8.is refl

pub returns-in-16 : goal.returns-in-16
unfolding d-tag₁₂₈
returns-in-16 c = c.start-in-16.ensures ∙ at_width _ _ c.in-16.is refl

pub returns-in_default : goal.returns-in_default
unfolding start_tag₂₅₆ tested
returns-in_default c =
    let other = c.in_default.in_default-own.rest in
    rw (ne_eqb _ 4 other.0.0.1, ne_eqb _ 8 other.0.1, ne_eqb _ 16 other.1) refl

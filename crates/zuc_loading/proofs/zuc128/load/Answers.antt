-- `load`: each cell is loaded from its place.
use borrow.Author.Rules.{rules}
use Rattle.standard.proofs.Made.{made}
use Rattle.standard.specs.Loading.{D, load₁₂₈}
use Rattle.standard.specs.Notation.{◌‖₁₅◌, ◌‖₈◌, ◌⟨◌⟩}
use Rattle.zuc_loading.proofs.zuc128.load.Goals as goal

pub returns : goal.returns
unfolding load₁₂₈ D
returns c =
    let a = c.args in
    let cells = made {v = λ i. a.key.now ⟨ i ⟩ ‖₁₅ D ⟨ i ⟩ ‖₈ a.iv.now ⟨ i ⟩} (λ i y q l s. search rules) c.from_fn.ensures.items in
    λ j. record { cells = cells j; R₁ = 0; R₂ = 0 }

-- `beside` is the list of what stands beside the constants: the IV's last bytes are split into its last numbers.
use lib.ListN.{drop, take}
use mathlib.Core.List.{[], ◌∷◌}
use mathlib.Core.Path.{◌≡◌, ◌∙◌}
use Prim.Native.Nat.{◌%◌, ◌/◌}
use Rattle.zuc_loading.proofs.Behind.{apart, spelled}
use Rattle.zuc_loading.proofs.Sextets.{first-four, last-four}
use Rattle.zuc_loading.specs.InnerRows.{sextets}
use Rattle.standard.specs.Loading.{IV₂₅₆}
use Rattle.standard.specs.Notation.{◌⟨◌⟩, listed}
use borrow.Author.Rules.{rules}
use Rattle.zuc_loading.proofs.zuc256.beside.Goals as goal

pub returns : goal.returns
unfolding listed
returns c =
    let x = c.args.x in
    let e : x ≡ spelled (take 32 x) (drop 32 x) = apart x (search rules) in
    let p : c.split.result ≡ listed (IV₂₅₆ (drop 32 x)) 17 4 =
    c.split.ensures ∙ (λ i. sextets (e i ⟨ 49 ⟩ ∷ e i ⟨ 50 ⟩ ∷ e i ⟨ 51 ⟩ ∷ [])) ∙ first-four (drop 32 x) in
    let q : c.split-2.result ≡ listed (IV₂₅₆ (drop 32 x)) 21 4 =
    c.split-2.ensures ∙ (λ i. sextets (e i ⟨ 52 ⟩ ∷ e i ⟨ 53 ⟩ ∷ e i ⟨ 54 ⟩ ∷ [])) ∙ last-four (drop 32 x) in
    λ i.
    0 ∷ 0 ∷ 0 ∷ 0 ∷ 0 ∷ p i ⟨ 0 ⟩ ∷ p i ⟨ 1 ⟩ ∷ p i ⟨ 2 ⟩ ∷ p i ⟨ 3 ⟩ ∷ q i ⟨ 0 ⟩ ∷ q i ⟨ 1 ⟩ ∷ q i ⟨ 2 ⟩ ∷ q i ⟨ 3 ⟩ ∷
    0 ∷ e i ⟨ 31 ⟩ / 16 ∷ e i ⟨ 31 ⟩ % 16 ∷ []

-- `mac::eia3::compute` meets its contract: the ZUC-128 one-shot with EIA3's IV.
use mathlib.Core.List.{List}
use mathlib.Core.Path.{◌∙◌, ap}
use Prim.Native.Nat.{ℕ}
use Rattle.mac.specs.Calls.{once_outcome-128}
use Rattle.mac.proofs.Outcomes.{once-EIA3-is}
use Rattle.mac.proofs.eia3.compute.Goals as goal

pub returns : goal.returns
returns c =
    let a = c.args in
    c.compute.ensures
    ∙ ap (λ (v : List ℕ). once_outcome-128 a.key.now v a.message.now a.l) c.iv-v.ensures
    ∙ once-EIA3-is a.count a.bearer a.direction a.key.now a.message.now a.l

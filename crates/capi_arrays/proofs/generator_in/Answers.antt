-- `generator_in`: the places, and the words behind them.
use mathlib.Core.List.{List}
use mathlib.Core.Path.{◌≡◌, ◌∙◌, ap}
use Prim.Native.Nat.{ℕ}
use Rattle.capi_arrays.specs.Arrays.{held_from}
use Rattle.standard.specs.Notation.{◌⟨◌⟩}
use Rattle.standard.specs.States.{Held}
use Rattle.zuc.specs.Reading.{cells_from}
use Rattle.capi_arrays.proofs.generator_in.Goals as goal

pub returns : goal.returns
unfolding held_from
returns c =
    let index : ℕ = c.args.a ⟨ 9 ⟩ in
    let h : List ℕ = c.halves_in-halves.result in
    let read : ◌≡◌ {A = Held} _ (held_from index h) =
    λ i. record { meaning = record { cells = cells_from index (c.places_in.ensures i); R₁ = h ⟨ 16 ⟩; R₂ = h ⟨ 17 ⟩ }; start = index } in
    read ∙ ap (held_from index) c.halves_in-halves.ensures

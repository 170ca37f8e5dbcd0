-- `state_in`: the places, and the words behind them.
use lib.ListN.{length}
use mathlib.Core.Path.{◌≡◌, ◌∙◌, ap}
use mir.Syntax.{w32}
use mir.Val.{Fits}
use Prim.Native.Nat.{ℕ}
use Rattle.capi_arrays.proofs.Packing.{held-array}
use Rattle.capi_arrays.specs.Arrays.{array_of, held_from, held_in}
use Rattle.standard.specs.Notation.{◌⟨◌⟩}
use Rattle.standard.specs.States.{Counted, Held}
use Rattle.zuc.specs.Reading.{cells_from}
use borrow.Author.Rules.{rules}
use Rattle.capi_arrays.proofs.state_in.Goals as goal

pub returns : goal.returns
unfolding held_in held_from
returns c =
    let full : length c.args.a ≡ 20 =
    search rules in
    let fits : (k : ℕ) → Fits w32 (c.args.a ⟨ k ⟩) =
    λ k. search rules in
    let a = c.args.a in
    let is : ◌≡◌ {A = Counted Held} _ (held_in a) =
    λ i. record {
      held =
          record {
            meaning = record { cells = cells_from (a ⟨ 18 ⟩) (c.places_in.ensures i); R₁ = a ⟨ 16 ⟩; R₂ = a ⟨ 17 ⟩ };
            start = a ⟨ 18 ⟩;
          };
      count = a ⟨ 19 ⟩;
    } in
    record { is = is; back = ap array_of is ∙ held-array a full; small = ((fits 18).fits, (fits 19).fits) }

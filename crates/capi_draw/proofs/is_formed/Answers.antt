-- `is_formed` is the standard's test: the places are tested as the cells are, then the index and the count.
use borrow.Author.Tests.{le-ltb, lt-ltb}
use lib.Dec.{leb, ltb}
use lib.ListN.{take}
use mathlib.Core.Bool.{Bool, ◌&&◌}
use mathlib.Core.List.{List}
use mathlib.Core.Path.{◌≡◌, ◌∙◌, ap₂, sym}
use native.Mathlib.Omega.{arith}
use Prim.Native.Nat.{ℕ}
use Rattle.capi_arrays.specs.Arrays.{held_from, held_in}
use Rattle.standard.specs.Notation.{◌⟨◌⟩}
use Rattle.standard.specs.States.{generator_formed, held_formed, limit, well_formed}
use Rattle.zuc.proofs.Turning.{same_test}
use Rattle.capi_draw.proofs.is_formed.Goals as goal

-- the whole test, by those of the places and the index
whole : (a : List ℕ) {b d : Bool} → b ≡ well_formed (take 16 a) → ltb (a ⟨ 18 ⟩) 16 ≡ d → (b && d) && leb (a ⟨ 19 ⟩) limit ≡ generator_formed (held_in a)
unfolding generator_formed held_formed held_in held_from
whole a e f = ap₂ (λ (b d : Bool). (b && d) && leb (a ⟨ 19 ⟩) limit) (e ∙ sym (same_test (a ⟨ 18 ⟩) (take 16 a))) (sym f)

pub returns-then-not-cells_formed-clause-is : goal.returns-then-not-cells_formed-clause-is
returns-then-not-cells_formed-clause-is c = whole c.args.a.now c.if-not-cells_formed.ensures (λ i. ltb (c.args.a.now ⟨ 18 ⟩) 16)

pub returns-then-a-gt15-clause-is : goal.returns-then-a-gt15-clause-is
returns-then-a-gt15-clause-is c =
    let a : List ℕ = c.args.a.now in whole a c.if-not-cells_formed.ensures (le-ltb (a ⟨ 18 ⟩) 16 (omega (arith, c.if-a-gt15.true)))

pub returns-clause-is : goal.returns-clause-is
returns-clause-is c =
    let a : List ℕ = c.args.a.now in whole a c.if-not-cells_formed.ensures (lt-ltb (a ⟨ 18 ⟩) 16 (omega (arith, c.if-a-gt15.false)))

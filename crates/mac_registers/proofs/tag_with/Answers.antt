-- `registers::tag_with` meets its contract: at each width the block's sum goes into the tag's words.
use mathlib.Core.Path.{◌≡◌}
use Prim.Native.Nat.{ℕ}
use native.Mathlib.Omega.{arith}
use borrow.Author.Rules.{rules}
use mir.Syntax.{w64}
use mir.Val.{Fits}
use Rattle.standard.specs.Notation.{◌⟨◌⟩}
use Rattle.mac_registers.proofs.Widths.{is-16, summed-16, summed-4, summed-8}
use Rattle.mac_registers.proofs.tag_with.Goals as goal

pub sum_128-sum-requires : goal.sum_128-sum-requires
sum_128-sum-requires c =
    let w : c.args.width ≡ 16 = is-16 c.args.width c.requires.width_fits c.in_default.in_default-own.rest.0.1 c.in_default.in_default-own.rest.1 in
    omega arith

pub returns-in-4 : goal.returns-in-4
returns-in-4 c =
    let a = c.args in
    summed-4 a.width a.key a.tag a.block.now c.in-4.is c.sum_32.result c.sum_32.ensures

pub returns-in-8 : goal.returns-in-8
returns-in-8 c =
    let key-small : (i : ℕ) → Fits w64 (c.args.key ⟨ i ⟩) =
    λ i. search rules in
    let a = c.args in
    summed-8 a.width a.key a.tag a.block.now (λ i. (key-small i).fits) c.in-8.is c.sum_64.result c.sum_64.ensures

pub returns-in_default : goal.returns-in_default
returns-in_default c =
    let tag_small : (i : ℕ) → Fits w64 (c.args.tag ⟨ i ⟩) =
    λ i. search rules in
    let key-small : (i : ℕ) → Fits w64 (c.args.key ⟨ i ⟩) =
    λ i. search rules in
    let sum-small : (i : ℕ) → Fits w64 (c.sum_128-sum.result ⟨ i ⟩) =
    λ i. search rules in
    let a = c.args in
    summed-16 a.width a.key a.tag a.block.now (λ i. (key-small i).fits) (is-16 a.width c.requires.width_fits c.in_default.in_default-own.rest.0.1 c.in_default.in_default-own.rest.1)
    (c.sum_128-sum.result ⟨ 0 ⟩) (c.sum_128-sum.result ⟨ 1 ⟩) (tag_small 1).fits (sum-small 1).fits c.sum_128-sum.ensures

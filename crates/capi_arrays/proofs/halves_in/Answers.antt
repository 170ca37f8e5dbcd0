-- `halves_in`: each half is cut from its word.
use borrow.Author.Rules.{rules}
use lib.Dec.{lit<}
use lib.ListN.{take}
use lib.Seq.{get_or-take}
use mathlib.Core.Path.{◌∙◌, ap, sym}
use native.Mathlib.Omega.{arith}
use Prim.Native.Nat.{ℕ, ◌*◌, ◌/◌, ◌%◌}
use Rattle.capi_arrays.proofs.Regrouped.{one-cut}
use Rattle.capi_arrays.specs.Arrays.{regrouped}
use Rattle.standard.proofs.Made.{made_as}
use Rattle.standard.specs.Bits.{bit_of, window}
use Rattle.standard.specs.Notation.{◌⟨◌⟩}
use Rattle.capi_arrays.proofs.halves_in.Goals as goal

pub returns : goal.returns
unfolding regrouped
returns c =
    let a = c.args.a in
    made_as {v = λ i. window (bit_of 64 (a ⟨ i / 2 ⟩)) (i % 2 * 32) 32} (λ i y q l s. search rules) c.from_fn.ensures.items
    (λ i l.
    ap (λ (x : ℕ). window (bit_of 64 x) (i % 2 * 32) 32) (sym (get_or-take 9 a (i / 2) 0 (omega arith)))
    ∙ one-cut 2 32 (lit< tt) (λ j. take 9 a ⟨ j ⟩) i)

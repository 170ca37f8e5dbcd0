-- `bytes_in`: each byte is cut from its word.
use borrow.Author.Rules.{rules}
use lib.Dec.{lit<}
use lib.ListN.{drop, take}
use lib.Seq.{get_or-drop, get_or-take}
use mathlib.Core.Path.{◌∙◌, ap, sym}
use native.Mathlib.Omega.{arith}
use Prim.Native.Nat.{ℕ, ◌+◌, ◌*◌, ◌/◌, ◌%◌}
use Rattle.capi_arrays.proofs.Regrouped.{one-cut}
use Rattle.capi_arrays.specs.Arrays.{regrouped}
use Rattle.standard.proofs.Made.{made_as}
use Rattle.standard.specs.Bits.{bit_of, window}
use Rattle.standard.specs.Notation.{◌⟨◌⟩}
use Rattle.capi_arrays.proofs.bytes_in.Goals as goal

pub returns : goal.returns
unfolding regrouped
returns c =
    let a = c.args.a in
    made_as {v = λ i. window (bit_of 64 (a ⟨ 17 + i / 8 ⟩)) (i % 8 * 8) 8} (λ i y q l s. search rules) c.from_fn.ensures.items
    (λ i l.
    ap (λ (x : ℕ). window (bit_of 64 x) (i % 8 * 8) 8) (sym (get_or-take 2 (drop 17 a) (i / 8) 0 (omega arith) ∙ get_or-drop 17 a (i / 8) 0))
    ∙ one-cut 8 8 (lit< tt) (λ j. take 2 (drop 17 a) ⟨ j ⟩) i)

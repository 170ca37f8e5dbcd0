-- `tag_state_in`: the parts of the array, written out, and what is cut from its words.
use lib.ListN.{length}
use mathlib.Core.Path.{◌≡◌, ◌∙◌, ap}
use mir.Syntax.{w64}
use mir.Val.{Fits}
use native.Mathlib.Omega.{arith}
use Prim.Native.Nat.{ℕ}
use Rattle.capi_arrays.proofs.Packing.{part-listed, stored-array}
use Rattle.capi_arrays.specs.Arrays.{stored_in, tag_array_of}
use Rattle.standard.specs.States.{Counted, Stored}
use Rattle.standard.specs.Notation.{◌⟨◌⟩, listed}
use borrow.Author.Rules.{rules}
use Rattle.capi_arrays.proofs.tag_state_in.Goals as goal

pub returns : goal.returns
unfolding stored_in listed
returns c =
    let full : length c.args.a ≡ 21 =
    search rules in
    let fits : (k : ℕ) → Fits w64 (c.args.a ⟨ k ⟩) =
    λ k. search rules in
    let a = c.args.a in
    let is : ◌≡◌ {A = Counted Stored} _ (stored_in a) =
    λ i. record {
      held =
          record {
            generator = c.generator_in.ensures i;
            key = part-listed a 11 4 (omega (arith, full)) i;
            tag = part-listed a 15 2 (omega (arith, full)) i;
            rem = c.bytes_in.ensures i;
            cnt = a ⟨ 19 ⟩;
            width = a ⟨ 20 ⟩;
          };
      count = a ⟨ 10 ⟩;
    } in
    record { is = is; back = ap tag_array_of is ∙ stored-array a full (λ k h. (fits k).fits) }

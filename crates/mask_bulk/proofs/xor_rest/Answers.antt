-- `xor_rest`: at place j what is left to do is the mask from j on; a store does place j.
use mathlib.Core.Path.{◌≡◌, refl, sym, ap, ◌∙◌}
use Prim.Native.Nat.{ℕ, ◌<◌}
use native.Mathlib.Nat.{mod-eq_of_lt}
use native.Mathlib.Omega.{arith}
use lib.ListN.{length-set, get_or}
use Rattle.standard.specs.Notation.{◌⊕◌}
use Rattle.standard.specs.Confidentiality.{masked}
use Rattle.standard.specs.Bits.{byte_of}
use Rattle.standard.proofs.Each.{from-start, from_end, from-store}
use Rattle.mask_bulk.proofs.xor_rest.Goals as goal

-- a place below 4 is its own place in the word
byte-masked : (word j byte k : ℕ) → j < 4 → k ≡ byte_of word j → byte ⊕ k ≡ masked (λ n. word) j byte
unfolding masked
byte-masked word j byte k h e = ap (λ (x : ℕ). byte ⊕ x) (e ∙ ap (byte_of word) (sym (mod-eq_of_lt h)))

pub loop-j-init : goal.loop-j-init
loop-j-init c =
    (omega arith, refl, refl)

pub loop-j-preserved : goal.loop-j-preserved
loop-j-preserved c =
    let l = c.loop-j in (
      omega arith,
      from-store _ _ _ (omega arith) (byte-masked _ l.j (get_or l.part l.j 0) _ (omega arith) c.byte_of.ensures) ∙ l.invariant.1,
      simp length-set (omega arith),
    )

pub returns : goal.returns
returns c = sym (from_end _ _ _ (omega arith)) ∙ c.loop-j.invariant.1 ∙ from-start _ _

-- P1..P11 of document 01 hold of the definitions: one table, computed; and a row that gives what it must not does not hold.
use lib.ListN.{get_or}
use mathlib.Core.List.{List, [], ◌∷◌}
use mathlib.Core.Path.{◌≡◌, ap, refl}
use native.Mathlib.Omega.{arith}
use Prim.Native.Nat.{ℕ}
use Rattle.standard.specs.Notation.{◌⋘◌, each_from}
use Rattle.standard.specs.Bits.{bit_of, bit_at, M, z, window, byte_of}
use Rattle.standard.specs.Boxes.{S₀-table, S₁-table, S₀, S₁}
use Rattle.standard.specs.Generator.{v, s₁₆, X₀, X₁, X₂, S, L₁, L₂, W, W₁, W₂, F}
use Rattle.standard.specs.Loading.{IV₂₅₆}
use Rattle.standard.specs.Confidentiality.{IV-EEA3, masked, keep_high, kept_by_crate, kept_by_clean, masked_buffer}
use Rattle.standard.specs.Integrity.{IV-EIA3, T, tag-EIA3, tag-ZUC256}
use Rattle.standard.specs.Examples.{bytes, examples, given, number, required}

pub examples-hold : given examples ≡ required examples
unfolding ◌⋘◌ bit_of bit_at M z window S₀-table S₁-table S₀ S₁ v s₁₆ X₀ X₁ X₂ S L₁ L₂ W W₁ W₂ F IV₂₅₆ byte_of IV-EEA3 masked keep_high kept_by_crate kept_by_clean each_from masked_buffer IV-EIA3 T tag-EIA3 tag-ZUC256 examples given required
examples-hold = refl

-- the first number of the first row
first : List (List ℕ) → ℕ
first rows = get_or (get_or rows 0 []) 0 0

pub wrong-number : given (number 0 1 ∷ []) ≡ required (number 0 1 ∷ []) → ⊥
unfolding given required first
wrong-number e = let f : ◌≡◌ {A = ℕ} 0 1 = ap first e in omega arith

pub wrong-bytes : given (bytes (0 ∷ []) (1 ∷ []) ∷ []) ≡ required (bytes (0 ∷ []) (1 ∷ []) ∷ []) → ⊥
unfolding given required first
wrong-bytes e = let f : ◌≡◌ {A = ℕ} 0 1 = ap first e in omega arith

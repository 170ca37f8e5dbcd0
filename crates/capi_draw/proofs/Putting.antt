-- An array after a draw is put into it holds the state that the draw leaves: its entries are those written, and its first sixteen the places.
use lib.ListN.{length, length-set, set, take}
use lib.Seq.{get_or-set_other, get_or-set_same, length-take-le, take-set-le, take-set-lt}
use mathlib.Core.List.{List}
use mathlib.Core.Path.{◌≡◌, ◌∙◌, ap, sym}
use native.Mathlib.Omega.{arith}
use Prim.Native.Nat.{ℕ, ◌+◌, ◌%◌, ◌<◌}
use Rattle.capi_arrays.proofs.Packing.{held-array}
use Rattle.capi_arrays.specs.Arrays.{array_of, held_from, held_in}
use Rattle.capi_draw.specs.Turns.{put_into}
use Rattle.capi_draw.specs.declared.Turn.{Turn}
use Rattle.standard.specs.Notation.{◌⟨◌⟩}
use Rattle.zuc.proofs.Turning.{one_further}
use Rattle.zuc.specs.Reading.{cells_from}

-- an entry before the one that is written
under : (l : List ℕ) (i j x : ℕ) → j < i → set l i x ⟨ j ⟩ ≡ l ⟨ j ⟩
under l i j x h = get_or-set_other l i j x 0 (λ (q : j ≡ i). omega arith)

module _ (a : List ℕ) (i : ℕ) (t : Turn) (long : length a ≡ 20) (h : i < 16) where
  abbrev a₁ : List ℕ
  a₁ = set a i t.cell

  abbrev a₂ : List ℕ
  a₂ = set a₁ 16 t.r1

  abbrev a₃ : List ℕ
  a₃ = set a₂ 17 t.r2

  abbrev a₄ : List ℕ
  a₄ = set a₃ 18 ((i + 1) % 16)

  abbrev a₅ : List ℕ
  a₅ = set a₄ 19 (a ⟨ 19 ⟩ + 1)

  at-16 : a₅ ⟨ 16 ⟩ ≡ t.r1
  at-16 = under a₄ 19 16 _ (omega arith) ∙ under a₃ 18 16 _ (omega arith) ∙ under a₂ 17 16 _ (omega arith) ∙ get_or-set_same a₁ 16 t.r1 0 (simp length-set (omega arith))

  at-17 : a₅ ⟨ 17 ⟩ ≡ t.r2
  at-17 = under a₄ 19 17 _ (omega arith) ∙ under a₃ 18 17 _ (omega arith) ∙ get_or-set_same a₂ 17 t.r2 0 (simp length-set (omega arith))

  at-18 : a₅ ⟨ 18 ⟩ ≡ (i + 1) % 16
  at-18 = under a₄ 19 18 _ (omega arith) ∙ get_or-set_same a₃ 18 _ 0 (simp length-set (omega arith))

  -- of the sixteen places one is written
  places : take 16 a₅ ≡ set (take 16 a) i t.cell
  places =
      take-set-le 16 a₄ 19 _ (omega arith)
      ∙ take-set-le 16 a₃ 18 _ (omega arith)
      ∙ take-set-le 16 a₂ 17 _ (omega arith)
      ∙ take-set-le 16 a₁ 16 _ (omega arith)
      ∙ take-set-lt 16 a i _ h

  held : held_in a₅ ≡ record { held = put_into (held_from i a) t; count = a ⟨ 19 ⟩ + 1 }
  unfolding held_in held_from
  held =
      λ j. record {
        held =
            record {
              meaning =
                  record {
                    cells = ((λ k. cells_from (at-18 k) (places k)) ∙ one_further (take 16 a) i t.cell (length-take-le 16 a (omega arith)) h) j;
                    R₁ = at-16 j;
                    R₂ = at-17 j;
                  };
              start = at-18 j;
            };
        count = get_or-set_same a₄ 19 (a ⟨ 19 ⟩ + 1) 0 (simp length-set (omega arith)) j;
      }

  pub put-array : a₅ ≡ array_of (record { held = put_into (held_from i a) t; count = a ⟨ 19 ⟩ + 1 })
  put-array = sym (held-array a₅ (simp length-set long)) ∙ ap array_of held

-- The rule of each row of constants, by one test computed over the row; and a constant with bits or'd into it stays in 7 bits and nonzero.
use borrow.Author.Tests.{leb-true}
use lib.Bits.{bit_or, and_le_r, or_add_and}
use lib.Dec.{leb, lit<}
use lib.ListN.{get_or, length}
use mathlib.Core.Bool.{Bool, true, ◌&&◌}
use mathlib.Core.List.{List, [], ◌∷◌}
use mathlib.Core.Path.{◌≡◌, refl, subst, sym}
use native.Mathlib.Omega.{arith}
use Prim.Native.Nat.{ℕ, zero, suc, ◌+◌, ◌-◌, ◌<◌, ◌^◌}
use Rattle.zuc_loading.specs.InnerRows.{Inside, Places, Row, place}
use Rattle.standard.proofs.Table.{and_left, and_right, at, every}
use Rattle.standard.specs.Loading.{D, d-keystream, d-tag₁₂₈, d-tag₃₂, d-tag₆₄}

test : ℕ → ℕ → ℕ → Bool
test bits i x = leb 1 x && leb (suc x) (2 ^ bits)

row : (bits : ℕ) (entries : List ℕ) → length entries ≡ 16 → every (test bits) 0 entries ≡ true → Row bits entries
unfolding test
row bits entries full e =
    record {
      some = λ i h. leb-true 1 _ (and_left _ _ (tested i h));
      fits = λ i h. leb-true _ (2 ^ bits) (and_right (leb 1 (get_or entries i 0)) _ (tested i h));
    }
  where
    tested : (i : ℕ) → i < 16 → test bits i (get_or entries i 0) ≡ true
    tested i h = at (test bits) entries e i (subst (λ (n : ℕ). i < n) (sym full) h)

pub D-row : Row 15 D
unfolding D test
D-row = row 15 D refl refl

pub d-keystream-row : Row 7 d-keystream
unfolding d-keystream test
d-keystream-row = row 7 d-keystream refl refl

pub d-tag₃₂-row : Row 7 d-tag₃₂
unfolding d-tag₃₂ test
d-tag₃₂-row = row 7 d-tag₃₂ refl refl

pub d-tag₆₄-row : Row 7 d-tag₆₄
unfolding d-tag₆₄ test
d-tag₆₄-row = row 7 d-tag₆₄ refl refl

pub d-tag₁₂₈-row : Row 7 d-tag₁₂₈
unfolding d-tag₁₂₈ test
d-tag₁₂₈-row = row 7 d-tag₁₂₈ refl refl

pub or_some : (d x : ℕ) → 0 < d → 0 < bit_or d x
or_some d x h = omega (arith, or_add_and d x, and_le_r d x)

-- how far places reach past the 55 bytes, all together: computed over a table, this is 0
abbrev pub past : List Places → ℕ
past [] = 0
past (p ∷ places) = (p.0 - 54) + (p.1 - 54) + (p.2 - 54) + past places

pub inside : (places : List Places) → past places ≡ 0 → Inside places
inside places e = record { first = λ i. (each places e i).0; third = λ i. (each places e i).1; last = λ i. (each places e i).2 }
  where
    each : (places : List Places) → past places ≡ 0 → (i : ℕ) → ((place places i).0 < 55) × ((place places i).1 < 55) × ((place places i).2 < 55)
    each [] e i = (lit< tt, lit< tt, lit< tt)
    each (p ∷ places) e zero = (omega arith, omega arith, omega arith)
    each (p ∷ places) e (suc i) = each places (omega arith) i

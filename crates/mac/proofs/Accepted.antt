-- An accepted start is of well-formed cells and of a width that there is; by the tests that it passed.
use mathlib.Core.Path.{◌≡◌, refl, subst, sym}
use mathlib.Core.Bool.{Bool, true, false}
use mathlib.Core.List.{List, [], ◌∷◌}
use Prim.Native.Nat.{ℕ}
use native.Mathlib.Omega.{arith}
use lib.Dec.{eqb, lit<}
use Rattle.standard.specs.Generator.{State}
use Rattle.standard.specs.Loading.{d-tag₁₂₈, d-tag₃₂, d-tag₆₄, load₁₂₈, load₂₅₆, row_of}
use Rattle.std.specs.Prelude.{if◌then◌else◌}
use Rattle.standard.specs.Refusals.{Test, accepted, bad_field, bad_iv, bad_key, bad_width, iv_test, key_test, tested, width_test}
use Rattle.standard.proofs.Cells.{Cells}
use Rattle.standard.proofs.Generator.{sound-started}
use Rattle.standard.proofs.Held.{Ready}
use Rattle.standard.proofs.Tested.{Numbered, accepted-is, accepted-passed, never-told}
use Rattle.keystream.specs.Starts.{StartOutcome, accepted_start, refused_start, start_tag₂₅₆, start₁₂₈}
use Rattle.zuc_loading.specs.InnerRows.{Row}
use Rattle.zuc_loading.proofs.Loaded.{Bytes, cells-128, cells-256}
use Rattle.zuc_loading.proofs.Rows.{d-tag₁₂₈-row, d-tag₃₂-row, d-tag₆₄-row}
use Rattle.mac_registers.proofs.Packed.{width_is}
use Rattle.mac_registers.specs.Inner.{Width}
use Rattle.mac.specs.Inner.{Live}

live : (tests : List Test) → Numbered tests → (loaded : State) → Cells loaded.cells → Live (tested tests refused_start (accepted_start loaded))
live tests low loaded c e =
    subst (λ (o : StartOutcome). Ready o.state.held)
    (sym (accepted-is (λ (o : StartOutcome). o.number) refused_start (λ n. refl) (accepted_start loaded) tests low e)) (record { cells = sound-started loaded c; start = lit< tt })

pub live-128 : (k iv : List ℕ) → Bytes k → Bytes iv → Live (start₁₂₈ k iv)
unfolding start₁₂₈
live-128 k iv hk hv = live (key_test 16 k ∷ iv_test 16 iv ∷ []) (lit< tt, (lit< tt, tt)) (load₁₂₈ k iv) (cells-128 k iv hk hv)

pub row-of : (width : ℕ) → Row 7 (row_of width)
row-of width = by (eqb width 4) (eqb width 8)
  where
    by : (a b : Bool) → Row 7 (if a then d-tag₃₂ else if b then d-tag₆₄ else d-tag₁₂₈)
    by true b = d-tag₃₂-row
    by false true = d-tag₆₄-row
    by false false = d-tag₁₂₈-row

module _ (w : ℕ) (k iv : List ℕ) where
  abbrev tests-256 : List Test
  tests-256 = width_test w ∷ key_test 32 k ∷ iv_test 23 iv ∷ []

  pub live-256 : Bytes k → Bytes iv → Live (start_tag₂₅₆ w k iv)
  unfolding start_tag₂₅₆
  live-256 hk hv = live tests-256 (lit< tt, (lit< tt, (lit< tt, tt))) (load₂₅₆ (row_of w) k iv) (cells-256 (row_of w) k iv (row-of w) hk hv)

  -- the width of an accepted ZUC-256 start
  pub accepted-width : (start_tag₂₅₆ w k iv).number ≡ 0 → Width w
  unfolding start_tag₂₅₆
  accepted-width e =
      width_is w
      (accepted-passed (λ (o : StartOutcome). o.number) refused_start (λ n. refl) (accepted_start (load₂₅₆ (row_of w) k iv)) tests-256
      (lit< tt, (lit< tt, (lit< tt, tt))) e
      ).0

-- ZUC-256 is never refused for a field
pub no-field-256 : (w : ℕ) (k iv : List ℕ) → (start_tag₂₅₆ w k iv).number ≡ bad_field → ⊥
unfolding start_tag₂₅₆
no-field-256 w k iv =
    never-told (λ (o : StartOutcome). o.number) refused_start (λ n. refl) (accepted_start (load₂₅₆ (row_of w) k iv)) bad_field (λ (e : accepted ≡ bad_field). omega arith)
    (tests-256 w k iv)
    (λ (e : bad_width ≡ bad_field). omega arith, (λ (e : bad_key ≡ bad_field). omega arith, (λ (e : bad_iv ≡ bad_field). omega arith, tt)))

-- THE LAW of request 2026-11: what two proper starts are given is the same where their states meet after start-up or after as many draws; the
-- loads, start-up and each draw are one-to-one.
use mathlib.Core.List.{List}
use mathlib.Core.Logic.{⊎_elim}
use mathlib.Core.Path.{◌≡◌, sym, ap, ap₂, ◌∙◌, subst}
use Prim.Native.Nat.{ℕ, ◌+◌, ◌*◌, ◌^◌, ◌<◌}
use native.Mathlib.Omega.{arith}
use lib.Dec.{lit<}
use Rattle.standard.specs.Generator.{State, after, started}
use Rattle.standard.specs.Loading.{D, cells₂₅₆, d-keystream, d-tag₁₂₈, d-tag₃₂, d-tag₆₄, load₁₂₈, load₂₅₆}
use Rattle.standard.specs.Notation.{◌⟨◌⟩, listed}
use Rattle.standard.proofs.Loads.{Clear, clear-keystream, clear-tag₁₂₈, clear-tag₃₂, clear-tag₆₄, load₁₂₈-apart, load₂₅₆-apart}
use Rattle.standard.proofs.Parts.{OfBytes, parted}
use Rattle.zuc_loading.proofs.Loaded.{cells-128, cells-256}
use Rattle.zuc_loading.proofs.Rows.{d-keystream-row, d-tag₁₂₈-row, d-tag₃₂-row, d-tag₆₄-row}
use Rattle.zuc_loading.specs.InnerRows.{Row}
use Rattle.zuc_apart.proofs.Steps.{OneToOne, Ranged, after-one-to-one, both, started-one-to-one}
use Rattle.zuc_apart.specs.Given.{Given, IsRow, Proper, load_of, zuc128, zuc256}

-- what holds of the four rows
pub of_row : (P : List ℕ → Type 0) → P d-keystream → P d-tag₃₂ → P d-tag₆₄ → P d-tag₁₂₈ → {d : List ℕ} → IsRow d → P d
of_row P a b c e row = ⊎_elim (λ i. subst P (sym i) a) (⊎_elim (λ i. subst P (sym i) b) (⊎_elim (λ i. subst P (sym i) c) (λ i. subst P (sym i) e))) row

row-clear : {d : List ℕ} → IsRow d → Clear d
row-clear = of_row Clear clear-keystream clear-tag₃₂ clear-tag₆₄ clear-tag₁₂₈

-- no ZUC-128 load is one of ZUC-256: the first cell's constant is above that of each row
first-lt : {d : List ℕ} → IsRow d → d ⟨ 0 ⟩ < 0x44
unfolding d-keystream d-tag₃₂ d-tag₆₄ d-tag₁₂₈
first-lt = of_row (λ d. d ⟨ 0 ⟩ < 0x44) (lit< tt) (lit< tt) (lit< tt) (lit< tt)

loads-differ : (k iv d k' iv' : List ℕ) → OfBytes 16 iv → OfBytes 32 k' → d ⟨ 0 ⟩ < 0x44 → load₁₂₈ k iv ≡ load₂₅₆ d k' iv' → ⊥
unfolding load₁₂₈ load₂₅₆ cells₂₅₆ listed D
loads-differ k iv d k' iv' v b h e =
    let p = parted 8 (v.small 0) (b.small 16) (ap (λ (σ : State). σ.cells ⟨ 0 ⟩) e) in
    let l : d ⟨ 0 ⟩ * 2 ^ 8 + k' ⟨ 21 ⟩ < 0x44D7 = omega (arith, b.small 21) in
    let q = parted 15 {a = k ⟨ 0 ⟩} {c = k' ⟨ 0 ⟩} {d = d ⟨ 0 ⟩ * 2 ^ 8 + k' ⟨ 21 ⟩} (lit< tt) (omega arith) (p.0 ∙ omega arith) in
    omega (arith, q.1)

loads-apart : (a b : Given) → Proper a → Proper b → load_of a ≡ load_of b → a ≡ b
loads-apart (zuc128 k iv) (zuc128 k' iv') p q e =
    let same = load₁₂₈-apart k k' iv iv' p.0 q.0 p.1 q.1 e in
    ap₂ zuc128 same.0 same.1
loads-apart (zuc128 k iv) (zuc256 d k' iv') p q e = absurd (loads-differ k iv d k' iv' p.1 q.1 (first-lt q.0) e)
loads-apart (zuc256 d k iv) (zuc128 k' iv') p q e = absurd (loads-differ k' iv' d k iv q.1 p.1 (first-lt p.0) (sym e))
loads-apart (zuc256 d k iv) (zuc256 d' k' iv') p q e =
    let same = load₂₅₆-apart d d' k k' iv iv' (row-clear p.0) (row-clear q.0) p.1 q.1 p.2 q.2 e in
    λ i. zuc256 (same.0 i) (same.1 i) (same.2 i)

loaded-ranged : (a : Given) → Proper a → Ranged (load_of a)
unfolding load₁₂₈ load₂₅₆
loaded-ranged (zuc128 k iv) p = record { sound = cells-128 k iv p.0.small p.1.small; words = record { first = lit< tt; second = lit< tt } }
loaded-ranged (zuc256 d k iv) p =
    record {
      sound = cells-256 d k iv (of_row (Row 7) d-keystream-row d-tag₃₂-row d-tag₆₄-row d-tag₁₂₈-row p.0) p.1.small p.2.small;
      words = record { first = lit< tt; second = lit< tt };
    }

-- start-up and n draws
from-load : (n : ℕ) → OneToOne (λ loaded. after n (started loaded))
from-load n = both (after-one-to-one n) started-one-to-one

pub ranged : (a : Given) → Proper a → (n : ℕ) → Ranged (after n (started (load_of a)))
ranged a p n = (from-load n).keeps (load_of a) (loaded-ranged a p)

pub states-apart : (a b : Given) → Proper a → Proper b → (n : ℕ) → after n (started (load_of a)) ≡ after n (started (load_of b)) → a ≡ b
states-apart a b p q n e = loads-apart a b p q ((from-load n).apart (load_of a) (load_of b) (loaded-ranged a p) (loaded-ranged b q) e)

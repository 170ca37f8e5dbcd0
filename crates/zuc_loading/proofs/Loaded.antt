-- Cells loaded from bytes are in range: each has a constant that is not zero, and fits in 31 bits; linear arithmetic, cell by cell.
use borrow.Author.Tests.{le-ltb, lt-ltb}
use lib.Bits.{or_lt}
use lib.Dec.{lit<, lit≤}
use lib.ListN.{get_or}
use mathlib.Core.List.{List, [], ◌∷◌, ◌++◌}
use mathlib.Core.Path.{◌≡◌, ◌∙◌, ap, refl, subst, sym}
use native.Mathlib.Nat.{mod-lt, zero-add}
use native.Mathlib.Omega.{arith}
use Prim.Native.Nat.{ℕ, zero, suc, ◌%◌, ◌*◌, ◌+◌, ◌-◌, ◌/◌, ◌<◌, ◌^◌, ◌≤◌}
use Rattle.zuc_loading.proofs.Rows.{D-row, or_some}
use Rattle.zuc_loading.specs.InnerRows.{Row}
use Rattle.standard.proofs.Cells.{All, Cells, InRange, all-cells}
use Rattle.standard.proofs.Linear.{M-lt}
use Rattle.standard.proofs.Listed.{get_or-listed, length-listed}
use Rattle.standard.proofs.Window.{window-lt}
use Rattle.standard.specs.Bits.{M, byte_of}
use Rattle.standard.specs.Confidentiality.{IV-EEA3, half_iv-EEA3}
use Rattle.standard.specs.Loading.{D, IV₂₅₆, cells₂₅₆, load₁₂₈, load₂₅₆}
use Rattle.standard.specs.Notation.{◌‖₁₅◌, ◌‖₇◌, ◌‖₈◌, ◌⟨◌⟩, ◌∣◌, listed}

infixr 40 ◌&◌
abbrev pub Bytes : List ℕ → Type 0
Bytes l = (i : ℕ) → l ⟨ i ⟩ < 2 ^ 8

-- a list written out
pub each-byte : (l : List ℕ) → All (λ x. x < 2 ^ 8) l → Bytes l
each-byte [] h i = lit< tt
each-byte (b ∷ l) h zero = h.0
each-byte (b ∷ l) h (suc i) = each-byte l h.1 i

pub byte-lt : (x j : ℕ) → byte_of x j < 2 ^ 8
unfolding byte_of
byte-lt x j = mod-lt _ (lit< tt)

-- EEA3's IV, of which one half stands twice
pub IV-EEA3-bytes : (count bearer direction : ℕ) → Bytes (IV-EEA3 count bearer direction)
unfolding IV-EEA3
IV-EEA3-bytes count bearer direction = each-byte (IV-EEA3 count bearer direction) (before half (before [] tt))
  where
    half : List ℕ
    half = half_iv-EEA3 count (bearer % 2 ^ 5) (direction % 2)

    before : (l : List ℕ) → All (λ x. x < 2 ^ 8) l → All (λ x. x < 2 ^ 8) (half_iv-EEA3 count (bearer % 2 ^ 5) (direction % 2) ++ l)
    before l h = (byte-lt count 0, (byte-lt count 1, (byte-lt count 2, (byte-lt count 3, (omega arith, (lit< tt, (lit< tt, (lit< tt, h))))))))

cell-128 : (k d v : ℕ) → k < 2 ^ 8 → v < 2 ^ 8 → 0 < d → d < 2 ^ 15 → InRange (k ‖₁₅ d ‖₈ v)
cell-128 k d v hk hv h0 hd = (omega arith, omega arith)

pub cells-128 : (k iv : List ℕ) → Bytes k → Bytes iv → Cells (load₁₂₈ k iv).cells
unfolding load₁₂₈
cells-128 k iv hk hv =
    record {
      full = length-listed f 0 16;
      low = λ i h. subst (λ (x : ℕ). 0 < x) (sym (at i h)) (range i h).0;
      high = λ i h. subst (λ (x : ℕ). x < 2 ^ 31) (sym (at i h)) (range i h).1;
    }
  where
    f : ℕ → ℕ
    f i = k ⟨ i ⟩ ‖₁₅ D ⟨ i ⟩ ‖₈ iv ⟨ i ⟩

    at : (i : ℕ) → i < 16 → get_or (listed f 0 16) i 0 ≡ f i
    at i h = get_or-listed f 0 16 i h ∙ ap f (zero-add i)

    range : (i : ℕ) → i < 16 → InRange (f i)
    range i h = cell-128 (k ⟨ i ⟩) (D ⟨ i ⟩) (iv ⟨ i ⟩) (hk i) (hv i) (D-row.some i h) (D-row.fits i h)

-- the parts of the IV: bytes, and from 17 on numbers of 6 bits
byte-part : (iv : List ℕ) → Bytes iv → (i : ℕ) → i < 17 → IV₂₅₆ iv i < 2 ^ 8
unfolding IV₂₅₆
byte-part iv b i h = rw (lt-ltb i 17 h) (b i)

sextet-part : (iv : List ℕ) (i : ℕ) → 17 ≤ i → IV₂₅₆ iv i < 2 ^ 6
unfolding IV₂₅₆
sextet-part iv i h = rw (le-ltb i 17 h) (window-lt (M iv) (M-lt iv) (17 * 8 + (i - 17) * 6) 6)

cell-256 : {a b c d : ℕ} → a < 2 ^ 8 → 0 < b → b < 2 ^ 7 → c < 2 ^ 8 → d < 2 ^ 8 → InRange (a ‖₇ b ‖₈ c ‖₈ d)
cell-256 ha h0 hb hc hd = (omega arith, omega arith)

-- what holds of a cell and of those behind it
abbrev ◌&◌ : {P Q : Type 0} → P → Q → P × Q
p & q = (p, q)

module _ (row k iv : List ℕ) (rule : Row 7 row) (hk : Bytes k) (hv : Bytes iv) where
  alone : (i : ℕ) → i < 16 → {a c e : ℕ} → a < 2 ^ 8 → c < 2 ^ 8 → e < 2 ^ 8 → InRange (a ‖₇ row ⟨ i ⟩ ‖₈ c ‖₈ e)
  alone i h ha hc he = cell-256 ha (rule.some i h) (rule.fits i h) hc he

  beside : (i : ℕ) → i < 16 → {x a c e : ℕ} → x < 2 ^ 6 → a < 2 ^ 8 → c < 2 ^ 8 → e < 2 ^ 8 → InRange (a ‖₇ (row ⟨ i ⟩ ∣ x) ‖₈ c ‖₈ e)
  beside i h {x} hx ha hc he =
      cell-256 ha (or_some (row ⟨ i ⟩) x (rule.some i h)) (or_lt 7 (row ⟨ i ⟩) x (rule.fits i h) (omega arith)) hc he

  byte : (i : ℕ) → i < 17 → IV₂₅₆ iv i < 2 ^ 8
  byte = byte-part iv hv

  six : (i : ℕ) → 17 ≤ i → IV₂₅₆ iv i < 2 ^ 6
  six = sextet-part iv

  high_half : k ⟨ 31 ⟩ / 2 ^ 4 < 2 ^ 6
  high_half = omega (arith, hk 31)

  low_half : k ⟨ 31 ⟩ % 2 ^ 4 < 2 ^ 6
  low_half = omega arith

  pub cells-256 : Cells (load₂₅₆ row k iv).cells
  unfolding load₂₅₆ cells₂₅₆
  cells-256 =
      all-cells _ refl (
      alone 0 (lit< tt) (hk 0) (hk 21) (hk 16)
      & alone 1 (lit< tt) (hk 1) (hk 22) (hk 17)
      & alone 2 (lit< tt) (hk 2) (hk 23) (hk 18)
      & alone 3 (lit< tt) (hk 3) (hk 24) (hk 19)
      & alone 4 (lit< tt) (hk 4) (hk 25) (hk 20)
      & beside 5 (lit< tt) (six 17 (lit≤ tt)) (byte 0 (lit< tt)) (hk 5) (hk 26)
      & beside 6 (lit< tt) (six 18 (lit≤ tt)) (byte 1 (lit< tt)) (hk 6) (hk 27)
      & beside 7 (lit< tt) (six 19 (lit≤ tt)) (byte 10 (lit< tt)) (hk 7) (byte 2 (lit< tt))
      & beside 8 (lit< tt) (six 20 (lit≤ tt)) (hk 8) (byte 3 (lit< tt)) (byte 11 (lit< tt))
      & beside 9 (lit< tt) (six 21 (lit≤ tt)) (hk 9) (byte 12 (lit< tt)) (byte 4 (lit< tt))
      & beside 10 (lit< tt) (six 22 (lit≤ tt)) (byte 5 (lit< tt)) (hk 10) (hk 28)
      & beside 11 (lit< tt) (six 23 (lit≤ tt)) (hk 11) (byte 6 (lit< tt)) (byte 13 (lit< tt))
      & beside 12 (lit< tt) (six 24 (lit≤ tt)) (hk 12) (byte 7 (lit< tt)) (byte 14 (lit< tt))
      & alone 13 (lit< tt) (hk 13) (byte 15 (lit< tt)) (byte 8 (lit< tt))
      & beside 14 (lit< tt) high_half (hk 14) (byte 16 (lit< tt)) (byte 9 (lit< tt))
      & beside 15 (lit< tt) low_half (hk 15) (hk 30) (hk 29)
      & tt
      )

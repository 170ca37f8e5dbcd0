-- F is one-to-one in its registers, of cells that agree but perhaps in the first: S, L1 and L2 are undone, and X0, X1, X2 do not read that cell.
use mathlib.Core.List.{List}
use mathlib.Core.Path.{◌≡◌, sym, ap, ap₂, ◌∙◌}
use Prim.Native.Nat.{ℕ, ◌+◌, ◌/◌, ◌%◌, ◌^◌, ◌<◌}
use native.Mathlib.Omega.{arith}
use lib.Bits.{xor_lt}
use lib.ListN.{drop, get_or}
use lib.Pow.{recompose}
use lib.Seq.{get_or-drop}
use Rattle.standard.specs.Generator.{F, L₁, L₂, S, State, W, W₁, W₂, X₀, X₁, X₂}
use Rattle.standard.specs.Notation.{H₃₁, H₃₂, L₁₆, ◌⟨◌⟩, ◌⊕◌, ◌⊞◌, ◌‖₁₆◌}
use Rattle.standard.proofs.Parts.{parted, same_word}
use Rattle.standard.proofs.Permutation.{Permutation, S₀-permutation, S₁-permutation}
use Rattle.standard.proofs.Xor.{xor-twice-r}
use Rattle.zuc_apart.proofs.Mixing.{L₁-lt, L₁-one-to-one, L₂-lt, L₂-one-to-one}

-- S: its boxes are permutations, and a word is its bytes
byte : (x : ℕ) → x % 2 ^ 8 < 256
byte x = omega arith

module _ {box : ℕ → ℕ} (p : Permutation box) where
  small : (x : ℕ) → box (x % 2 ^ 8) < 2 ^ 8
  small x = p.below (x % 2 ^ 8) (byte x)

  same : (x y : ℕ) → box (x % 2 ^ 8) ≡ box (y % 2 ^ 8) → x % 2 ^ 8 ≡ y % 2 ^ 8
  same x y e = p.injective (x % 2 ^ 8) (y % 2 ^ 8) (byte x) (byte y) e

pub S-lt : (x : ℕ) → S x < 2 ^ 32
unfolding S
S-lt x =
    omega (arith, small S₀-permutation (x / 2 ^ 24), small S₁-permutation (x / 2 ^ 16), small S₀-permutation (x / 2 ^ 8), small S₁-permutation x)

S-one-to-one : (x y : ℕ) → x < 2 ^ 32 → y < 2 ^ 32 → S x ≡ S y → x ≡ y
unfolding S
S-one-to-one x y p q e =
    let d = parted 8 (small S₁-permutation x) (small S₁-permutation y) e in
    let c = parted 8 (small S₀-permutation (x / 2 ^ 8)) (small S₀-permutation (y / 2 ^ 8)) d.0 in
    let b = parted 8 (small S₁-permutation (x / 2 ^ 16)) (small S₁-permutation (y / 2 ^ 16)) c.0 in
    same_word x y p q (same S₀-permutation (x / 2 ^ 24) (y / 2 ^ 24) b.0) (same S₁-permutation (x / 2 ^ 16) (y / 2 ^ 16) b.1)
    (same S₀-permutation (x / 2 ^ 8) (y / 2 ^ 8) c.1) (same S₁-permutation x y d.1)

-- a linear transform and then S, of two halves
joined-lt : (x y : ℕ) → L₁₆ x ‖₁₆ H₃₂ y < 2 ^ 32
joined-lt x y = omega arith

module _ (L : ℕ → ℕ) (L-lt : (x : ℕ) → x < 2 ^ 32 → L x < 2 ^ 32) (once : (x y : ℕ) → x < 2 ^ 32 → y < 2 ^ 32 → L x ≡ L y → x ≡ y) where
  halves : (a b c d : ℕ) → S (L (L₁₆ a ‖₁₆ H₃₂ b)) ≡ S (L (L₁₆ c ‖₁₆ H₃₂ d)) → (L₁₆ a ≡ L₁₆ c) × (H₃₂ b ≡ H₃₂ d)
  halves a b c d e =
      parted 16 (half b) (half d)
      (once _ _ (joined-lt a b) (joined-lt c d) (S-one-to-one _ _ (L-lt _ (joined-lt a b)) (L-lt _ (joined-lt c d)) e))
    where
      half : (x : ℕ) → H₃₂ x < 2 ^ 16
      half x = omega arith

rejoined : (a c : ℕ) → a < 2 ^ 32 → c < 2 ^ 32 → H₃₂ a ≡ H₃₂ c → L₁₆ a ≡ L₁₆ c → a ≡ c
rejoined a c p q h l = sym (recompose 16 16 p) ∙ ap₂ (λ (x y : ℕ). x ‖₁₆ y) h l ∙ recompose 16 16 q

added : (a b x : ℕ) → a < 2 ^ 32 → b < 2 ^ 32 → a ⊞ x ≡ b ⊞ x → a ≡ b
added a b x p q e = omega arith

xored : (a b x : ℕ) → a ⊕ x ≡ b ⊕ x → a ≡ b
xored a b x e = sym (xor-twice-r a x) ∙ ap (λ (y : ℕ). y ⊕ x) e ∙ xor-twice-r b x

-- every cell but the first
pub later : (s t : List ℕ) → drop 1 s ≡ drop 1 t → (i : ℕ) → s ⟨ 1 + i ⟩ ≡ t ⟨ 1 + i ⟩
later s t e i = sym (get_or-drop 1 s i 0) ∙ ap (λ (l : List ℕ). get_or l i 0) e ∙ get_or-drop 1 t i 0

-- two registers of 32 bits
pub record Words (σ : State) : Type 0 where
  pub first : σ.R₁ < 2 ^ 32
  pub second : σ.R₂ < 2 ^ 32

X₂-lt : (s : List ℕ) → X₂ s < 2 ^ 32
unfolding X₂
X₂-lt s = omega arith

W₁-lt : (σ : State) → W₁ σ < 2 ^ 32
unfolding W₁
W₁-lt σ = omega arith

W₂-lt : (σ : State) → Words σ → W₂ σ < 2 ^ 32
unfolding W₂
W₂-lt σ p = xor_lt 32 σ.R₂ (X₂ σ.cells) p.second (X₂-lt σ.cells)

module _ (σ τ : State) (p : Words σ) (q : Words τ) (e : drop 1 σ.cells ≡ drop 1 τ.cells) where
  cell : (i : ℕ) → σ.cells ⟨ 1 + i ⟩ ≡ τ.cells ⟨ 1 + i ⟩
  cell = later σ.cells τ.cells e

  X₁-same : X₁ σ.cells ≡ X₁ τ.cells
  unfolding X₁
  X₁-same i = L₁₆ (cell 10 i) ‖₁₆ H₃₁ (cell 8 i)

  X₂-same : X₂ σ.cells ≡ X₂ τ.cells
  unfolding X₂
  X₂-same i = L₁₆ (cell 6 i) ‖₁₆ H₃₁ (cell 4 i)

  pub registers : (F σ).R₁ ≡ (F τ).R₁ → (F σ).R₂ ≡ (F τ).R₂ → (σ.R₁ ≡ τ.R₁) × (σ.R₂ ≡ τ.R₂)
  unfolding F W₁ W₂
  registers f g =
      let one = halves L₁ L₁-lt L₁-one-to-one (W₁ σ) (W₂ σ) (W₁ τ) (W₂ τ) f in
      let two = halves L₂ L₂-lt L₂-one-to-one (W₂ σ) (W₁ σ) (W₂ τ) (W₁ τ) g in
      let w₁ : W₁ σ ≡ W₁ τ = rejoined (W₁ σ) (W₁ τ) (W₁-lt σ) (W₁-lt τ) two.1 one.0 in
      let w₂ : W₂ σ ≡ W₂ τ = rejoined (W₂ σ) (W₂ τ) (W₂-lt σ p) (W₂-lt τ q) one.1 two.0 in (
        added σ.R₁ τ.R₁ (X₁ σ.cells) p.first q.first (w₁ ∙ ap (λ (x : ℕ). τ.R₁ ⊞ x) (sym X₁-same)),
        xored σ.R₂ τ.R₂ (X₂ σ.cells) (w₂ ∙ ap (λ (x : ℕ). τ.R₂ ⊕ x) (sym X₂-same)),
      )

  -- and then its output is the same
  pub output : σ.R₁ ≡ τ.R₁ → σ.R₂ ≡ τ.R₂ → W σ ≡ W τ
  unfolding W X₀
  output f g i = ((H₃₁ (cell 14 i) ‖₁₆ L₁₆ (cell 13 i)) ⊕ f i) ⊞ g i

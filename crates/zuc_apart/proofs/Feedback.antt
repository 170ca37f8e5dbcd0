-- A step of the cells is one-to-one, for one u: 257 has an inverse modulo 2^31 - 1, and a cell is in 1 .. 2^31 - 1.
use mathlib.Core.List.{List, [], ◌∷◌}
use mathlib.Core.Path.{◌≡◌, sym, ap, ap₂, ◌∙◌}
use Prim.Native.Nat.{ℕ, zero, suc, ◌+◌, ◌-◌, ◌*◌, ◌/◌, ◌%◌, ◌^◌, ◌<◌}
use native.Mathlib.Nat.{add-mul-mod_self_right, mod-lt, mod-mod}
use native.Mathlib.Omega.{arith}
use lib.Dec.{lit<}
use lib.ListN.{drop, get_or, length, length-drop, take}
use lib.Seq.{drop-cons, get_or_at, take_at}
use Rattle.standard.specs.Generator.{LFSRWithInitialisationMode, nonzero, s₁₆, shifted, v}
use Rattle.standard.specs.Notation.{◌⟨◌⟩}
use Rattle.standard.proofs.Cells.{Cells}
use Rattle.zuc_apart.proofs.Registers.{later}

abbrev p : ℕ
p = 2 ^ 31 - 1

-- the cells that were kept, and the new one
kept : (s t : List ℕ) (a b : ℕ) → length s ≡ 16 → length t ≡ 16 → shifted s a ≡ shifted t b → (drop 1 s ≡ drop 1 t) × (a ≡ b)
kept s t a b m n e = (
  sym (take_at (drop 1 s) (a ∷ []) 15 (fifteen s m)) ∙ ap (take 15) e ∙ take_at (drop 1 t) (b ∷ []) 15 (fifteen t n),
  sym (get_or_at (drop 1 s) a [] 0 15 (fifteen s m)) ∙ ap (λ (l : List ℕ). get_or l 15 0) e ∙ get_or_at (drop 1 t) b [] 0 15 (fifteen t n),
)
  where
    fifteen : (l : List ℕ) → length l ≡ 16 → length (drop 1 l) ≡ 15
    fifteen l h = length-drop 1 l ∙ ap (λ (k : ℕ). k - 1) h

nonzero-one-to-one : (m n : ℕ) → m < p → n < p → nonzero m ≡ nonzero n → m ≡ n
nonzero-one-to-one zero zero h l e = omega arith
nonzero-one-to-one zero (suc n) h l e = absurd (omega arith)
nonzero-one-to-one (suc m) zero h l e = absurd (omega arith)
nonzero-one-to-one (suc m) (suc n) h l e = e

-- 257 times a cell, modulo 2^31 - 1, is undone by 0xFF00FF: the product is 2·(2^31 - 1) + 1
less : (x y u : ℕ) → (x + u) % p ≡ (y + u) % p → x % p ≡ y % p
less x y u e = omega arith

less-before : (r x y : ℕ) → (r + x) % p ≡ (r + y) % p → x % p ≡ y % p
less-before r x y e = omega arith

undone : (a : ℕ) → 0xFF00FF * (257 * a % p) % p ≡ a % p
undone a =
    let q : ℕ = 257 * a / p in
    let r : ℕ = 257 * a % p in
    let e : 0xFF00FF * r + 0xFF00FF * q * p ≡ a + 2 * a * p = omega arith in
    sym (add-mul-mod_self_right (0xFF00FF * r) (0xFF00FF * q) p) ∙ ap (λ (n : ℕ). n % p) e ∙ add-mul-mod_self_right a (2 * a) p

cell-is : (a b : ℕ) → 0 < a → a < 2 ^ 31 → 0 < b → b < 2 ^ 31 → a % p ≡ b % p → a ≡ b
cell-is a b pa qa pb qb e = omega arith

tapped : (r u a b : ℕ) → 0 < a → a < 2 ^ 31 → 0 < b → b < 2 ^ 31
    → ((r + 257 * a) % p + u) % p ≡ ((r + 257 * b) % p + u) % p → a ≡ b
tapped r u a b pa qa pb qb e =
    let f : (r + 257 * a) % p ≡ (r + 257 * b) % p = sym (mod-mod (r + 257 * a) p) ∙ less ((r + 257 * a) % p) ((r + 257 * b) % p) u e ∙ mod-mod (r + 257 * b) p in
    let g : 257 * a % p ≡ 257 * b % p = less-before r (257 * a) (257 * b) f in
    cell-is a b pa qa pb qb (sym (undone a) ∙ ap (λ (x : ℕ). 0xFF00FF * x % p) g ∙ undone b)

first-too : (u : ℕ) (s t : List ℕ) → Cells s → Cells t → drop 1 s ≡ drop 1 t → s₁₆ u s ≡ s₁₆ u t → s ≡ t
unfolding s₁₆ v
first-too u s t c d e f =
    let g : (v s + u) % p ≡ (v t + u) % p = nonzero-one-to-one _ _ (mod-lt (v s + u) (lit< tt)) (mod-lt (v t + u) (lit< tt)) f in
    let first : s ⟨ 0 ⟩ ≡ t ⟨ 0 ⟩ = tapped (2 ^ 15 * s ⟨ 15 ⟩ + 2 ^ 17 * s ⟨ 13 ⟩ + 2 ^ 21 * s ⟨ 10 ⟩ + 2 ^ 20 * s ⟨ 4 ⟩) u (s ⟨ 0 ⟩) (t ⟨ 0 ⟩)
    (c.low 0 (lit< tt)) (c.high 0 (lit< tt)) (d.low 0 (lit< tt)) (d.high 0 (lit< tt))
    (g ∙ λ i. ((2 ^ 15 * old 14 i + 2 ^ 17 * old 12 i + 2 ^ 21 * old 9 i + 2 ^ 20 * old 3 i + 257 * t ⟨ 0 ⟩) % p + u) % p) in
    drop-cons s 0 0 (omega (arith, c.full)) ∙ ap₂ (λ (x : ℕ) (l : List ℕ). x ∷ l) first e ∙ sym (drop-cons t 0 0 (omega (arith, d.full)))
  where
    old : (i : ℕ) → t ⟨ 1 + i ⟩ ≡ s ⟨ 1 + i ⟩
    old i = sym (later s t e i)

-- a step in either mode keeps all cells but the first, and for one u that one too
pub mode-one-to-one : (u w : ℕ) (s t : List ℕ) → Cells s → Cells t → LFSRWithInitialisationMode u s ≡ LFSRWithInitialisationMode w t
    → (drop 1 s ≡ drop 1 t) × (u ≡ w → s ≡ t)
unfolding LFSRWithInitialisationMode
mode-one-to-one u w s t c d e =
    let k = kept s t (s₁₆ u s) (s₁₆ w t) c.full d.full e in
    (k.0, λ h. first-too u s t c d k.0 (k.1 ∙ ap (λ (n : ℕ). s₁₆ n t) (sym h)))

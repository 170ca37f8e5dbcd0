-- L1 and L2 are one-to-one on words, as is any word xored with an even number of its rotations: done twice that is the word xored with its
-- rotations by twice as much, since the other terms cancel, and by 32 places none is a rotation. By induction on the list of rotations.
use mathlib.Core.Bool.{Bool, true, false, ◌&&◌, false≢true}
use mathlib.Core.List.{List, [], ◌∷◌}
use mathlib.Core.Logic.{⊎_elim}
use mathlib.Core.Path.{◌≡◌, refl, sym, ap, ap₂, ◌∙◌}
use Prim.Native.Nat.{ℕ, zero, suc, ◌+◌, ◌-◌, ◌%◌, ◌^◌, ◌<◌}
use native.Mathlib.Nat.{eq-zero-or-pos}
use native.Mathlib.Omega.{arith}
use borrow.Author.Tests.{eqb-true, ltb-true}
use lib.Bits.{xor_lt}
use lib.Dec.{eqb, ltb}
use Rattle.standard.specs.Generator.{L₁, L₂}
use Rattle.standard.specs.Notation.{◌⊕◌, ◌⋘◌}
use Rattle.standard.proofs.Cells.{All}
use Rattle.standard.proofs.Table.{and_left, and_right, every}
use Rattle.standard.proofs.Xor.{xor_assoc, xor-four, xor-twice, xor-twice-r}
use Rattle.words.proofs.Rotation.{rol-add, rol-comm, rol-lt, rol-wrap, rol-xor}
use Rattle.zuc_apart.specs.Rotations.{mixed, rotations₁, rotations₂}

-- rotations of a word by less than its width
abbrev Rotations : List ℕ → Type 0
Rotations = All (λ k. k < 32)

pub mixed-lt : (ks : List ℕ) → Rotations ks → (x : ℕ) → x < 2 ^ 32 → mixed ks x < 2 ^ 32
mixed-lt [] a x h = h
mixed-lt (k ∷ ks) a x h = xor_lt 32 (mixed ks x) (x ⋘ k) (mixed-lt ks a.1 x h) (rol-lt x k (omega (arith, a.0)) h)

mixed-xor : (ks : List ℕ) → Rotations ks → (x y : ℕ) → x < 2 ^ 32 → y < 2 ^ 32 → mixed ks (x ⊕ y) ≡ mixed ks x ⊕ mixed ks y
mixed-xor [] a x y p q = refl
mixed-xor (k ∷ ks) a x y p q =
    ap₂ (λ (s t : ℕ). s ⊕ t) (mixed-xor ks a.1 x y p q) (rol-xor x y k (omega (arith, a.0)) p q) ∙ xor-four (mixed ks x) (mixed ks y) (x ⋘ k) (y ⋘ k)

-- a rotation before the mixing is one after it
mixed-rol : (ks : List ℕ) → Rotations ks → (k x : ℕ) → k < 32 → x < 2 ^ 32 → mixed ks (x ⋘ k) ≡ mixed ks x ⋘ k
mixed-rol [] a k x h p = refl
mixed-rol (j ∷ ks) a k x h p =
    ap₂ (λ (s t : ℕ). s ⊕ t) (mixed-rol ks a.1 k x h p) (rol-comm x k j (omega arith) (omega (arith, a.0)) p)
    ∙ sym (rol-xor (mixed ks x) (x ⋘ j) k (omega arith) (mixed-lt ks a.1 x p) (rol-lt x j (omega (arith, a.0)) p))

-- a rotation twice
twice : ℕ → ℕ
twice k = (k + k) % 32

rol-twice : (x k : ℕ) → k < 32 → x < 2 ^ 32 → (x ⋘ k) ⋘ k ≡ x ⋘ twice k
unfolding twice
rol-twice x k h p =
    ⊎_elim (λ (e : k + k - 31 ≡ 0). rol-add x k k (omega arith) p ∙ ap (λ (n : ℕ). x ⋘ n) (omega arith))
    (λ (e : 0 < k + k - 31). rol-wrap x k k ((k + k) % 32) (omega arith) (omega arith) (omega arith) p) (eq-zero-or-pos (k + k - 31))

abbrev doubled : List ℕ → List ℕ
doubled [] = []
doubled (k ∷ ks) = twice k ∷ doubled ks

mixed-twice : (ks : List ℕ) → Rotations ks → (x : ℕ) → x < 2 ^ 32 → mixed ks (mixed ks x) ≡ mixed (doubled ks) x
mixed-twice [] a x h = refl
mixed-twice (k ∷ ks) a x h =
    let m : ℕ = mixed ks x in
    let r : ℕ = x ⋘ k in
    let p : m < 2 ^ 32 = mixed-lt ks a.1 x h in
    let q : r < 2 ^ 32 = rol-lt x k (omega (arith, a.0)) h in
    ap₂ (λ (s t : ℕ). s ⊕ t) (mixed-xor ks a.1 m r p q ∙ ap (λ (t : ℕ). mixed ks m ⊕ t) (mixed-rol ks a.1 k x a.0 h)) (rol-xor m r k (omega (arith, a.0)) p q)
    ∙ xor_assoc (mixed ks m) (m ⋘ k) (m ⋘ k ⊕ r ⋘ k)
    ∙ ap (λ (t : ℕ). mixed ks m ⊕ t) (xor-twice (m ⋘ k) (r ⋘ k))
    ∙ ap₂ (λ (s t : ℕ). s ⊕ t) (mixed-twice ks a.1 x h) (rol-twice x k a.0 h)

-- so a mixing is one-to-one where the doubled one is; and one whose rotations cancel, two and two, is nothing
abbrev OneToOne : List ℕ → Type 0
OneToOne ks = (x y : ℕ) → x < 2 ^ 32 → y < 2 ^ 32 → mixed ks x ≡ mixed ks y → x ≡ y

undoubled : (ks : List ℕ) → Rotations ks → OneToOne (doubled ks) → OneToOne ks
undoubled ks a once x y p q e = once x y p q (sym (mixed-twice ks a x p) ∙ ap (mixed ks) e ∙ mixed-twice ks a y q)

abbrev cancels : List ℕ → Bool
cancels [] = true
cancels (k ∷ []) = false
cancels (j ∷ k ∷ ks) = eqb j k && cancels ks

cancelled : (ks : List ℕ) → cancels ks ≡ true → (x : ℕ) → mixed ks x ≡ x
cancelled [] e x = refl
cancelled (k ∷ []) e x = absurd (false≢true e)
cancelled (j ∷ k ∷ ks) e x =
    ap (λ (i : ℕ). mixed ks x ⊕ x ⋘ k ⊕ x ⋘ i) (eqb-true j k (and_left _ _ e)) ∙ xor-twice-r (mixed ks x) (x ⋘ k) ∙ cancelled ks (and_right (eqb j k) _ e) x

doubled-all : (ks : List ℕ) → Rotations (doubled ks)
unfolding twice
doubled-all [] = tt
doubled-all (k ∷ ks) = (omega arith, doubled-all ks)

-- five times doubled, every rotation of a word is none: what is left is whether their number is even
abbrev even : ℕ → List ℕ → Bool
even zero ks = cancels ks
even (suc n) ks = even n (doubled ks)

one-to-one : (n : ℕ) (ks : List ℕ) → Rotations ks → even n ks ≡ true → OneToOne ks
one-to-one zero ks a e = λ x y p q same. sym (cancelled ks e x) ∙ same ∙ cancelled ks e y
one-to-one (suc n) ks a e = undoubled ks a (one-to-one n (doubled ks) (doubled-all ks) e)

-- the two lists, by computed tests
within : (ks : List ℕ) (i : ℕ) → every (λ j k. ltb k 32) i ks ≡ true → Rotations ks
within [] i e = tt
within (k ∷ ks) i e = (ltb-true k 32 (and_left _ _ e), within ks (suc i) (and_right (ltb k 32) _ e))

below₁ : Rotations rotations₁
below₁ = within rotations₁ 0 refl

below₂ : Rotations rotations₂
below₂ = within rotations₂ 0 refl

mixing₁ : OneToOne rotations₁
unfolding twice
mixing₁ = one-to-one 5 rotations₁ below₁ refl

mixing₂ : OneToOne rotations₂
unfolding twice
mixing₂ = one-to-one 5 rotations₂ below₂ refl

-- L1 and L2 are these
pub L₁-lt : (x : ℕ) → x < 2 ^ 32 → L₁ x < 2 ^ 32
unfolding L₁
L₁-lt = mixed-lt rotations₁ below₁

pub L₂-lt : (x : ℕ) → x < 2 ^ 32 → L₂ x < 2 ^ 32
unfolding L₂
L₂-lt = mixed-lt rotations₂ below₂

pub L₁-one-to-one : (x y : ℕ) → x < 2 ^ 32 → y < 2 ^ 32 → L₁ x ≡ L₁ y → x ≡ y
unfolding L₁
L₁-one-to-one = mixing₁

pub L₂-one-to-one : (x y : ℕ) → x < 2 ^ 32 → y < 2 ^ 32 → L₂ x ≡ L₂ y → x ≡ y
unfolding L₂
L₂-one-to-one = mixing₂

-- Words mask the bytes of the part lent at their place, byte by byte or as one number.
use mathlib.Core.List.{List, [], ◌∷◌, ◌++◌}
use mathlib.Core.Path.{◌≡◌, sym, ap, ap₂, ◌∙◌}
use Prim.Native.Nat.{ℕ, ◌+◌, ◌-◌, ◌*◌, ◌/◌, ◌^◌, ◌<◌, ◌≤◌}
use native.Mathlib.Nat.{mod-eq_of_lt}
use native.Mathlib.Omega.{arith}
use lib.ListN.{length, get_or, take, drop, set, length-take}
use Rattle.standard.specs.Confidentiality.{masked}
use Rattle.standard.specs.Bits.{byte_of}
use Rattle.standard.specs.Generator.{State, word_at}
use Rattle.standard.specs.Notation.{◌⊕◌, ◌‖₈◌, each_from}
use Rattle.standard.proofs.Each.{each-ext, done_from, from-lent}
use Rattle.standard.proofs.Twice.{byte-xor}

-- the bytes of four bytes joined
pub joined : (a b c d : ℕ) → a < 2 ^ 8 → b < 2 ^ 8 → c < 2 ^ 8 → d < 2 ^ 8
    → (byte_of (a ‖₈ b ‖₈ c ‖₈ d) 0 ≡ a) × (byte_of (a ‖₈ b ‖₈ c ‖₈ d) 1 ≡ b) × (byte_of (a ‖₈ b ‖₈ c ‖₈ d) 2 ≡ c) × (byte_of (a ‖₈ b ‖₈ c ‖₈ d) 3 ≡ d)
unfolding byte_of
joined a b c d p q r s = (omega arith, omega arith, omega arith, omega arith)

-- byte j of a word that is masked as one number, j below 4
pub byte-masked : (w x j byte : ℕ) → j < 4 → byte_of x j ≡ byte → byte_of (x ⊕ w) j ≡ masked (λ n. w) j byte
unfolding masked
byte-masked w x j byte h e = byte-xor x w j ∙ ap₂ (λ (y k : ℕ). y ⊕ byte_of w k) e (sym (mod-eq_of_lt h))

-- four bytes, each stored as f of what stood there
pub four-stored : (f : ℕ → ℕ → ℕ) (p : List ℕ) (a b c d : ℕ) → length p ≡ 4 → a ≡ f 0 (get_or p 0 0) → b ≡ f 1 (get_or p 1 0) → c ≡ f 2 (get_or p 2 0)
    → d ≡ f 3 (get_or p 3 0) → set (set (set (set p 0 a) 1 b) 2 c) 3 d ≡ each_from f 0 p
unfolding each_from
four-stored f (w ∷ x ∷ y ∷ z ∷ []) a b c d h p q r s = λ i. p i ∷ q i ∷ r i ∷ s i ∷ []
four-stored f [] a b c d h p q r s = absurd (omega arith)
four-stored f (w ∷ []) a b c d h p q r s = absurd (omega arith)
four-stored f (w ∷ x ∷ []) a b c d h p q r s = absurd (omega arith)
four-stored f (w ∷ x ∷ y ∷ []) a b c d h p q r s = absurd (omega arith)
four-stored f (w ∷ x ∷ y ∷ z ∷ v ∷ l) a b c d h p q r s = absurd (omega arith)

-- a part lent from byte i, where word k begins, to an end, and masked with words that are those from k on
module _ (σ : State) (k i end : ℕ) (start : i ≡ 4 * k) where
  place : (ws : ℕ → ℕ) (j byte : ℕ) → ws (j / 4) ≡ word_at σ (k + j / 4) → masked ws (0 + j) byte ≡ masked (word_at σ) (i + j) byte
  unfolding masked
  place ws j byte e =
      ap₂ (λ (x y : ℕ). byte ⊕ byte_of x y) (ap ws (omega arith) ∙ e ∙ ap (word_at σ) (omega arith)) (omega arith)

  pub turn-masked : (ws : ℕ → ℕ) (l ys : List ℕ) (to : ℕ) → to ≡ i + (end - i) → to ≤ length l → ((n : ℕ) → 4 * n < end - i → ws n ≡ word_at σ (k + n))
      → ys ≡ each_from (masked ws) 0 (take (end - i) (drop i l))
      → done_from (masked (word_at σ)) to (take i l ++ (ys ++ drop (end - i) (drop i l))) ≡ done_from (masked (word_at σ)) i l
  turn-masked ws l ys to at b same m =
      ap (λ (x : ℕ). done_from (masked (word_at σ)) x (take i l ++ (ys ++ drop (end - i) (drop i l)))) at
      ∙ from-lent (masked (word_at σ)) i (end - i) l ys (omega arith)
      (m ∙ each-ext (masked ws) (masked (word_at σ)) 0 i part (λ j h. place ws j (get_or part j 0) (same (j / 4) (omega (arith, length-take (end - i) (drop i l))))))
    where
      part : List ℕ
      part = take (end - i) (drop i l)

  -- at most four bytes take one word
  pub alone : {w : ℕ} → w ≡ word_at σ k → end - i ≤ 4 → (n : ℕ) → 4 * n < end - i → w ≡ word_at σ (k + n)
  alone e short n h = e ∙ ap (word_at σ) (omega arith)

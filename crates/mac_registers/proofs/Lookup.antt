-- Look-ups give the tag sum T of 32 bits: four bits by their windows, and the groups by splitting the sum.
use mathlib.Core.Path.{◌≡◌, refl, sym, ap, ap₂, ◌∙◌}
use mathlib.Core.List.{List, [], ◌∷◌}
use Prim.Native.Nat.{ℕ, zero, suc, ◌+◌, ◌-◌, ◌*◌, ◌/◌, ◌%◌, ◌^◌, ◌<◌, ◌≤◌}
use native.Mathlib.Omega.{arith}
use native.Mathlib.Nat.{div-one, zero-add, zero-div}
use lib.ListN.{get_or}
use lib.Bits.{bit_xor, xor_mod, xor_shr, xor_zero_l, xor_zero_r}
use lib.Pow.{shr-shr}
use Rattle.standard.specs.Notation.{◌⊕◌, listed}
use Rattle.standard.specs.Bits.{bit_of, window}
use Rattle.standard.specs.Integrity.{T, where_set}
use Rattle.standard.proofs.Listed.{get_or-listed}
use Rattle.standard.proofs.Sum.{sum-split}
use Rattle.standard.proofs.Window.{window-bit_of}
use Rattle.standard.proofs.Xor.{xor_assoc}
use Rattle.mac_registers.specs.InnerLookup.{byte_looked_up, looked_up, multiple, multiples_of, summed}

where_set-field : (b x q : ℕ) → where_set b x / 2 ^ q % 2 ^ 32 ≡ where_set b (x / 2 ^ q % 2 ^ 32)
where_set-field zero x q = ap (λ (y : ℕ). y % 2 ^ 32) (zero-div (2 ^ q))
where_set-field (suc b) x q = refl

-- a field of an exclusive or
field-xor : (a b q : ℕ) → (a ⊕ b) / 2 ^ q % 2 ^ 32 ≡ a / 2 ^ q % 2 ^ 32 ⊕ b / 2 ^ q % 2 ^ 32
field-xor a b q = ap (λ (y : ℕ). y % 2 ^ 32) (xor_shr a b q) ∙ xor_mod (a / 2 ^ q) (b / 2 ^ q) 32

module _ (pair bits k : ℕ) (h : k < 8) where
  -- one bit of the group: its bit of the number looked up, and its window of the multiple
  place : (j : ℕ) → j ≤ 3
      → where_set (bits / 2 ^ (28 - 4 * k) % 16 / 2 ^ (3 - j) % 2) (pair / 2 ^ (3 - j)) / 2 ^ (29 - 4 * k) % 2 ^ 32
      ≡ where_set (bit_of 32 bits (4 * k + j)) (window (bit_of 64 pair) (4 * k + j) 32)
  unfolding bit_of
  place j l =
      where_set-field (bits / 2 ^ (28 - 4 * k) % 16 / 2 ^ (3 - j) % 2) (pair / 2 ^ (3 - j)) (29 - 4 * k)
      ∙ ap₂ where_set
      (low_bits (bits / 2 ^ (28 - 4 * k)) j l
      ∙ ap (λ (y : ℕ). y % 2) (shr-shr bits (28 - 4 * k) (3 - j) ∙ ap (λ (y : ℕ). bits / 2 ^ y) e))
      (ap (λ (y : ℕ). y % 2 ^ 32) (shr-shr pair (3 - j) (29 - 4 * k) ∙ ap (λ (y : ℕ). pair / 2 ^ y) e')
      ∙ sym (window-bit_of 64 pair (4 * k + j) 32 (omega arith)))
    where
      e : 28 - 4 * k + (3 - j) ≡ 32 - suc (4 * k + j)
      e = omega arith

      e' : 3 - j + (29 - 4 * k) ≡ 64 - (4 * k + j + 32)
      e' = omega arith

      low_bits : (x i : ℕ) → i ≤ 3 → x % 16 / 2 ^ (3 - i) % 2 ≡ x / 2 ^ (3 - i) % 2
      low_bits x zero l = omega arith
      low_bits x (suc zero) l = omega arith
      low_bits x (suc (suc zero)) l = omega arith
      low_bits x (suc (suc (suc zero))) l = omega arith
      low_bits x (suc (suc (suc (suc i)))) l = absurd (omega arith)

  group : multiple pair (bits / 2 ^ (28 - 4 * k) % 16) / 2 ^ (29 - 4 * k) % 2 ^ 32
      ≡ T 32 (bit_of 64 pair) (4 * k) (λ i. bit_of 32 bits (4 * k + i)) 4
  unfolding multiple T
  group =
      field-xor _ _ (29 - 4 * k)
      ∙ ap₂ bit_xor
      (field-xor _ _ (29 - 4 * k)
      ∙ ap₂ bit_xor (field-xor _ _ (29 - 4 * k) ∙ ap₂ bit_xor (place 0 (omega arith)) (place 1 (omega arith))) (place 2 (omega arith)))
      (ap₂ (λ (n x : ℕ). where_set (n % 2) x / 2 ^ (29 - 4 * k) % 2 ^ 32) (sym (div-one (bits / 2 ^ (28 - 4 * k) % 16))) (sym (div-one pair))
      ∙ place 3 (omega arith))

-- k groups
looked-groups : (pair bits k : ℕ) → k ≤ 8 → looked_up (multiples_of pair) bits k ≡ T 32 (bit_of 64 pair) 0 (bit_of 32 bits) (4 * k)
unfolding looked_up T multiples_of
looked-groups pair bits zero h = refl
looked-groups pair bits (suc k) h =
    ap₂ bit_xor (looked-groups pair bits k (omega arith)) (ap (λ (x : ℕ). x / 2 ^ (29 - 4 * k) % 2 ^ 32) entry ∙ group pair bits k (omega arith)
    ∙ ap (λ (x : ℕ). T 32 (bit_of 64 pair) x (λ i. bit_of 32 bits (4 * k + i)) 4) (sym (zero-add (4 * k))))
    ∙ sym (sum-split 32 (bit_of 64 pair) 0 (bit_of 32 bits) (4 * k) 4)
    ∙ ap (T 32 (bit_of 64 pair) 0 (bit_of 32 bits)) next
  where
    next : 4 * k + 4 ≡ 4 * suc k
    next = omega arith

    entry : get_or (multiples_of pair) (bits / 2 ^ (28 - 4 * k) % 16) 0 ≡ multiple pair (bits / 2 ^ (28 - 4 * k) % 16)
    entry = get_or-listed (multiple pair) 0 16 (bits / 2 ^ (28 - 4 * k) % 16) (omega arith) ∙ ap (multiple pair) (zero-add (bits / 2 ^ (28 - 4 * k) % 16))

pub looked-is : (pair bits : ℕ) → looked_up (multiples_of pair) bits 8 ≡ summed 32 pair bits
unfolding summed
looked-is pair bits = looked-groups pair bits 8 (omega arith)

-- a byte's two groups after k groups
byte_more : (table : List ℕ) (bits k b : ℕ) → bits / 2 ^ (28 - 4 * k) % 16 ≡ b / 16 → bits / 2 ^ (28 - 4 * suc k) % 16 ≡ b % 16
    → looked_up table bits k ⊕ byte_looked_up table b (4 * k) ≡ looked_up table bits (suc (suc k))
unfolding looked_up byte_looked_up
byte_more table bits k b e e' =
    sym (xor_assoc (looked_up table bits k) _ _)
    ∙ ap₂ (λ (n m : ℕ). looked_up table bits k ⊕ get_or table n 0 / 2 ^ (29 - 4 * k) % 2 ^ 32 ⊕ get_or table m 0 / 2 ^ (25 - 4 * k) % 2 ^ 32) (sym e) (sym e')
    ∙ ap (λ (q : ℕ). looked_up table bits (suc k) ⊕ get_or table (bits / 2 ^ (28 - 4 * suc k) % 16) 0 / 2 ^ q % 2 ^ 32) next
  where
    next : 25 - 4 * k ≡ 29 - 4 * suc k
    next = omega arith

-- a word's four bytes
pub by_bytes : (table : List ℕ) (b₀ b₁ b₂ b₃ : ℕ) → b₀ < 2 ^ 8 → b₁ < 2 ^ 8 → b₂ < 2 ^ 8 → b₃ < 2 ^ 8
    → byte_looked_up table b₀ 0 ⊕ byte_looked_up table b₁ 8 ⊕ byte_looked_up table b₂ 16 ⊕ byte_looked_up table b₃ 24
    ≡ looked_up table (((b₀ * 2 ^ 8 + b₁) * 2 ^ 8 + b₂) * 2 ^ 8 + b₃) 8
unfolding looked_up
by_bytes table b₀ b₁ b₂ b₃ h₀ h₁ h₂ h₃ =
    ap (λ (x : ℕ). x ⊕ byte_looked_up table b₁ 8 ⊕ byte_looked_up table b₂ 16 ⊕ byte_looked_up table b₃ 24)
    (sym (xor_zero_l (byte_looked_up table b₀ 0)) ∙ byte_more table word 0 b₀ (omega arith) (omega arith))
    ∙ ap (λ (x : ℕ). x ⊕ byte_looked_up table b₂ 16 ⊕ byte_looked_up table b₃ 24) (byte_more table word 2 b₁ (omega arith) (omega arith))
    ∙ ap (λ (x : ℕ). x ⊕ byte_looked_up table b₃ 24) (byte_more table word 4 b₂ (omega arith) (omega arith))
    ∙ byte_more table word 6 b₃ (omega arith) (omega arith)
  where
    word : ℕ
    word = ((b₀ * 2 ^ 8 + b₁) * 2 ^ 8 + b₂) * 2 ^ 8 + b₃

-- the table, spelled as the code makes it
pub spelled : (pair b c d : ℕ) → b ≡ pair / 2 → c ≡ pair / 2 ^ 2 → d ≡ pair / 2 ^ 3
    → 0 ∷ pair ∷ b ∷ (b ⊕ pair) ∷ c ∷ (c ⊕ pair) ∷ (c ⊕ b) ∷ (c ⊕ (b ⊕ pair)) ∷ d ∷ (d ⊕ pair) ∷ (d ⊕ b) ∷ (d ⊕ (b ⊕ pair)) ∷
    (d ⊕ c) ∷ (d ⊕ c ⊕ pair) ∷ (d ⊕ c ⊕ b) ∷ (d ⊕ c ⊕ (b ⊕ pair)) ∷ []
    ≡ multiples_of pair
unfolding multiples_of multiple listed
spelled pair b c d eb ec ed = rw (eb, ec, ed) (simp (xor_zero_l, xor_zero_r, xor_assoc))

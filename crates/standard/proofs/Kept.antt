-- Laws of the bits that masking keeps: of `keep_high` by shifts, of the two modes by where the byte stands.
use mathlib.Core.Path.{◌≡◌, refl, sym, ap, ◌∙◌}
use mathlib.Core.Logic.{⊎_elim}
use Prim.Native.Nat.{ℕ, suc, ◌+◌, ◌-◌, ◌*◌, ◌/◌, ◌%◌, ◌^◌, ◌<◌, ◌≤◌}
use native.Mathlib.Nat.{eq-zero-or-pos, mod-eq_of_lt, mul_assoc}
use native.Mathlib.Omega.{arith}
use lib.Bits.{xor_shr, shifted_even}
use lib.Dec.{ltb, eqb}
use lib.Pow.{pow-add, shl-shr, shr-shr, split}
use borrow.Author.Tests.{lt-ltb, le-ltb, eq-eqb, ne_eqb}
use Rattle.std.specs.Prelude.{if◌then◌else◌}
use Rattle.standard.specs.Notation.{◌⊕◌}
use Rattle.standard.specs.Bits.{bit_of}
use Rattle.standard.specs.Confidentiality.{keep_high, kept_by_crate, kept_by_clean}
use Rattle.standard.proofs.Xor.{xor_assoc}
use Rattle.standard.proofs.Each.{place}

pub keep_all : (byte : ℕ) → keep_high 8 byte ≡ byte
unfolding keep_high
keep_all byte = omega arith

pub keep-none : (byte : ℕ) → byte < 2 ^ 8 → keep_high 0 byte ≡ 0
unfolding keep_high
keep-none byte h = omega arith

pub keep-le : (k byte : ℕ) → keep_high k byte ≤ byte
unfolding keep_high
keep-le k byte = omega (arith, split byte (8 - k))

-- shifted down and up again in a wider number
pub keep-shifted : (w k byte : ℕ) → byte < 2 ^ w → byte / 2 ^ (8 - k) * 2 ^ (8 - k) % 2 ^ w ≡ keep_high k byte
unfolding keep_high
keep-shifted w k byte h = mod-eq_of_lt (omega (arith, keep-le k byte))

-- a bit that is kept, and one that is not
pub kept-bit : (k byte p : ℕ) → p < k → bit_of 8 (keep_high k byte) p ≡ bit_of 8 byte p
unfolding keep_high bit_of
kept-bit k byte p h =
    ap (λ (x : ℕ). x % 2)
    (ap (λ (x : ℕ). byte / 2 ^ (8 - k) * 2 ^ (8 - k) / 2 ^ x) e
    ∙ sym (shr-shr (byte / 2 ^ (8 - k) * 2 ^ (8 - k)) (8 - k) (7 - p - (8 - k)))
    ∙ ap (λ (x : ℕ). x / 2 ^ (7 - p - (8 - k))) (shl-shr (byte / 2 ^ (8 - k)) (8 - k))
    ∙ shr-shr byte (8 - k) (7 - p - (8 - k))
    ∙ ap (λ (x : ℕ). byte / 2 ^ x) (sym e))
  where
    e : 8 - suc p ≡ 8 - k + (7 - p - (8 - k))
    e = omega arith

pub lost-bit : (k byte p : ℕ) → k ≤ p → p < 8 → bit_of 8 (keep_high k byte) p ≡ 0
unfolding keep_high bit_of
lost-bit k byte p h b =
    ap (λ (x : ℕ). x / 2 ^ (8 - suc p) % 2)
    (ap (λ (x : ℕ). high * 2 ^ x) e ∙ ap (λ (x : ℕ). high * x) (pow-add 2 (suc (p - k)) (8 - suc p)) ∙ sym (mul_assoc high (2 ^ suc (p - k)) (2 ^ (8 - suc p))))
    ∙ ap (λ (x : ℕ). x % 2) (shl-shr (high * 2 ^ suc (p - k)) (8 - suc p))
    ∙ shifted_even high (p - k)
  where
    high : ℕ
    high = byte / 2 ^ (8 - k)

    e : 8 - k ≡ suc (p - k) + (8 - suc p)
    e = omega arith

-- masked with m, the k high bits kept, then with m': as if masked with both
pub keep-both : (k byte m m' : ℕ) → keep_high k (keep_high k (byte ⊕ m) ⊕ m') ≡ keep_high k (byte ⊕ (m ⊕ m'))
unfolding keep_high
keep-both k byte m m' =
    ap (λ (x : ℕ). x * 2 ^ (8 - k))
    (xor_shr ((byte ⊕ m) / 2 ^ (8 - k) * 2 ^ (8 - k)) m' (8 - k)
    ∙ ap (λ (x : ℕ). x ⊕ m' / 2 ^ (8 - k)) (shl-shr ((byte ⊕ m) / 2 ^ (8 - k)) (8 - k))
    ∙ sym (xor_shr (byte ⊕ m) m' (8 - k))
    ∙ ap (λ (x : ℕ). x / 2 ^ (8 - k)) (xor_assoc byte m m'))

-- clean mode at a bit length of q bytes and k bits: all of a byte before byte q, k bits of it, and nothing after
pub clean-before : (q k j : ℕ) → j < q → kept_by_clean (q * 8 + k) j ≡ 8
unfolding kept_by_clean
clean-before q k j h = omega arith

pub clean_at : (q k : ℕ) → k ≤ 8 → kept_by_clean (q * 8 + k) q ≡ k
unfolding kept_by_clean
clean_at q k h = omega arith

pub clean_after : (q k j : ℕ) → k ≤ 8 → q < j → kept_by_clean (q * 8 + k) j ≡ 0
unfolding kept_by_clean
clean_after q k j b h = omega arith

clean_is : (q k j : ℕ) → k ≤ 8 → (if ltb q j then 0 else if ltb j q then 8 else k) ≡ kept_by_clean (q * 8 + k) j
clean_is q k j b =
    ⊎_elim (λ h. rw (le-ltb q j (omega arith), lt-ltb j q h) (sym (clean-before q k j h)))
    (λ w. ⊎_elim (λ e. rw (e, le-ltb q q (omega arith)) (sym (clean_at q k b))) (λ h. rw (lt-ltb q j h) (sym (clean_after q k j b h))) w)
    (place j q)

-- crate mode at L keeps what clean mode keeps at this length: a whole byte more where L ends on the edge of a byte
unfoldable pub crate_end : ℕ → ℕ
crate_end L = if eqb (L % 8) 0 then L + 8 else L

pub edge-end : (L : ℕ) → L % 8 ≡ 0 → crate_end L ≡ L + 8
unfolding crate_end
edge-end L e = rw (eq-eqb (L % 8) 0 e) refl

pub inner-end : (L : ℕ) → (L % 8 ≡ 0 → ⊥) → crate_end L ≡ L
unfolding crate_end
inner-end L n = rw (ne_eqb (L % 8) 0 n) refl

pub end-le : (L : ℕ) → L ≤ crate_end L
end-le L =
    ⊎_elim (λ e. rw (edge-end L e) (omega arith)) (λ p. rw (inner-end L (λ e. omega arith)) (omega arith)) (eq-zero-or-pos (L % 8))

pub crate-kept : (L j : ℕ) → kept_by_crate L j ≡ kept_by_clean (crate_end L) j
unfolding kept_by_crate
crate-kept L j =
    ⊎_elim
    (λ e. rw (eq-eqb (L % 8) 0 e, edge-end L e) (clean_is (L / 8) 8 j (omega arith) ∙ ap (λ (x : ℕ). kept_by_clean x j) (omega arith)))
    (λ p. rw (ne_eqb (L % 8) 0 (λ e. omega arith), inner-end L (λ e. omega arith)) (clean_is (L / 8) (L % 8) j (omega arith) ∙ ap (λ (x : ℕ). kept_by_clean x j) (omega arith)))
    (eq-zero-or-pos (L % 8))

-- so the modes keep the same of every byte but that one
pub kept_same : (L j : ℕ) → (L % 8 ≡ 0 → j ≡ L / 8 → ⊥) → kept_by_crate L j ≡ kept_by_clean L j
unfolding kept_by_clean
kept_same L j n =
    crate-kept L j
    ∙ ⊎_elim (λ e. rw (edge-end L e) (omega (arith, n e))) (λ p. rw (inner-end L (λ e. omega arith)) refl) (eq-zero-or-pos (L % 8))

pub kept-stray : (L : ℕ) → L % 8 ≡ 0 → kept_by_crate L (L / 8) ≡ 8
unfolding kept_by_clean
kept-stray L e = crate-kept L (L / 8) ∙ rw (edge-end L e) (omega arith)

-- The IVs of EEA3 and of EIA3 keep a COUNT of 32 bits, five bits of a bearer and one of a direction, and which of the two they are unless both
-- directions are 0; by their bytes.
use mathlib.Core.List.{List, [], ◌∷◌, ◌++◌}
use mathlib.Core.Path.{◌≡◌, refl, sym, ap, ◌∙◌}
use Prim.Native.Nat.{ℕ, ◌+◌, ◌*◌, ◌%◌, ◌^◌, ◌<◌}
use native.Mathlib.Nat.{div-one}
use native.Mathlib.Omega.{arith}
use lib.Bits.{xor_zero_r}
use lib.Dec.{lit<}
use Rattle.standard.specs.Bits.{byte_of, bytes_of}
use Rattle.standard.specs.Confidentiality.{IV-EEA3}
use Rattle.standard.specs.Integrity.{IV-EIA3}
use Rattle.standard.specs.Notation.{◌⟨◌⟩, ◌⊕◌}
use Rattle.standard.proofs.Parts.{OfBytes, parted, same_word}
use Rattle.zuc_loading.proofs.Loaded.{IV-EEA3-bytes}

-- EEA3's is sixteen bytes
pub EEA3-bytes : (count bearer direction : ℕ) → OfBytes 16 (IV-EEA3 count bearer direction)
unfolding IV-EEA3
EEA3-bytes count bearer direction = record { long = refl; small = IV-EEA3-bytes count bearer direction }

-- both start with the bytes of COUNT
count_same : (c c' : ℕ) (l l' : List ℕ) → c < 2 ^ 32 → c' < 2 ^ 32 → bytes_of c ++ l ≡ bytes_of c' ++ l' → c ≡ c'
unfolding byte_of
count_same c c' l l' p q e =
    same_word c c' p q (at 0) (at 1) (at 2) (sym (ap (λ (n : ℕ). n % 2 ^ 8) (div-one c)) ∙ at 3 ∙ ap (λ (n : ℕ). n % 2 ^ 8) (div-one c'))
  where
    at : (i : ℕ) → (bytes_of c ++ l) ⟨ i ⟩ ≡ (bytes_of c' ++ l') ⟨ i ⟩
    at i = ap (λ (m : List ℕ). m ⟨ i ⟩) e

low : (d : ℕ) → d % 2 * 2 ^ 2 < 2 ^ 3
low d = omega arith

module _ (c c' b b' d d' : ℕ) (p : c < 2 ^ 32) (p' : c' < 2 ^ 32) where
  pub EEA3-keeps : IV-EEA3 c b d ≡ IV-EEA3 c' b' d' → (c ≡ c') × (b % 2 ^ 5 ≡ b' % 2 ^ 5) × (d % 2 ≡ d' % 2)
  unfolding IV-EEA3
  EEA3-keeps e =
      let f = parted 3 {a = b % 2 ^ 5} {c = b' % 2 ^ 5} (low d) (low d') (ap (λ (m : List ℕ). m ⟨ 4 ⟩) e) in
      (count_same c c' _ _ p p' e, f.0, omega (arith, f.1))

  pub EIA3-keeps : IV-EIA3 c b d ≡ IV-EIA3 c' b' d' → (c ≡ c') × (b % 2 ^ 5 ≡ b' % 2 ^ 5) × (d % 2 ≡ d' % 2)
  unfolding IV-EIA3
  EIA3-keeps e =
      let f : b % 2 ^ 5 * 2 ^ 3 ≡ b' % 2 ^ 5 * 2 ^ 3 = ap (λ (m : List ℕ). m ⟨ 4 ⟩) e in
      let g : d % 2 * 2 ^ 7 ≡ d' % 2 * 2 ^ 7 = ap (λ (m : List ℕ). m ⟨ 14 ⟩) e in
      (count_same c c' _ _ p p' e, omega arith, omega arith)

  -- one of EEA3 and one of EIA3
  pub shared-only : IV-EEA3 c b d ≡ IV-EIA3 c' b' d' → (c ≡ c') × (b % 2 ^ 5 ≡ b' % 2 ^ 5) × (d % 2 ≡ 0) × (d' % 2 ≡ 0)
  unfolding IV-EEA3 IV-EIA3
  shared-only e =
      let f = parted 3 {a = b % 2 ^ 5} {c = b' % 2 ^ 5} {d = 0} (low d) (lit< tt) (ap (λ (m : List ℕ). m ⟨ 4 ⟩) e ∙ omega arith) in
      let g : 0 ≡ d' % 2 * 2 ^ 7 = ap (λ (m : List ℕ). m ⟨ 14 ⟩) e in
      (count_same c c' _ _ p p' e, f.0, omega (arith, f.1), omega arith)

pub shared : (c b d d' : ℕ) → d % 2 ≡ 0 → d' % 2 ≡ 0 → IV-EEA3 c b d ≡ IV-EIA3 c b d'
unfolding IV-EEA3 IV-EIA3
shared c b d d' e e' =
    let fifth : b % 2 ^ 5 * 2 ^ 3 + d % 2 * 2 ^ 2 ≡ b % 2 ^ 5 * 2 ^ 3 = omega (arith, e) in
    let none : d' % 2 * 2 ^ 7 ≡ 0 = omega (arith, e') in
    let ninth : byte_of c 0 ⊕ d' % 2 * 2 ^ 7 ≡ byte_of c 0 = ap (λ (x : ℕ). byte_of c 0 ⊕ x) none ∙ xor_zero_r (byte_of c 0) in
    λ i. bytes_of c ++ (fifth i ∷ 0 ∷ 0 ∷ 0 ∷ sym ninth i ∷ byte_of c 1 ∷ byte_of c 2 ∷ byte_of c 3 ∷ fifth i ∷ 0 ∷ sym none i ∷ 0 ∷ [])

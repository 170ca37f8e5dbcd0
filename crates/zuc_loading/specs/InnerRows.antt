-- What the loads ask of their constants: entries that fit between the key's bits and the IV's and are not zero, so that no cell is. And the parts of the ZUC-256 load.
use Rattle.std.specs.Prelude.{List, [], ◌∷◌, ◌++◌, ℕ, ◌%◌, ◌*◌, ◌/◌, ◌^◌, ◌<◌, get_or}
use Rattle.standard.specs.Bits.{M, window}
use Rattle.standard.specs.Loading.{IV₂₅₆}
use Rattle.standard.specs.Notation.{◌‖₇◌, ◌‖₈◌, ◌⟨◌⟩, ◌∣◌, listed}

-- each of sixteen entries is nonzero and below 2^bits
pub record Row (bits : ℕ) (row : List ℕ) : Type 0 where
  pub some : (i : ℕ) → i < 16 → 0 < get_or row i 0
  pub fits : (i : ℕ) → i < 16 → get_or row i 0 < 2 ^ bits

-- the four 6-bit numbers of three bytes, highest bits first
abbrev pub sextets : List ℕ → List ℕ
sextets bytes = listed (λ j. window (M bytes) (j * 6) 6) 0 4

-- the bits beside d0..d15, by key and IV: none, IV17..IV24, or a half of K31
abbrev pub besides : List ℕ → List ℕ → List ℕ
besides k iv = 0 ∷ 0 ∷ 0 ∷ 0 ∷ 0 ∷ (listed (IV₂₅₆ iv) 17 8 ++ (0 ∷ k ⟨ 31 ⟩ / 2 ^ 4 ∷ k ⟨ 31 ⟩ % 2 ^ 4 ∷ []))

-- the places of a loaded cell's bytes: the one before its constant, and the two behind it
abbrev pub Places : Type 0
Places = ℕ × ℕ × ℕ

abbrev pub place : List Places → ℕ → Places
place places i = get_or places i (0, 0, 0)

-- each place is that of one of 55 bytes
pub record Inside (places : List Places) : Type 0 where
  pub first : (i : ℕ) → (place places i).0 < 55
  pub third : (i : ℕ) → (place places i).1 < 55
  pub last : (i : ℕ) → (place places i).2 < 55

-- the cells of constants d with bits beside them, each between the bytes of x at its places
unfoldable pub joined : List Places → List ℕ → List ℕ → List ℕ → List ℕ
joined places d bits x =
    listed (λ i. x ⟨ (place places i).0 ⟩ ‖₇ (d ⟨ i ⟩ ∣ bits ⟨ i ⟩) ‖₈ x ⟨ (place places i).1 ⟩ ‖₈ x ⟨ (place places i).2 ⟩) 0 16

-- Request 2026-11: what a start is given, and the state that is loaded from it.
use Rattle.std.specs.Prelude.{List, ◌⊎◌, ◌≡◌, ℕ}
use Rattle.standard.specs.Confidentiality.{IV-EEA3}
use Rattle.standard.specs.Generator.{State}
use Rattle.standard.specs.Integrity.{IV-EIA3}
use Rattle.standard.specs.Loading.{d-keystream, d-tag₁₂₈, d-tag₃₂, d-tag₆₄, load₁₂₈, load₂₅₆}
use Rattle.standard.proofs.Parts.{OfBytes}

-- ZUC-128 (and so EEA3 and EIA3) is given a key and an IV, ZUC-256 a row of constants d, too
pub data Given : Type 0 where
  zuc128 : (key iv : List ℕ) → Given
  zuc256 : (d key iv : List ℕ) → Given

-- by EEA3 and by EIA3: a key, and their IV of COUNT, bearer and direction
abbrev pub of_EEA3 : (count bearer direction : ℕ) (key : List ℕ) → Given
of_EEA3 count bearer direction key = zuc128 key (IV-EEA3 count bearer direction)

abbrev pub of_EIA3 : (count bearer direction : ℕ) (key : List ℕ) → Given
of_EIA3 count bearer direction key = zuc128 key (IV-EIA3 count bearer direction)

-- the state that is loaded from it
abbrev pub load_of : Given → State
load_of (zuc128 key iv) = load₁₂₈ key iv
load_of (zuc256 d key iv) = load₂₅₆ d key iv

-- one of the four rows of ZUC-256
abbrev pub IsRow : List ℕ → Type 0
IsRow d = (d ≡ d-keystream) ⊎ ((d ≡ d-tag₃₂) ⊎ ((d ≡ d-tag₆₄) ⊎ (d ≡ d-tag₁₂₈)))

-- key and IV are bytes, of the right lengths
abbrev pub Proper : Given → Type 0
Proper (zuc128 key iv) = OfBytes 16 key × OfBytes 16 iv
Proper (zuc256 d key iv) = IsRow d × OfBytes 32 key × OfBytes 23 iv

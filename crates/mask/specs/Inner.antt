-- Inner functions only: what they clear, how far a mask reaches in either mode, and what it draws from.
use Rattle.std.specs.Prelude.{Bool, ◌≡◌, ℕ, ◌+◌, ◌*◌, ◌/◌, ◌<◌, ◌≤◌, ltb, if◌then◌else◌}
use Rattle.standard.specs.Confidentiality.{keep_high, kept_by_clean, words_to_mask_clean, words_to_mask_crate}
use Rattle.standard.specs.Generator.{State, started}
use Rattle.standard.proofs.Cells.{Cells}
use Rattle.standard.proofs.Kept.{crate_end}
use Rattle.zuc.specs.Reading.{cells_from, held_of}
use Rattle.zuc.specs.declared.Zuc.{Zuc}
use Rattle.mask.specs.declared.Reach.{Reach}

-- a byte at a place, zeroed at and past another
abbrev pub zeroed : ℕ → ℕ → ℕ → ℕ
zeroed from j byte = if ltb j from then byte else 0

-- a byte at a place, with every bit at or past a bit length zeroed
abbrev pub cleared : ℕ → ℕ → ℕ → ℕ
cleared L j byte = keep_high (kept_by_clean L j) byte

-- the bits that a mask of L bits keeps: those of the bytes before byte floor(L/8), and so many of that byte
abbrev pub end_of : ℕ → Reach → ℕ
end_of L r = L / 8 * 8 + r.kept

-- of n bytes enough are masked, by enough words, for the bits that are kept; and no words are drawn beyond the next
pub record Enough (n L : ℕ) (r : Reach) : Type 0 where
  pub kept : r.kept ≤ 8
  pub inside : r.to ≤ n
  pub reached : r.to < n → end_of L r ≤ r.to * 8
  pub masking : r.to ≤ r.drawn * 4
  pub drawn : r.drawn ≤ r.to / 4 + 1

-- how far a mode's mask of L bits reaches into n bytes
abbrev pub mode_end : Bool → ℕ → ℕ
mode_end clean L = if clean then L else crate_end L

pub record Reaches (clean : Bool) (L n : ℕ) (r : Reach) : Type 0 where
  pub end : end_of L r ≡ mode_end clean L
  pub words : r.drawn ≡ (if clean then words_to_mask_clean L else words_to_mask_crate n)
  pub enough : L ≤ n * 8 → Enough n L r

-- The last window of EIA3, z_(32·(L-1)) with L = ⌈(LENGTH + 64)/32⌉, is keystream word number ⌈LENGTH/32⌉ + 1 (document 01, "Tags"): a window of one whole cell.
use mathlib.Core.Path.{◌≡◌, ap, ◌∙◌}
use Prim.Native.Nat.{ℕ, ◌+◌, ◌-◌, ◌*◌, ◌^◌, ◌<◌}
use native.Mathlib.Omega.{arith}
use Rattle.standard.specs.Notation.{ceil}
use Rattle.standard.specs.Bits.{z, window}
use Rattle.standard.proofs.Window.{window-cell}

pub window-word : (words : ℕ → ℕ) (i : ℕ) → words i < 2 ^ 32 → window (z words) (i * 32) 32 ≡ words i
unfolding z
window-word words i h = window-cell 32 (omega arith) words i h

pub extra-word : (words : ℕ → ℕ) → ((i : ℕ) → words i < 2 ^ 32) → (LENGTH : ℕ)
    → window (z words) (32 * (ceil (LENGTH + 64) 32 - 1)) 32 ≡ words (ceil LENGTH 32 + 1)
extra-word words lt LENGTH =
    ap (λ (x : ℕ). window (z words) x 32) place ∙ window-word words (ceil LENGTH 32 + 1) (lt (ceil LENGTH 32 + 1))
  where
    place : 32 * (ceil (LENGTH + 64) 32 - 1) ≡ (ceil LENGTH 32 + 1) * 32
    place = omega arith

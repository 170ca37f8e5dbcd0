-- The sixteen turns of one state are one state, and nothing else is alike to it; by the laws of cells that stay put.
use mathlib.Core.Bool.{Bool, true, false, ◌&&◌}
use mathlib.Core.Path.{◌≡◌, refl, sym, ap, ap₂, ◌∙◌}
use Prim.Native.Nat.{ℕ, ◌+◌, ◌%◌, ◌<◌, ◌≤◌}
use lib.ListN.{length}
use borrow.Author.Tests.{le-ltb, lt-ltb}
use Rattle.standard.specs.Generator.{State}
use Rattle.standard.specs.Notation.{◌⟨◌⟩}
use Rattle.standard.specs.States.{Held, held_formed, well_formed}
use Rattle.zuc.specs.Reading.{counted_of, held_of}
use Rattle.zuc.specs.declared.Zuc.{Zuc}
use Rattle.zuc.proofs.Turning.{cell_at, cells-back, length-places, places-back}
use Rattle.alike.specs.Alike.{Alike, AlikeGenerator, turned}

-- a turn means the state that was turned
pub turn-means : (i : ℕ) (σ : State) → (held_of (turned i σ)).meaning ≡ σ
turn-means i σ = λ j. record { cells = cells-back i σ.cells j; R₁ = σ.R₁; R₂ = σ.R₂ }

-- its cells are as many, and of sixteen cell j stands at place (i + j) mod 16
module _ (i : ℕ) (σ : State) where
  pub turn-long : length (turned i σ).s ≡ length σ.cells
  turn-long = length-places i σ.cells

  pub turn-cell : length σ.cells ≡ 16 → i < 16 → (j : ℕ) → j < 16 → (turned i σ).s ⟨ (i + j) % 16 ⟩ ≡ σ.cells ⟨ j ⟩
  turn-cell full h j l = sym (cell_at (turned i σ).s i (turn-long ∙ full) h j l) ∙ ap (λ cells. cells ⟨ j ⟩) (cells-back i σ.cells)

-- ALL SIXTEEN TURNS ARE ONE STATE
pub turns-alike : (σ : State) → length σ.cells ≡ 16 → (i j : ℕ) → i < 16 → j < 16 → Alike (held_of (turned i σ)) (held_of (turned j σ))
turns-alike σ full i j h l =
    record {
      meaning = turn-means i σ ∙ sym (turn-means j σ);
      full = ap length (cells-back i σ.cells) ∙ full;
      start = h;
      start' = l;
    }

-- with any count of words drawn, as the calls take them
pub generator-turns-alike : (σ : State) → length σ.cells ≡ 16 → (count i j : ℕ) → i < 16 → j < 16
    → AlikeGenerator (counted_of (record { z = turned i σ; count = count })) (counted_of (record { z = turned j σ; count = count }))
generator-turns-alike σ full count i j h l = record { held = turns-alike σ full i j h l; count = refl }

-- none of them is refused, where the state is well formed
pub turns-formed : (σ : State) → well_formed σ.cells ≡ true → (i : ℕ) → i < 16 → held_formed (held_of (turned i σ)) ≡ true
unfolding held_formed
turns-formed σ ok i h = ap₂ ◌&&◌ (ap well_formed (cells-back i σ.cells) ∙ ok) (lt-ltb i 16 h)

-- every struct is a turn of what it means
pub is-turn : (z : Zuc) → z ≡ turned z.start (held_of z).meaning
is-turn z = λ i. record { s = sym (places-back z.start z.s) i; r1 = z.r1; r2 = z.r2; start = z.start }

-- and those that are alike to it are its turns
pub alike-is-turn : (z y : Zuc) → Alike (held_of z) (held_of y) → y ≡ turned y.start (held_of z).meaning
alike-is-turn z y e = is-turn y ∙ ap (turned y.start) (sym e.meaning)

-- past them there is none: whatever it means, it is malformed
and_none : (b : Bool) → b && false ≡ false
and_none true = refl
and_none false = refl

pub no-more-turns : (h : Held) → 16 ≤ h.start → held_formed h ≡ false
unfolding held_formed
no-more-turns h l = ap (λ b. well_formed h.meaning.cells && b) (le-ltb h.start 16 l) ∙ and_none (well_formed h.meaning.cells)

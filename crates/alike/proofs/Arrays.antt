-- Arrays of alike states read alike again. A generator's array gives back what was put in; a tag's array gives back the low 32 bits of each
-- cell, wherever it stands, and all else of it is the same in both. By the bits of windows, and place by place.
use mathlib.Core.List.{List, [], ◌∷◌, ◌++◌}
use mathlib.Core.Path.{◌≡◌, refl, sym, ap, ap₂, ◌∙◌, subst₂}
use Prim.Native.Nat.{ℕ, ◌+◌, ◌*◌, ◌/◌, ◌%◌, ◌<◌}
use native.Mathlib.Nat.{mod-lt}
use native.Mathlib.Omega.{arith}
use lib.Dec.{lit<}
use lib.ListN.{get_or-append, drop, length, take}
use lib.Seq.{get_or-append-add, get_or_at, get_or-take, length-take-le}
use Rattle.standard.specs.Bits.{bit_at, bit_of, window}
use Rattle.standard.specs.Generator.{State}
use Rattle.standard.specs.Notation.{◌⟨◌⟩, listed}
use Rattle.standard.specs.States.{Counted, Held, Stored}
use Rattle.standard.proofs.Listed.{get_or-listed, is-listed}
use Rattle.standard.proofs.Window.{window-ext}
use Rattle.zuc.specs.Reading.{cells_from, places_of}
use Rattle.zuc.proofs.Turning.{cell_at, length_from}
use Rattle.capi_arrays.specs.Arrays.{array_of, held_from, held_in, placed, regrouped, stored_in, tag_array_of}
use Rattle.capi_arrays.proofs.Packing.{array-held}
use Rattle.capi_arrays.proofs.Regrouped.{bits-same, regrouped-length}
use Rattle.alike.specs.Alike.{AlikeGenerator, AlikeTag, turned}
use Rattle.alike.proofs.Turned.{turn-cell, turn-long}

-- a generator's array
pub alike-array : {g k : Counted Held} → AlikeGenerator g k → AlikeGenerator (held_in (array_of g)) (held_in (array_of k))
alike-array {g} {k} e =
    let full = ap (λ (σ : State). length σ.cells) (sym e.held.meaning) ∙ e.held.full in
    subst₂ AlikeGenerator (sym (array-held g e.held.full)) (sym (array-held k full)) e

-- so all sixteen arrays of one state are one state
abbrev counted : State → ℕ → ℕ → Counted Held
counted σ count i = record { held = record { meaning = σ; start = i }; count = count }

pub array-turns-alike : (σ : State) → length σ.cells ≡ 16 → (count i j : ℕ) → i < 16 → j < 16
    → AlikeGenerator (held_in (array_of (counted σ count i))) (held_in (array_of (counted σ count j)))
array-turns-alike σ full count i j h l =
    alike-array {g = counted σ count i} {k = counted σ count j} (record { held = record { meaning = refl; full = full; start = h; start' = l }; count = refl })

-- numbers of 32 bits, two to a word and back, are those numbers with the low bits that they have room for
low : ℕ → ℕ
low x = window (bit_of 32 x) 0 32

there_and_back : List ℕ → List ℕ
there_and_back run = regrouped 64 32 18 (regrouped 32 64 9 run)

module _ (run : List ℕ) where
  halves : ℕ → ℕ
  halves j = window (bit_at 32 (λ i. run ⟨ i ⟩)) (j * 64) 64

  bits : (p : ℕ) → p < 9 * 64 → bit_at 64 (λ i. listed halves 0 9 ⟨ i ⟩) p ≡ bit_at 32 (λ i. run ⟨ i ⟩) p
  unfolding halves
  bits = bits-same 32 64 9 (lit< tt) (λ i. run ⟨ i ⟩)

  entry : (k : ℕ) → k < 18 → there_and_back run ⟨ k ⟩ ≡ low (run ⟨ k ⟩)
  unfolding there_and_back regrouped low bit_at halves
  entry k h =
      get_or-listed (λ j. window (bit_at 64 (λ i. listed halves 0 9 ⟨ i ⟩)) (j * 32) 32) 0 18 k h
      ∙ window-ext (bit_at 64 (λ i. listed halves 0 9 ⟨ i ⟩)) (bit_of 32 (run ⟨ k ⟩)) ((0 + k) * 32) 0 32
      (λ j l.
      let at : ((0 + k) * 32 + j) / 32 ≡ k = omega arith in
      let on : ((0 + k) * 32 + j) % 32 ≡ 0 + j = omega arith in
      bits ((0 + k) * 32 + j) (omega arith) ∙ ap₂ (λ (x y : ℕ). bit_of 32 (run ⟨ x ⟩) y) at on)

-- what is read there, by what is meant alone
lowered : State → State
lowered σ = record { cells = listed (λ j. low (σ.cells ⟨ j ⟩)) 0 16; R₁ = low σ.R₁; R₂ = low σ.R₂ }

module _ (h : Held) (full : length h.meaning.cells ≡ 16) (l : h.start < 16) where
  front : (k : ℕ) → k < 16 → placed h ⟨ k ⟩ ≡ (turned h.start h.meaning).s ⟨ k ⟩
  unfolding placed
  front k b = get_or-append (turned h.start h.meaning).s _ 0 k (omega (arith, turn-long h.start h.meaning, full))

  sixteen : length (take 16 (there_and_back (placed h))) ≡ 16
  unfolding there_and_back
  sixteen = length-take-le 16 (there_and_back (placed h)) (omega (arith, regrouped-length 64 32 18 (regrouped 32 64 9 (placed h))))

  cells-read : cells_from h.start (take 16 (there_and_back (placed h))) ≡ (lowered h.meaning).cells
  unfolding lowered
  cells-read =
      is-listed (λ j. low (h.meaning.cells ⟨ j ⟩)) (cells_from h.start (take 16 (there_and_back (placed h)))) 16
      (length_from h.start (take 16 (there_and_back (placed h))) ∙ sixteen)
      (λ j b.
      let place : (h.start + j) % 16 < 16 = mod-lt (h.start + j) (lit< tt) in
      cell_at (take 16 (there_and_back (placed h))) h.start sixteen l j b
      ∙ get_or-take 16 (there_and_back (placed h)) ((h.start + j) % 16) 0 place
      ∙ entry (placed h) ((h.start + j) % 16) (omega arith)
      ∙ ap low (front ((h.start + j) % 16) place ∙ turn-cell h.start h.meaning full l j b))

  meaning-read : (held_from h.start (there_and_back (placed h))).meaning ≡ lowered h.meaning
  unfolding held_from lowered placed
  meaning-read =
      let σ = h.meaning in
      let places : List ℕ = places_of h.start σ.cells in
      let long : length places ≡ 16 = turn-long h.start σ ∙ full in
      let second : placed h ⟨ 17 ⟩ ≡ σ.R₂ =
      ap (λ (n : ℕ). placed h ⟨ n + 1 ⟩) (sym long) ∙ get_or-append-add places (σ.R₁ ∷ σ.R₂ ∷ []) 1 0 in
      λ i. record {
        cells = cells-read i;
        R₁ = (entry (placed h) 16 (lit< tt) ∙ ap low (get_or_at places σ.R₁ (σ.R₂ ∷ []) 0 16 long)) i;
        R₂ = (entry (placed h) 17 (lit< tt) ∙ ap low second) i;
      }

-- what stands behind the generator, its index and the count
abbrev behind : Stored → List ℕ
behind s = s.key ++ (s.tag ++ (regrouped 8 64 2 s.rem ++ (s.cnt ∷ s.width ∷ [])))

-- so the generators of two such arrays are alike, and the rest is the same
module _ {s t : Counted Stored} (e : AlikeTag s t) where
  full' : length t.held.generator.meaning.cells ≡ 16
  full' = ap (λ (σ : State). length σ.cells) (sym e.held.generator.meaning) ∙ e.held.generator.full

  same-behind : behind s.held ≡ behind t.held
  same-behind = λ i. e.held.key i ++ (e.held.tag i ++ (regrouped 8 64 2 (e.held.rem i) ++ (e.held.cnt i ∷ e.held.width i ∷ [])))

  pub alike-tag-array : AlikeTag (stored_in (tag_array_of s)) (stored_in (tag_array_of t))
  unfolding stored_in tag_array_of held_from there_and_back regrouped listed lowered
  alike-tag-array =
      let g = e.held.generator in
      let read = meaning-read s.held.generator g.full g.start in
      record {
        held =
            record {
              generator =
                  record {
                    meaning = read ∙ ap lowered g.meaning ∙ sym (meaning-read t.held.generator full' g.start');
                    full = ap (λ (σ : State). length σ.cells) read;
                    start = g.start;
                    start' = g.start';
                  };
              key = ap (take 4) same-behind;
              tag = λ i. take 2 (drop 4 (same-behind i));
              rem = λ i. regrouped 64 8 16 (take 2 (drop 6 (same-behind i)));
              cnt = λ i. same-behind i ⟨ 8 ⟩;
              width = λ i. same-behind i ⟨ 9 ⟩;
            };
        count = e.count;
      }

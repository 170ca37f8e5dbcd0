-- What stands where in the arrays of numbers that a caller lends.
use Rattle.std.specs.Prelude.{List, [], ◌∷◌, ◌++◌, ℕ, ◌*◌, drop, take}
use Rattle.standard.specs.States.{Counted, Held, Stored}
use Rattle.standard.specs.Bits.{bit_at, window}
use Rattle.standard.specs.Notation.{◌⟨◌⟩, listed}
use Rattle.zuc.specs.Reading.{cells_from, places_of}

-- the sixteen places and the registers of a generator, and what is held where they are read from a start index. (Request 2026-08: cell j
-- of the standard stands at place (start + j) mod 16.)
unfoldable pub placed : Held → List ℕ
placed h = places_of h.start h.meaning.cells ++ (h.meaning.R₁ ∷ h.meaning.R₂ ∷ [])

unfoldable pub held_from : ℕ → List ℕ → Held
held_from start a =
    record { meaning = record { cells = cells_from start (take 16 a); R₁ = a ⟨ 16 ⟩; R₂ = a ⟨ 17 ⟩ }; start = start }

-- a generator, 20 words of 32 bits: the sixteen places, R1, R2, the start index, the count of words drawn
unfoldable pub array_of : Counted Held → List ℕ
array_of g = placed g.held ++ (g.held.start ∷ g.count ∷ [])

unfoldable pub held_in : List ℕ → Counted Held
held_in a = record { held = held_from (a ⟨ 18 ⟩) a; count = a ⟨ 19 ⟩ }

-- the bits of a run of numbers of m bits, highest first, as so many numbers of n bits
unfoldable pub regrouped : ℕ → ℕ → ℕ → List ℕ → List ℕ
regrouped m n count run = listed (λ j. window (bit_at m (λ i. run ⟨ i ⟩)) (j * n) n) 0 count

-- a tag state, 21 words of 64 bits: the generator's places and registers, two words to one; its start index; its count of words drawn;
-- the key pair; the tag; the bytes that wait, eight to a word; their count; the width
unfoldable pub tag_array_of : Counted Stored → List ℕ
tag_array_of c =
    let s = c.held in
    regrouped 32 64 9 (placed s.generator)
    ++ (s.generator.start ∷ c.count ∷ s.key ++ (s.tag ++ (regrouped 8 64 2 s.rem ++ (s.cnt ∷ s.width ∷ []))))

unfoldable pub stored_in : List ℕ → Counted Stored
stored_in a =
    record {
      held =
          record {
            generator = held_from (a ⟨ 9 ⟩) (regrouped 64 32 18 (take 9 a));
            key = take 4 (drop 11 a);
            tag = take 2 (drop 15 a);
            rem = regrouped 64 8 16 (take 2 (drop 17 a));
            cnt = a ⟨ 19 ⟩;
            width = a ⟨ 20 ⟩;
          };
      count = a ⟨ 10 ⟩;
    }

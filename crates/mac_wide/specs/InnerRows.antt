-- Tag sums by tables and registers of 64-bit words: what the functions of a turn promise.
use Rattle.std.specs.Prelude.{List, [], ◌∷◌, ℕ, ◌+◌, ◌-◌, ◌*◌, ◌/◌, ◌%◌, ◌^◌}
use Rattle.standard.specs.Notation.{◌⊕◌, ◌⟨◌⟩, listed}
use Rattle.standard.specs.Bits.{bit_at, bit_of}
use Rattle.standard.specs.Integrity.{T}

-- a key's words as one stream of bits, zeros after them
abbrev pub stream_of : List ℕ → ℕ → ℕ
stream_of key = bit_at 64 (λ j. key ⟨ j ⟩)

-- a message four bits on: the high four bits of its bytes are the low four of the message's
abbrev pub four_on : (ℕ → ℕ) → ℕ → ℕ
four_on m i = m (4 + i)

-- x moved up by k bits, with the top bits of y below it
abbrev pub raised : ℕ → ℕ → ℕ → ℕ
raised k x y = x * 2 ^ k % 2 ^ 64 ⊕ y / 2 ^ (64 - k)

-- words, each with its word of a register that is moved up by k bits
abbrev pub over : ℕ → List ℕ → List ℕ → List ℕ
over k [] x = []
over k (v ∷ vs) [] = v ∷ vs
over k (v ∷ vs) (x ∷ xs) = (v ⊕ raised k x (xs ⟨ 0 ⟩)) ∷ over k vs xs

-- the windows of 64 bits over two words, at the set bits of n; and those of each n of four bits
unfoldable pub multiple : ℕ → ℕ → ℕ → ℕ
multiple x y n = T 64 (stream_of (x ∷ y ∷ [])) 0 (bit_of 4 n) 4

unfoldable pub multiples_of : ℕ → ℕ → List ℕ
multiples_of x y = listed (multiple x y) 0 16

-- Tag sums of 32 bits by look-ups: sixteen multiples of a key pair, and one look-up for each four message bits.
use Rattle.std.specs.Prelude.{List, ℕ, zero, suc, ◌+◌, ◌-◌, ◌*◌, ◌/◌, ◌%◌, ◌^◌, get_or}
use Rattle.standard.specs.Notation.{◌⊕◌, listed}
use Rattle.standard.specs.Bits.{bit_of}
use Rattle.standard.specs.Integrity.{T, where_set}

-- the tag sum of t message bits over a key pair of 2t bits
unfoldable pub summed : ℕ → ℕ → ℕ → ℕ
summed t pair bits = T t (bit_of (t + t) pair) 0 (bit_of t bits) t

-- the pair moved down by 3, 2, 1 and 0 bits, at the set bits of n
unfoldable pub multiple : ℕ → ℕ → ℕ
multiple pair n =
    where_set (n / 8 % 2) (pair / 2 ^ 3) ⊕ where_set (n / 4 % 2) (pair / 2 ^ 2) ⊕ where_set (n / 2 % 2) (pair / 2) ⊕ where_set (n % 2) pair

unfoldable pub multiples_of : ℕ → List ℕ
multiples_of pair = listed (multiple pair) 0 16

-- the first k groups of four message bits, highest first, each looked up and moved to its place
unfoldable pub looked_up : List ℕ → ℕ → ℕ → ℕ
looked_up table bits zero = 0
looked_up table bits (suc k) = looked_up table bits k ⊕ get_or table (bits / 2 ^ (28 - 4 * k) % 16) 0 / 2 ^ (29 - 4 * k) % 2 ^ 32

-- the two groups of a byte that has `at` message bits before it
unfoldable pub byte_looked_up : List ℕ → ℕ → ℕ → ℕ
byte_looked_up table b at = get_or table (b / 16) 0 / 2 ^ (29 - at) % 2 ^ 32 ⊕ get_or table (b % 16) 0 / 2 ^ (25 - at) % 2 ^ 32

-- The library's bytes of a word are the standard's.
use mathlib.Core.List.{[], ◌∷◌}
use mathlib.Core.Path.{◌≡◌}
use native.Mathlib.Omega.{arith}
use Prim.Native.Nat.{ℕ, ◌/◌, ◌%◌, ◌^◌}
use Rattle.std.specs.Int.{to_be_bytes, w32}
use Rattle.standard.specs.Bits.{byte_of, bytes_of}

pub be-bytes : (w : ℕ) → to_be_bytes w32 w ≡ bytes_of w
unfolding byte_of
be-bytes w =
    let last : w % 256 ≡ w / 2 ^ 0 % 2 ^ 8 = omega arith in
    λ i. byte_of w 0 ∷ byte_of w 1 ∷ byte_of w 2 ∷ last i ∷ []

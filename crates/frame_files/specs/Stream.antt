-- Frames put end to end (requests 2026-01 and 2026-14).
use Rattle.std.specs.Prelude.{◌≡◌, List, ℕ, ◌+◌, ◌≤◌, length, max, take}
use Rattle.standard.specs.Frame.{beside_bytes, two_at}

-- THE END of the first frame of a stream, by its own length field. Where that says less than a frame has, the 17 bytes that a reader then
-- refuses by 7
abbrev pub frame_end : List ℕ → ℕ
frame_end stream = max beside_bytes (two_at stream 1 + 3)

-- the first n of a list's elements are n of them
abbrev pub IsPrefixLen : ℕ → List ℕ → Type 0
IsPrefixLen n xs = (n ≤ length xs) × (n ≡ length (take n xs))

-- Whole blocks of a message taken in: what each way of doing so promises.
use Rattle.std.specs.Prelude.{List, ◌≡◌, ℕ, ◌+◌, ◌-◌, ◌*◌, ◌<◌, ◌≤◌, drop, length, take}
use Rattle.mac_registers.specs.Stored.{packed, tagging_of}
use Rattle.standard.specs.States.{Stored}
use Rattle.mac_registers.specs.Tagging.{updated}

-- the bytes from i up to a returned place have been taken in: all that make whole blocks; nothing waits
pub record Blocks (s : Stored) (message : List ℕ) (i : ℕ) (r : Stored) (at : ℕ) : Type 0 where
  pub count : ℕ
  pub at-is : at ≡ i + count * s.width
  pub within : at ≤ length message
  pub all : length message < at + s.width
  pub none : r.cnt ≡ 0
  pub held : r ≡ packed s.width (updated (s.width * 8) (tagging_of s) (take (at - i) (drop i message)))

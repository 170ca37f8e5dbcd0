-- No block twice (request 2026-03): which counts a link of a guard's table knows as accepted, and the link that a call makes of it.
-- COUNT is a number of 32 bits, and does not wrap: nothing here is reckoned modulo 2^32.
use Rattle.std.specs.Prelude.{Bool, ◌&&◌, ◌||◌, ℕ, zero, suc, ◌+◌, ◌-◌, ◌/◌, ◌%◌, ◌^◌, max, eqb, leb, ltb, if◌then◌else◌}

-- "64 counts ending there": the counts of a window
abbrev pub window_counts : ℕ
window_counts = 64

-- "links, each holding its highest COUNT and which of the 64 counts ending there were accepted", these as the bits of a number
pub record Link : Type 0 where
  pub highest : ℕ
  pub accepted : ℕ

-- whether bit i of a number is set, the lowest being bit 0; and the number of n bits whose bit i is set where the answer at i is true
unfoldable pub is_set : ℕ → ℕ → Bool
is_set x i = eqb (x / 2 ^ i % 2) 1

unfoldable pub gathered : (ℕ → Bool) → ℕ → ℕ
gathered bit zero = 0
gathered bit (suc n) = gathered bit n + (if bit n then 2 ^ n else 0)

-- THE SET of a link: whether it knows COUNT n as accepted. Bit i stands for COUNT highest - i, if there is such a COUNT. So every two
-- numbers make a link: a bit past bit `highest` stands for nothing, no answer depends on it, and an accepted call leaves none
unfoldable pub knows : Link → ℕ → Bool
knows link n = leb n link.highest && ltb (link.highest - n) window_counts && is_set link.accepted (link.highest - n)

-- the link of a highest COUNT and a set of counts: it holds those of the 64 that end there
unfoldable pub link_over : ℕ → (ℕ → Bool) → Link
link_over highest counts =
    record { highest = highest; accepted = gathered (λ i. leb i highest && counts (highest - i)) window_counts }

-- "highest 0, none accepted"
abbrev pub fresh : Link
fresh = record { highest = 0; accepted = 0 }

-- "A higher COUNT moves the window up; one inside it passes once": an accepted COUNT joins the set
unfoldable pub accepting : Link → ℕ → Link
accepting link COUNT = link_over (max link.highest COUNT) (λ n. eqb n COUNT || knows link n)

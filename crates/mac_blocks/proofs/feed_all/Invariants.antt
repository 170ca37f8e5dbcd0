-- What the loop keeps.
use mathlib.Core.Path.{◌≡◌}
use Prim.Native.Nat.{ℕ, ◌*◌, ◌-◌, ◌/◌, ◌≤◌}
use lib.ListN.{length, take}
use Rattle.standard.specs.Generator.{word_at}
use Rattle.standard.specs.States.{Held, moved}
use Rattle.standard.specs.Notation.{listed}
use Rattle.mac_registers.specs.Stored.{packed, tagging_of}
use Rattle.mac_registers.specs.Inner.{Holds}
use Rattle.mac_registers.specs.Tagging.{updated}
use Rattle.mac_blocks.specs.InnerWhole.{empty_of}
use Rattle.mac_blocks.proofs.feed_all.Given as goal

abbrev pub invariant-loop-i : goal.invariant-loop-i
invariant-loop-i l =
    (l.i ≤ length l.part)
    × ((n : ℕ) × (l.i ≡ n * l.width))
    × ((σ : Held) → Holds (empty_of l.width σ l.initial.fed.key l.initial.fed.tag) → take (length l.part / 4) l.words ≡ listed (word_at σ.meaning) 0 (length l.part / 4)
    → empty_of l.width (moved (l.i / 4) σ) l.fed.key l.fed.tag ≡ packed l.width (updated (l.width * 8) (tagging_of (empty_of l.width σ l.initial.fed.key l.initial.fed.tag)) (take l.i l.part)))

abbrev pub decreases-loop-i : goal.decreases-loop-i
decreases-loop-i l = length l.part - l.i

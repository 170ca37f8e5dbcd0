-- What the parts of an update and of a closing leave.
use Rattle.std.specs.Prelude.{List, ◌≡◌, ℕ, ◌+◌, ◌*◌, ◌≤◌, length, take}
use Rattle.standard.specs.States.{Held}
use Rattle.mac_registers.specs.Inner.{Holds}
use Rattle.mac_registers.specs.Stored.{packed, stored_by, tag_words, tagging_of}
use Rattle.mac_registers.specs.InnerOpen.{Stands, stored_at}
use Rattle.mac_registers.specs.Tagging.{last_tag, updated}
use Rattle.mac_registers.specs.declared.Moved.{Moved}
use Rattle.mac_registers.specs.declared.OnRun.{OnRun}
use Rattle.mac_registers.specs.declared.TagOn.{TagOn}

-- bytes wait behind the others, whatever the generator is read as
pub record Waits {G : Type 0} (s : TagOn G) (bytes : List ℕ) (r : TagOn G) : Type 0 where
  pub same : r.g ≡ s.g
  pub stored : (held : G → Held) → Holds (stored_by held s) → stored_by held r ≡ packed s.width (updated (s.width * 8) (tagging_of (stored_by held s)) bytes)

-- the bytes up to a returned place have been taken in, and nothing waits
pub record Topped (run : List ℕ) (o : TagOn OnRun) (message run' pairs' : List ℕ) (r : Moved) : Type 0 where
  pub within : r.at ≤ length message
  pub none : r.o.cnt ≡ 0
  pub stands : Stands run' pairs' r.o (packed o.width (updated (o.width * 8) (tagging_of (stored_at run o)) (take r.at message)))

-- the tag after the bytes that wait and r bits of what is left, whatever the run stands for
abbrev pub Closes : TagOn OnRun → List ℕ → ℕ → List ℕ → Type 0
Closes o left r tag =
    (run : List ℕ) → Holds (stored_at run o) → tag ≡ tag_words o.width (last_tag (o.width * 8) (tagging_of (stored_at run o)) left (o.cnt * 8 + r))

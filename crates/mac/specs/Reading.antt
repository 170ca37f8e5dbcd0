-- How the structs of tag states are read: what the state holds, and how many words its start has drawn.
use Rattle.std.specs.Prelude.{ℕ}
use Rattle.standard.specs.States.{Counted, Stored}
use Rattle.mac_registers.specs.Stored.{stored_of}
use Rattle.mac_registers.specs.declared.TagOn.{TagOn}
use Rattle.zuc.specs.declared.Zuc.{Zuc}
use Rattle.mac.specs.declared.Mac128.{Mac128}
use Rattle.mac.specs.declared.Mac256.{Mac256}

abbrev pub tagged_of : TagOn Zuc → ℕ → Counted Stored
tagged_of state count = record { held = stored_of state; count = count }

abbrev pub tagged_of-128 : Mac128 → Counted Stored
tagged_of-128 mac = tagged_of mac.state mac.count

abbrev pub tagged_of-256 : Mac256 → Counted Stored
tagged_of-256 mac = tagged_of mac.state mac.count

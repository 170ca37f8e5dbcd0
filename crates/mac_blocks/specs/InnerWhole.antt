-- Whole blocks in bulk: what is promised of the words drawn before they are used, and of the bytes taken at a time.
use Rattle.std.specs.Prelude.{List, ◌≡◌, ℕ, ◌*◌, ◌/◌, length, replicate, take}
use Rattle.standard.specs.Generator.{word_at}
use Rattle.standard.specs.States.{Held, moved}
use Rattle.standard.specs.Notation.{listed}
use Rattle.standard.specs.States.{Stored}
use Rattle.mac_registers.specs.Stored.{packed, tagging_of}
use Rattle.mac_registers.specs.Inner.{Holds}
use Rattle.mac_registers.specs.Tagging.{updated}

-- a struct where nothing waits
abbrev pub empty_of : ℕ → Held → List ℕ → List ℕ → Stored
empty_of width σ key tag = record { generator = σ; key = key; tag = tag; rem = replicate 16 0; cnt = 0; width = width }

-- the key pair and the tag after whole blocks, whatever generator drew the words
abbrev pub fed_by : ℕ → List ℕ → List ℕ → List ℕ → List ℕ → List ℕ → List ℕ → Type 0
fed_by width key tag words part key' tag' =
    (σ : Held) → Holds (empty_of width σ key tag) → take (length part / 4) words ≡ listed (word_at σ.meaning) 0 (length part / 4)
    → empty_of width (moved (length part / 4) σ) key' tag' ≡ packed width (updated (width * 8) (tagging_of (empty_of width σ key tag)) part)

-- Inner functions only: what they ask of a state and of a start of the keystream, and what they do with it.
use Rattle.std.specs.Prelude.{List, [], ◌∷◌, ◌≡◌, ℕ, ◌*◌, ◌≤◌, eqb}
use Rattle.standard.specs.Integrity.{drawn_after-EIA3, drawn_after-ZUC256, drawn_by_tag-ZUC256}
use Rattle.standard.specs.Refusals.{Test, accepted, bits_test, limit_test, tested}
use Rattle.standard.specs.States.{Counted, Stored, limit}
use Rattle.standard.proofs.Held.{Ready}
use Rattle.keystream.specs.Starts.{StartOutcome}
use Rattle.mac_registers.specs.Inner.{Holds}
use Rattle.mac_registers.specs.Stored.{packed, tag_words}
use Rattle.mac_registers.specs.Tagging.{begun-EIA3, begun-ZUC256, closed-ZUC256}
use Rattle.mac.specs.Calls.{Once, Outcome, no_words, refused_once, refused_tag}

-- a tag state that holds a tag in the making, within the limit
abbrev pub Within : Counted Stored → Type 0
Within s = Holds s.held × (s.count ≤ limit)

-- where a start was accepted, its state is well formed
abbrev pub Live : StartOutcome → Type 0
Live o = o.number ≡ accepted → Ready o.state.held

-- its refusal is passed up
abbrev pub passed_up : StartOutcome → Test
passed_up o = record { passes = eqb o.number accepted; number = o.number }

-- a tag state over a started generator
unfoldable pub begun-128 : StartOutcome → Outcome
begun-128 o = tested (passed_up o ∷ []) refused_tag (record { number = accepted; state = record { held = packed 4 (begun-EIA3 o.state.held); count = drawn_after-EIA3 0 } })

unfoldable pub begun-256 : ℕ → StartOutcome → Outcome
begun-256 width o =
    tested (passed_up o ∷ []) refused_tag
    (record { number = accepted; state = record { held = packed width (begun-ZUC256 (width * 8) o.state.held); count = drawn_after-ZUC256 (width * 8) 0 } })

-- a one-shot over a started generator
unfoldable pub once-from-256 : ℕ → StartOutcome → List ℕ → ℕ → Once (List ℕ)
once-from-256 width o message l =
    tested (passed_up o ∷ bits_test l message ∷ limit_test 0 (drawn_by_tag-ZUC256 (width * 8) l) ∷ []) (refused_once no_words)
    (record { number = accepted; tag = tag_words width (closed-ZUC256 (width * 8) (begun-ZUC256 (width * 8) o.state.held) message l) })

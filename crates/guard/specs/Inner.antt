-- What the inner functions promise: a link by value, without its table.
use Rattle.std.specs.Prelude.{ℕ, Result, Ok, Err}
use Rattle.guard.specs.Outcome.{count_tests, link_of}
use Rattle.guard.specs.declared.Link as declared
use Rattle.refusals.specs.declared.Refusal.{Refusal}
use Rattle.refusals.specs.Numbers.{refusal_number}
use Rattle.standard.specs.Guard.{Link, accepting, knows, link_over}
use Rattle.standard.specs.Refusals.{accepted, tested}

-- a COUNT held against one link: the number, and the link after it, which is the one before where the COUNT was refused
pub record StepOutcome : Type 0 where
  pub number : ℕ
  pub link : Link

abbrev pub step_told : Result declared.Link Refusal → Link → StepOutcome
step_told (Ok after) before = record { number = accepted; link = link_of after }
step_told (Err refusal) before = record { number = refusal_number refusal; link = before }

unfoldable pub step_outcome : Link → ℕ → StepOutcome
step_outcome link COUNT =
    tested (count_tests link COUNT) (λ number. record { number = number; link = link }) (record { number = accepted; link = accepting link COUNT })

-- the bits of a link that stand for a COUNT
abbrev pub standing_bits : Link → ℕ
standing_bits link = (link_over link.highest (knows link)).accepted

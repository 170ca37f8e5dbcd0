-- The strict EIA3 forms (request 2026-04): when they are accepted, and when refused by 8; and that they take bearer and direction as given. By
-- the laws of strict forms. (That they are the plain forms on numbers that pass 8: `strict-eia3`, `strict-once-eia3` of mac/proofs/Strict.antt)
use mathlib.Core.List.{List}
use mathlib.Core.Logic.{◌↔◌}
use mathlib.Core.Path.{◌≡◌}
use Prim.Native.Nat.{ℕ, ◌+◌, ◌*◌, ◌≤◌}
use native.Mathlib.Omega.{arith}
use borrow.Author.Tests.{le-leb, leb-true}
use lib.ListN.{length}
use Rattle.standard.specs.Generator.{keystream}
use Rattle.standard.specs.Integrity.{bytes_iv-EIA3, drawn_by_tag-EIA3, tag-EIA3}
use Rattle.standard.specs.Loading.{load₁₂₈}
use Rattle.standard.specs.Refusals.{accepted, bad_field, bad_key}
use Rattle.standard.specs.States.{limit}
use Rattle.standard.proofs.Fields.{InField, OutOfField, strict-accepted, strict-answer, strict-fits, strict-refused}
use Rattle.mac.specs.Calls.{Once, Outcome, begun_tag-128, strict_once_outcome-EIA3, strict_start_outcome-EIA3}
use Rattle.mac.proofs.Strict.{once-form, start-form}

module _ (count bearer direction : ℕ) (key : List ℕ) where
  -- the start
  module _ (o : Outcome) (is : o ≡ strict_start_outcome-EIA3 count bearer direction key) where
    pub strict-eia3-accepted : (o.number ≡ accepted) ↔ ((length key ≡ 16) × InField bearer direction)
    unfolding strict_start_outcome-EIA3
    strict-eia3-accepted =
        let exactly = strict-accepted (start-form count bearer direction key) o is in
        (λ e. let h = exactly.0 e in (h.0, h.1), λ h. exactly.1 (h.0, h.1, tt))

    pub strict-eia3-refused : (o.number ≡ bad_field) ↔ ((length key ≡ 16) × OutOfField bearer direction)
    unfolding strict_start_outcome-EIA3
    strict-eia3-refused = strict-refused (start-form count bearer direction key) o is

    pub strict-eia3-fits : (o.number ≡ bad_key → ⊥) → (o.number ≡ bad_field → ⊥) → InField bearer direction
    unfolding strict_start_outcome-EIA3
    strict-eia3-fits = strict-fits (start-form count bearer direction key) o is

    pub strict-eia3-as-given : o.number ≡ accepted → o ≡ begun_tag-128 (load₁₂₈ key (bytes_iv-EIA3 count bearer direction))
    unfolding strict_start_outcome-EIA3
    strict-eia3-as-given = strict-answer (start-form count bearer direction key) o is

  -- the one-shot
  module _ (message : List ℕ) (l : ℕ) (o : Once ℕ) (is : o ≡ strict_once_outcome-EIA3 count bearer direction key message l) where
    pub strict-once-eia3-accepted : (o.number ≡ accepted)
        ↔ ((length key ≡ 16) × InField bearer direction × (l ≤ length message * 8) × (drawn_by_tag-EIA3 l ≤ limit))
    unfolding strict_once_outcome-EIA3
    strict-once-eia3-accepted =
        let exactly = strict-accepted (once-form count bearer direction key message l) o is in (
          λ e. let h = exactly.0 e in (h.0, h.1, leb-true l (length message * 8) h.2.0, omega (arith, leb-true (0 + drawn_by_tag-EIA3 l) limit h.2.1.0)),
          λ h. exactly.1 (h.0, h.1, (le-leb l (length message * 8) h.2, (le-leb (0 + drawn_by_tag-EIA3 l) limit (omega (arith, h.3)), tt))),
        )

    pub strict-once-eia3-refused : (o.number ≡ bad_field) ↔ ((length key ≡ 16) × OutOfField bearer direction)
    unfolding strict_once_outcome-EIA3
    strict-once-eia3-refused = strict-refused (once-form count bearer direction key message l) o is

    pub strict-once-eia3-fits : (o.number ≡ bad_key → ⊥) → (o.number ≡ bad_field → ⊥) → InField bearer direction
    unfolding strict_once_outcome-EIA3
    strict-once-eia3-fits = strict-fits (once-form count bearer direction key message l) o is

    pub strict-once-eia3-as-given : o.number ≡ accepted
        → o ≡ record { number = accepted; tag = tag-EIA3 (keystream (load₁₂₈ key (bytes_iv-EIA3 count bearer direction))) message l }
    unfolding strict_once_outcome-EIA3
    strict-once-eia3-as-given = strict-answer (once-form count bearer direction key message l) o is

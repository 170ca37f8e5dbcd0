-- F, a round, a draw and any number of them are one-to-one on states in range; a start and the draws after it are made of these.
use mathlib.Core.Path.{◌≡◌, refl, sym, ap, ◌∙◌}
use Prim.Native.Nat.{ℕ, zero, suc}
use lib.ListN.{drop}
use Rattle.standard.specs.Generator.{F, State, W, after, initialisation_step, initialised, next, round, started, work_step}
use Rattle.standard.specs.Notation.{◌≫◌}
use Rattle.standard.proofs.Cells.{work-mode}
use Rattle.standard.proofs.Generator.{Sound, sound-F, sound-round, sound-work_step}
use Rattle.zuc_apart.proofs.Feedback.{mode-one-to-one}
use Rattle.zuc_apart.proofs.Registers.{S-lt, Words, output, registers}

-- a state in range: sixteen cells of 1 .. 2^31 - 1, and two registers of 32 bits
pub record Ranged (σ : State) : Type 0 where
  pub sound : Sound σ
  pub words : Words σ

pub record OneToOne (f : State → State) : Type 0 where
  pub keeps : (σ : State) → Ranged σ → Ranged (f σ)
  pub apart : (σ τ : State) → Ranged σ → Ranged τ → f σ ≡ f τ → σ ≡ τ

pub both : {f g : State → State} → OneToOne f → OneToOne g → OneToOne (λ σ. f (g σ))
both {g = g} p q =
    record {
      keeps = λ σ h. p.keeps (g σ) (q.keeps σ h);
      apart = λ σ τ h k e. q.apart σ τ h k (p.apart (g σ) (g τ) (q.keeps σ h) (q.keeps τ k) e);
    }

F-words : (σ : State) → Words (F σ)
unfolding F
F-words σ = record { first = S-lt _; second = S-lt _ }

F-one-to-one : OneToOne F
unfolding F
F-one-to-one =
    record {
      keeps = λ σ h. record { sound = sound-F σ h.sound; words = F-words σ };
      apart = λ σ τ h k e.
          let c = ap (λ (ρ : State). ρ.cells) e in
          let r = registers σ τ h.words k.words (ap (drop 1) c) (ap (λ (ρ : State). ρ.R₁) e) (ap (λ (ρ : State). ρ.R₂) e) in
          λ i. record { cells = c i; R₁ = r.0 i; R₂ = r.1 i };
    }

work_step-one-to-one : OneToOne work_step
unfolding work_step
work_step-one-to-one =
    record {
      keeps = λ σ h. record { sound = sound-work_step σ h.sound; words = record { first = h.words.first; second = h.words.second } };
      apart = λ σ τ h k e.
          let m = mode-one-to-one 0 0 σ.cells τ.cells h.sound k.sound (sym (work-mode σ.cells) ∙ ap (λ (ρ : State). ρ.cells) e ∙ work-mode τ.cells) in
          λ i. record { cells = m.1 refl i; R₁ = (e i).R₁; R₂ = (e i).R₂ };
    }

-- in a round u is F's output, which is the same where the registers are
round-one-to-one : OneToOne round
unfolding round initialisation_step F
round-one-to-one =
    record {
      keeps = λ σ h. record { sound = sound-round σ h.sound; words = record { first = (F-words σ).first; second = (F-words σ).second } };
      apart = λ σ τ h k e.
          let m = mode-one-to-one (W σ ≫ 1) (W τ ≫ 1) σ.cells τ.cells h.sound k.sound (ap (λ (ρ : State). ρ.cells) e) in
          let r = registers σ τ h.words k.words m.0 (ap (λ (ρ : State). ρ.R₁) e) (ap (λ (ρ : State). ρ.R₂) e) in
          let c = m.1 (ap (λ (n : ℕ). n ≫ 1) (output σ τ h.words k.words m.0 r.0 r.1)) in
          λ i. record { cells = c i; R₁ = r.0 i; R₂ = r.1 i };
    }

same : OneToOne (λ σ. σ)
same = record { keeps = λ σ h. h; apart = λ σ τ h k e. e }

initialised-one-to-one : (n : ℕ) → OneToOne (initialised n)
unfolding initialised
initialised-one-to-one zero = same
initialised-one-to-one (suc n) = both round-one-to-one (initialised-one-to-one n)

pub started-one-to-one : OneToOne started
unfolding started
started-one-to-one = both F-one-to-one (initialised-one-to-one 32)

next-one-to-one : OneToOne next
unfolding next
next-one-to-one = both F-one-to-one work_step-one-to-one

pub after-one-to-one : (n : ℕ) → OneToOne (after n)
unfolding after
after-one-to-one zero = same
after-one-to-one (suc n) = both next-one-to-one (after-one-to-one n)

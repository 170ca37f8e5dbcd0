-- The tests of a start's key and IV, in their order: each refusal, and the start that passes both; by the tests' values.
use borrow.Author.Tests.{eq-eqb, ne_eqb}
use lib.ListN.{length}
use mathlib.Core.List.{List, [], ◌∷◌}
use mathlib.Core.Path.{◌≡◌, ◌∙◌, ap, refl, subst, sym}
use Prim.Native.Nat.{ℕ}
use Rattle.keystream.specs.Starts.{StartOutcome, accepted_start, refused_start}
use Rattle.standard.specs.Generator.{State, started}
use Rattle.standard.specs.States.{Counted, Held, from_start, from_zero}
use Rattle.standard.specs.Refusals.{bad_iv, bad_key, iv_test, key_test, tested}
use Rattle.standard.proofs.Cells.{Cells}

module _ (m n : ℕ) (key iv : List ℕ) (loaded : State) where
  abbrev start : StartOutcome
  start = tested (key_test m key ∷ iv_test n iv ∷ []) refused_start (accepted_start loaded)

  pub bad-key : (length key ≡ m → ⊥) → refused_start bad_key ≡ start
  unfolding tested
  bad-key other = rw (ne_eqb (length key) m other) refl

  pub bad-iv : length key ≡ m → (length iv ≡ n → ⊥) → refused_start bad_iv ≡ start
  unfolding tested
  bad-iv same other = rw (eq-eqb (length key) m same, ne_eqb (length iv) n other) refl

  pub accepted : {g : Counted Held} {σ : State} → length key ≡ m → length iv ≡ n → g ≡ from_start (from_zero (started σ)) → σ ≡ loaded
      → record { number = 0; state = g } ≡ start
  unfolding tested
  accepted same same' told e =
      rw (eq-eqb (length key) m same, eq-eqb (length iv) n same')
      (λ i. record { number = 0; state = (told ∙ ap (λ (s : State). from_start (from_zero (started s))) e) i })

pub cells-as : {σ loaded : State} → σ ≡ loaded → Cells loaded.cells → Cells σ.cells
cells-as e = subst (λ (s : State). Cells s.cells) (sym e)

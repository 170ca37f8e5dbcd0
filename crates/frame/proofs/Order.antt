-- A call whose tests gave a number is refused by that number, or past all of them; by induction on the tests.
use mathlib.Core.Bool.{Bool, true, false}
use mathlib.Core.List.{List, [], ◌∷◌}
use mathlib.Core.Path.{◌≡◌, ap, refl, sym, ◌∙◌}
use Prim.Native.Nat.{ℕ}
use Rattle.std.specs.Prelude.{if◌then◌else◌}
use Rattle.standard.specs.Refusals.{Test, accepted, tested}
use Rattle.standard.proofs.Tested.{AllPass, Numbered, accepted-passed, passed}

if-refused : {A : Type 0} (b : Bool) (refused : ℕ → A) (x : A) (k m n : ℕ) → n ≡ (if b then k else m) → (n ≡ k → refused n ≡ x)
    → refused n ≡ (if b then x else refused m)
if-refused true refused x k m n e of = of e
if-refused false refused x k m n e of = ap refused e

pub refused-by : {A : Type 0} (tests : List Test) (refused : ℕ → A) (answer : A) (n : ℕ) → n ≡ tested tests (λ k. k) accepted → (n ≡ accepted → ⊥)
    → refused n ≡ tested tests refused answer
unfolding tested
refused-by [] refused answer n e other = absurd (other e)
refused-by (test ∷ rest) refused answer n e other =
    if-refused test.passes refused (tested rest refused answer) (tested rest (λ k. k) accepted) test.number n e (λ h. refused-by rest refused answer n h other)

pub all-passed : (tests : List Test) → Numbered tests → (n : ℕ) → n ≡ tested tests (λ k. k) accepted → n ≡ accepted → AllPass tests
all-passed tests low n e ok = accepted-passed (λ (k : ℕ). k) (λ k. k) (λ k. refl) accepted tests low (sym e ∙ ok)

pub answered : {A : Type 0} (tests : List Test) → Numbered tests → (refused : ℕ → A) (answer : A) (n : ℕ) → n ≡ tested tests (λ k. k) accepted → n ≡ accepted
    → answer ≡ tested tests refused answer
answered tests low refused answer n e ok = sym (passed tests refused answer (all-passed tests low n e ok))

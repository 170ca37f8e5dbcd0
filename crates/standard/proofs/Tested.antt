-- The order of checking: what is known of an outcome by its tests, and of the tests by an outcome; by induction on the list of tests.
use mathlib.Core.Bool.{Bool, true, false}
use mathlib.Core.List.{List, [], ◌∷◌}
use mathlib.Core.Logic.{◌↔◌, ◌⊎◌, inl, inr, ⊎_elim}
use mathlib.Core.Path.{◌≡◌, refl, sym, ap, ◌∙◌, subst}
use Prim.Native.Nat.{ℕ, ◌<◌}
use native.Mathlib.Omega.{arith}
use Rattle.std.specs.Prelude.{if◌then◌else◌}
use Rattle.standard.specs.Refusals.{Test, tested}

-- every test passes; every number is a refusal's; none is n
abbrev pub AllPass : List Test → Type 0
AllPass [] = Unit {0}
AllPass (test ∷ rest) = (test.passes ≡ true) × AllPass rest

abbrev pub Numbered : List Test → Type 0
Numbered [] = Unit {0}
Numbered (test ∷ rest) = (0 < test.number) × Numbered rest

abbrev pub Without : ℕ → List Test → Type 0
Without n [] = Unit {0}
Without n (test ∷ rest) = (test.number ≡ n → ⊥) × Without n rest

-- one test
if-map : {A B : Type 0} (f : A → B) (b : Bool) (x y : A) → f (if b then x else y) ≡ (if b then f x else f y)
if-map f true x y = refl
if-map f false x y = refl

if-when : {A : Type 0} (b : Bool) (x x' y : A) → (b ≡ true → x ≡ x') → (if b then x else y) ≡ (if b then x' else y)
if-when true x x' y e = e refl
if-when false x x' y e = refl

if-zero : {A : Type 0} (number : A → ℕ) (b : Bool) (x y : A) → (number y ≡ 0 → ⊥) → number (if b then x else y) ≡ 0 → (b ≡ true) × (number x ≡ 0)
if-zero number true x y other e = (refl, e)
if-zero number false x y other e = absurd (other e)

if-never : {A : Type 0} (number : A → ℕ) {n : ℕ} (b : Bool) (x y : A) → (number x ≡ n → ⊥) → (number y ≡ n → ⊥) → number (if b then x else y) ≡ n → ⊥
if-never number true x y f g = f
if-never number false x y f g = g

pub passed : {A : Type 0} (tests : List Test) (refused : ℕ → A) (answer : A) → AllPass tests → tested tests refused answer ≡ answer
unfolding tested
passed [] refused answer all = refl
passed (test ∷ rest) refused answer all = rw all.0 (passed rest refused answer all.1)

-- every test passes, or one of the numbers is the refusal
if-decided : {A P : Type 0} (b : Bool) (x y : A) (refused : ℕ → A) (number : ℕ) → 0 < number → y ≡ refused number
    → P ⊎ ((n : ℕ) × (0 < n) × (x ≡ refused n)) → ((b ≡ true) × P) ⊎ ((n : ℕ) × (0 < n) × ((if b then x else y) ≡ refused n))
if-decided true x y refused number low e rest = ⊎_elim (λ all. inl (refl, all)) (λ r. inr r) rest
if-decided false x y refused number low e rest = inr (number, low, e)

pub decided : {A : Type 0} (tests : List Test) (refused : ℕ → A) (answer : A) → Numbered tests
    → AllPass tests ⊎ ((n : ℕ) × (0 < n) × (tested tests refused answer ≡ refused n))
unfolding tested
decided [] refused answer low = inl tt
decided (test ∷ rest) refused answer low =
    if-decided test.passes (tested rest refused answer) (refused test.number) refused test.number low.0 refl (decided rest refused answer low.1)

-- what holds of every refusal, and of the answer where every test passes
pub either : {A : Type 0} (P : A → Type 0) (tests : List Test) → Numbered tests → (refused : ℕ → A) (answer : A) → ((n : ℕ) → P (refused n))
    → (AllPass tests → P answer) → P (tested tests refused answer)
either P tests low refused answer of-refusals of-answer =
    ⊎_elim (λ all. subst P (sym (passed tests refused answer all)) (of-answer all)) (λ r. subst P (sym r.2) (of-refusals r.0)) (decided tests refused answer low)

-- what is done with an outcome is done with its refusals and with its answer
pub tested-map : {A B : Type 0} (f : A → B) (tests : List Test) (refused : ℕ → A) (answer : A)
    → f (tested tests refused answer) ≡ tested tests (λ n. f (refused n)) (f answer)
unfolding tested
tested-map f [] refused answer = refl
tested-map f (test ∷ rest) refused answer =
    if-map f test.passes (tested rest refused answer) (refused test.number)
    ∙ ap (λ y. if test.passes then y else f (refused test.number)) (tested-map f rest refused answer)

-- two answers that are equal where every test passes
pub tested-when : {A : Type 0} (tests : List Test) (refused : ℕ → A) (a b : A) → (AllPass tests → a ≡ b) → tested tests refused a ≡ tested tests refused b
unfolding tested
tested-when [] refused a b e = e tt
tested-when (test ∷ rest) refused a b e =
    if-when test.passes (tested rest refused a) (tested rest refused b) (refused test.number) (λ f. tested-when rest refused a b (λ all. e (f, all)))

-- an outcome with number 0 passed every test, and so it is the answer
module _ {A : Type 0} (number : A → ℕ) (refused : ℕ → A) (told : (n : ℕ) → number (refused n) ≡ n) (answer : A) where
  pub accepted-passed : (tests : List Test) → Numbered tests → number (tested tests refused answer) ≡ 0 → AllPass tests
  unfolding tested
  accepted-passed [] low e = tt
  accepted-passed (test ∷ rest) low e =
      let h = if-zero number test.passes (tested rest refused answer) (refused test.number)
      (λ z. let n : test.number ≡ 0 = sym (told test.number) ∙ z in omega (arith, low.0, n)) e in
      (h.0, accepted-passed rest low.1 h.1)

  pub accepted-is : (tests : List Test) → Numbered tests → number (tested tests refused answer) ≡ 0 → tested tests refused answer ≡ answer
  accepted-is tests low e = passed tests refused answer (accepted-passed tests low e)

  -- so it is accepted exactly if every test passes
  pub accepted-exactly : number answer ≡ 0 → (tests : List Test) → Numbered tests → (number (tested tests refused answer) ≡ 0) ↔ AllPass tests
  accepted-exactly ok tests low = (accepted-passed tests low, λ all. ap number (passed tests refused answer all) ∙ ok)

  -- a number that neither a test nor the answer has is not the outcome's
  pub never-told : (n : ℕ) → (number answer ≡ n → ⊥) → (tests : List Test) → Without n tests → number (tested tests refused answer) ≡ n → ⊥
  unfolding tested
  never-told n other [] without e = other e
  never-told n other (test ∷ rest) without e =
      if-never number test.passes (tested rest refused answer) (refused test.number) (never-told n other rest without.1)
      (λ f. without.0 (sym (told test.number) ∙ f)) e

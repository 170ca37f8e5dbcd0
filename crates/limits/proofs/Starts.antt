-- A start is never refused by 16: no test of a start has that number.
use mathlib.Core.Bool.{Bool, true, false}
use mathlib.Core.List.{List, [], ◌∷◌}
use mathlib.Core.Path.{◌≡◌, refl}
use Prim.Native.Nat.{ℕ, ◌<◌}
use native.Mathlib.Omega.{arith}
use lib.Dec.{lit<}
use Rattle.standard.specs.Confidentiality.{IV-EEA3}
use Rattle.standard.specs.Generator.{State}
use Rattle.standard.specs.Integrity.{IV-EIA3}
use Rattle.standard.specs.Loading.{load₁₂₈, load₂₅₆, row_of}
use Rattle.std.specs.Prelude.{if◌then◌else◌}
use Rattle.standard.specs.Refusals.{Test, iv_test, key_test, spent, tested, width_test}
use Rattle.keystream.specs.Starts.{StartOutcome, accepted_start, refused_start, start-EEA3, start_tag₂₅₆, start₁₂₈, start₂₅₆}
use Rattle.mac.specs.Calls.{Outcome, begun_tag-128, begun_tag-256, refused_tag, start_outcome-128, start_outcome-256, start_outcome-EIA3}

-- tests with numbers below a bound
abbrev Below : List Test → Type 0
Below [] = Unit {0}
Below (test ∷ rest) = (test.number < spent) × Below rest

if-below : {A : Type 0} (number : A → ℕ) (b : Bool) (x y : A) → number x < spent → number y < spent → number (if b then x else y) < spent
if-below number true x y p q = p
if-below number false x y p q = q

module _ {A : Type 0} (number : A → ℕ) (refused : ℕ → A) (told : (n : ℕ) → number (refused n) ≡ n) (answer : A) (ok : number answer ≡ 0) where
  below : (tests : List Test) → Below tests → number (tested tests refused answer) < spent
  unfolding tested
  below [] low = omega (arith, ok)
  below (test ∷ rest) low =
      if-below number test.passes (tested rest refused answer) (refused test.number) (below rest low.1) (omega (arith, told test.number, low.0))

  never : (tests : List Test) → Below tests → number (tested tests refused answer) ≡ spent → ⊥
  never tests low e = let b = below tests low in omega (arith, e, b)

-- of the keystream
module _ (tests : List Test) (low : Below tests) (loaded : State) where
  keystream-never : (tested tests refused_start (accepted_start loaded)).number ≡ spent → ⊥
  keystream-never = never (λ (o : StartOutcome). o.number) refused_start (λ n. refl) (accepted_start loaded) refl tests low

pub zuc128-never-spent : (key iv : List ℕ) → (start₁₂₈ key iv).number ≡ spent → ⊥
unfolding start₁₂₈
zuc128-never-spent key iv = keystream-never (key_test 16 key ∷ iv_test 16 iv ∷ []) (lit< tt, (lit< tt, tt)) (load₁₂₈ key iv)

pub eea3-never-spent : (count bearer direction : ℕ) (key : List ℕ) → (start-EEA3 count bearer direction key).number ≡ spent → ⊥
unfolding start-EEA3
eea3-never-spent count bearer direction key = keystream-never (key_test 16 key ∷ []) (lit< tt, tt) (load₁₂₈ key (IV-EEA3 count bearer direction))

pub zuc256-never-spent : (d key iv : List ℕ) → (start₂₅₆ d key iv).number ≡ spent → ⊥
unfolding start₂₅₆
zuc256-never-spent d key iv = keystream-never (key_test 32 key ∷ iv_test 23 iv ∷ []) (lit< tt, (lit< tt, tt)) (load₂₅₆ d key iv)

pub zuc256-with-d-never-spent : (width : ℕ) (key iv : List ℕ) → (start_tag₂₅₆ width key iv).number ≡ spent → ⊥
unfolding start_tag₂₅₆
zuc256-with-d-never-spent width key iv =
    keystream-never (width_test width ∷ key_test 32 key ∷ iv_test 23 iv ∷ []) (lit< tt, (lit< tt, (lit< tt, tt))) (load₂₅₆ (row_of width) key iv)

-- of tags
module _ (tests : List Test) (low : Below tests) (begun : Outcome) (ok : begun.number ≡ 0) where
  tag-never : (tested tests refused_tag begun).number ≡ spent → ⊥
  tag-never = never (λ (o : Outcome). o.number) refused_tag (λ n. refl) begun ok tests low

pub tag-zuc128-never-spent : (key iv : List ℕ) → (start_outcome-128 key iv).number ≡ spent → ⊥
unfolding start_outcome-128
tag-zuc128-never-spent key iv = tag-never (key_test 16 key ∷ iv_test 16 iv ∷ []) (lit< tt, (lit< tt, tt)) (begun_tag-128 (load₁₂₈ key iv)) refl

pub tag-eia3-never-spent : (count bearer direction : ℕ) (key : List ℕ) → (start_outcome-EIA3 count bearer direction key).number ≡ spent → ⊥
unfolding start_outcome-EIA3
tag-eia3-never-spent count bearer direction key = tag-never (key_test 16 key ∷ []) (lit< tt, tt) (begun_tag-128 (load₁₂₈ key (IV-EIA3 count bearer direction))) refl

pub tag-zuc256-never-spent : (width : ℕ) (key iv : List ℕ) → (start_outcome-256 width key iv).number ≡ spent → ⊥
unfolding start_outcome-256
tag-zuc256-never-spent width key iv =
    tag-never (width_test width ∷ key_test 32 key ∷ iv_test 23 iv ∷ []) (lit< tt, (lit< tt, (lit< tt, tt))) (begun_tag-256 width (load₂₅₆ (row_of width) key iv)) refl

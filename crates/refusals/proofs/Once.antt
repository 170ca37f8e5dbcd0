-- What is told of an answer tells it: its number and its value, by the refusal that a number stands for. And no refusal's number is 0.
use lib.Dec.{eqb}
use mathlib.Core.Bool.{false}
use mathlib.Core.Path.{◌≡◌, ◌∙◌, ap₂, refl, sym}
use Prim.Native.Nat.{ℕ}
use Rattle.std.specs.Prelude.{Result, Ok, Err, if◌then◌else◌}
use Rattle.std.specs.Result.{result_unwrap_or}
use Rattle.refusals.specs.declared.Refusal.{Refusal}
use Rattle.refusals.specs.declared.Refusal.TheVariants.{BadWidth, BadKey, BadIv, BadState, BadBits, BadFrame, BadLength, BadField, BadBody, BadTag, BadReuse, BadAge, BadLink, Spent}
use Rattle.refusals.specs.Numbers.{answer_number, refusal_number}

refusal_of : ℕ → Refusal
refusal_of n =
    if eqb n 1 then BadWidth else if eqb n 2 then BadKey else if eqb n 3 then BadIv else if eqb n 4 then BadState
    else if eqb n 5 then BadBits else if eqb n 6 then BadFrame else if eqb n 7 then BadLength else if eqb n 8 then BadField
    else if eqb n 9 then BadBody else if eqb n 10 then BadTag else if eqb n 11 then BadReuse else if eqb n 12 then BadAge
    else if eqb n 13 then BadLink else Spent

answer_of : {A : Type 0} → ℕ → A → Result A Refusal
answer_of n value = if eqb n 0 then Ok value else Err (refusal_of n)

answer-back : {A : Type 0} (none : A) (r : Result A Refusal) → answer_of (answer_number r) (result_unwrap_or r none) ≡ r
unfolding answer_of refusal_of
answer-back none (Ok value) = refl
answer-back none (Err BadWidth) = refl
answer-back none (Err BadKey) = refl
answer-back none (Err BadIv) = refl
answer-back none (Err BadState) = refl
answer-back none (Err BadBits) = refl
answer-back none (Err BadFrame) = refl
answer-back none (Err BadLength) = refl
answer-back none (Err BadField) = refl
answer-back none (Err BadBody) = refl
answer-back none (Err BadTag) = refl
answer-back none (Err BadReuse) = refl
answer-back none (Err BadAge) = refl
answer-back none (Err BadLink) = refl
answer-back none (Err Spent) = refl

-- no refusal has the number of an accepted call
pub refused-number : (refusal : Refusal) → eqb (refusal_number refusal) 0 ≡ false
refused-number BadWidth = refl
refused-number BadKey = refl
refused-number BadIv = refl
refused-number BadState = refl
refused-number BadBits = refl
refused-number BadFrame = refl
refused-number BadLength = refl
refused-number BadField = refl
refused-number BadBody = refl
refused-number BadTag = refl
refused-number BadReuse = refl
refused-number BadAge = refl
refused-number BadLink = refl
refused-number Spent = refl

-- whatever stands for no value
pub answer-once : {A : Type 0} (none : A) (r r' : Result A Refusal)
    → answer_number r ≡ answer_number r' → result_unwrap_or r none ≡ result_unwrap_or r' none → r ≡ r'
answer-once none r r' n v = sym (answer-back none r) ∙ ap₂ answer_of n v ∙ answer-back none r'

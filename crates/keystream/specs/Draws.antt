-- What a draw and a fill answer: the standard's tests in their order, then the words.
use Rattle.std.specs.Prelude.{List, [], ◌∷◌, ℕ, Result, ⊤}
use Rattle.refusals.specs.declared.Refusal.{Refusal}
use Rattle.refusals.specs.Numbers.{answer_number}
use Rattle.std.specs.Result.{result_unwrap_or}
use Rattle.standard.specs.Generator.{word, word_at}
use Rattle.standard.specs.Notation.{listed}
use Rattle.standard.specs.Refusals.{accepted, limit_test, state_test, tested}
use Rattle.standard.specs.States.{Counted, Held, drawn_on, generator_formed, words_to_draw, words_to_fill}
use Rattle.zuc.specs.Reading.{counted_of}
use Rattle.zuc.specs.declared.Generator as declared

-- all that a draw gives: its number, its word, and the state after it
pub record DrawOutcome : Type 0 where
  pub number : ℕ
  pub word : ℕ
  pub state : Counted Held

abbrev pub draw_told : Result ℕ Refusal → declared.Generator → DrawOutcome
draw_told r g = record { number = answer_number r; word = result_unwrap_or r 0; state = counted_of g }

-- a refusal hands back the caller's state and a zero word
abbrev pub refused_draw : Counted Held → ℕ → DrawOutcome
refused_draw g number = record { number = number; word = 0; state = g }

unfoldable pub draw_outcome : Counted Held → DrawOutcome
draw_outcome g =
    tested (state_test (generator_formed g) ∷ limit_test g.count words_to_draw ∷ []) (refused_draw g)
    (record { number = accepted; word = word g.held.meaning; state = drawn_on words_to_draw g })

-- a buffer of words filled, one draw each
pub record FillOutcome : Type 0 where
  pub number : ℕ
  pub state : Counted Held
  pub buffer : List ℕ

abbrev pub fill_told : Result ⊤ Refusal → declared.Generator → List ℕ → FillOutcome
fill_told r g buffer = record { number = answer_number r; state = counted_of g; buffer = buffer }

-- a refusal leaves state and buffer untouched
abbrev pub refused_fill : Counted Held → List ℕ → ℕ → FillOutcome
refused_fill g buffer number = record { number = number; state = g; buffer = buffer }

unfoldable pub fill_outcome : Counted Held → List ℕ → FillOutcome
fill_outcome g buffer =
    tested (state_test (generator_formed g) ∷ limit_test g.count (words_to_fill buffer) ∷ []) (refused_fill g buffer)
    (record { number = accepted; state = drawn_on (words_to_fill buffer) g; buffer = listed (word_at g.held.meaning) 0 (words_to_fill buffer) })

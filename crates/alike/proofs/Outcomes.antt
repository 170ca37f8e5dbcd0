-- Outcomes over alike states: number, word, count, tag and buffer are equal, and the states handed back alike. By the tests, which are the same.
use mathlib.Core.Bool.{Bool}
use mathlib.Core.List.{List, [], ◌∷◌, ◌++◌}
use mathlib.Core.Path.{◌≡◌, refl, ap}
use Prim.Native.Nat.{ℕ}
use lib.Dec.{lit<}
use lib.ListN.{length}
use Rattle.standard.specs.Confidentiality.{mask_clean, mask_crate, words_to_mask_clean, words_to_mask_crate}
use Rattle.standard.specs.Generator.{word, word_at}
use Rattle.standard.specs.Notation.{listed}
use Rattle.standard.specs.Refusals.{Test, bits_test, limit_test, state_test}
use Rattle.standard.specs.States.{Counted, Held, Stored, formed, formed-128, from_start, generator_formed, tag_formed, words_to_draw, words_to_fill, zero_stored, zeros}
use Rattle.keystream.specs.Draws.{draw_outcome, fill_outcome}
use Rattle.mac.specs.Calls.{closing, finish_outcome-128, finish_outcome-256, no_words, update_outcome, update_words}
use Rattle.mask.specs.Outcome.{clean_outcome, crate_outcome, mask_tested}
use Rattle.alike.specs.Alike.{AlikeGenerator, AlikeTag}
use Rattle.alike.specs.Same.{AgreeClosing, AgreeDraw, AgreeFill, AgreeMask, AgreeUpdate}
use Rattle.alike.proofs.Alike.{alike-drawn, alike-generator_formed, tested-related}
use Rattle.alike.proofs.Tags.{alike-taken_in, same-close_words-128, same-close_words-256, same-formed, same-formed-128, same-tag-128, same-tag-256, same-tag_formed, same-update_words}

-- draws and fills
module _ {g k : Counted Held} (e : AlikeGenerator g k) where
  -- the tests of a state, those between, and that of the limit
  tests_same : (between : List Test) (words : ℕ)
      → state_test (generator_formed g) ∷ between ++ (limit_test g.count words ∷ []) ≡ state_test (generator_formed k) ∷ between ++ (limit_test k.count words ∷ [])
  tests_same between words = λ i. state_test (alike-generator_formed e i) ∷ between ++ (limit_test (e.count i) words ∷ [])

  pub draw-agrees : AgreeDraw (draw_outcome g) (draw_outcome k)
  unfolding draw_outcome
  draw-agrees =
      tested-related AgreeDraw (state_test (generator_formed g) ∷ limit_test g.count words_to_draw ∷ []) (tests_same [] words_to_draw)
      (λ n. record { number = refl; word = refl; state = e })
      (record { number = refl; word = ap word e.held.meaning; state = alike-drawn e words_to_draw })

  pub fill-agrees : (buffer : List ℕ) → AgreeFill (fill_outcome g buffer) (fill_outcome k buffer)
  unfolding fill_outcome
  fill-agrees buffer =
      tested-related AgreeFill (state_test (generator_formed g) ∷ limit_test g.count (words_to_fill buffer) ∷ []) (tests_same [] (words_to_fill buffer))
      (λ n. record { number = refl; state = e; buffer = refl })
      (record { number = refl; state = alike-drawn e (words_to_fill buffer); buffer = λ i. listed (word_at (e.held.meaning i)) 0 (words_to_fill buffer) })

  -- masks, whatever each lays over the buffer
  module _ (L : ℕ) (buffer : List ℕ) where
    mask-agrees : (words : ℕ) {masked masked' : List ℕ} → masked ≡ masked'
        → AgreeMask (mask_tested g words L buffer masked) (mask_tested k words L buffer masked')
    unfolding mask_tested
    mask-agrees words m =
        tested-related AgreeMask (state_test (generator_formed g) ∷ bits_test L buffer ∷ limit_test g.count words ∷ []) (tests_same (bits_test L buffer ∷ []) words)
        (λ n. record { number = refl; count = refl; state = e; buffer = refl })
        (record { number = refl; count = refl; state = alike-drawn e words; buffer = m })

    pub crate-agrees : AgreeMask (crate_outcome g L buffer) (crate_outcome k L buffer)
    crate-agrees = mask-agrees (words_to_mask_crate (length buffer)) (λ i. mask_crate (word_at (e.held.meaning i)) L buffer)

    pub clean-agrees : AgreeMask (clean_outcome g L buffer) (clean_outcome k L buffer)
    clean-agrees = mask-agrees (words_to_mask_clean L) (λ i. mask_clean (word_at (e.held.meaning i)) L buffer)

-- a state of zeros is alike to itself
zeros-alike : AlikeTag (from_start zero_stored) (from_start zero_stored)
unfolding zero_stored zeros
zeros-alike =
    record {
      held =
          record { generator = record { meaning = refl; full = refl; start = lit< tt; start' = lit< tt }; key = refl; tag = refl; rem = refl; cnt = refl; width = refl };
      count = refl;
    }

-- updates and closings, whatever the test of a state is that alike states pass together
module _ {s t : Counted Stored} (e : AlikeTag s t) where
  pub update_agrees : (test : Stored → Bool) → test s.held ≡ test t.held → (message : List ℕ)
      → AgreeUpdate (update_outcome (tag_formed test s) s message) (update_outcome (tag_formed test t) t message)
  unfolding update_outcome
  update_agrees test f message =
      tested-related AgreeUpdate (state_test (tag_formed test s) ∷ limit_test s.count (update_words s.held message) ∷ [])
      (λ i. state_test (same-tag_formed e test f i) ∷ limit_test (e.count i) (same-update_words e.held message i) ∷ [])
      (λ n. record { number = refl; state = e })
      (record { number = refl; state = alike-taken_in e message })

  closing-agrees : {Tag : Type 0} (none : Tag) (test : Stored → Bool) → test s.held ≡ test t.held → {words words' : ℕ} → words ≡ words'
      → (tail : List ℕ) (l : ℕ) {tag tag' : Tag} → tag ≡ tag'
      → AgreeClosing (closing none (tag_formed test s) s words tail l tag) (closing none (tag_formed test t) t words' tail l tag')
  unfolding closing
  closing-agrees none test f {words} w tail l g =
      tested-related AgreeClosing (state_test (tag_formed test s) ∷ bits_test l tail ∷ limit_test s.count words ∷ [])
      (λ i. state_test (same-tag_formed e test f i) ∷ bits_test l tail ∷ limit_test (e.count i) (w i) ∷ [])
      (λ n. record { number = refl; tag = refl; state = e })
      (record { number = refl; tag = g; state = zeros-alike })

  pub finish-128-agrees : (tail : List ℕ) (l : ℕ) → AgreeClosing (finish_outcome-128 s tail l) (finish_outcome-128 t tail l)
  unfolding finish_outcome-128
  finish-128-agrees tail l =
      closing-agrees 0 formed-128 (same-formed-128 e.held) (same-close_words-128 e.held l) tail l (same-tag-128 e.held tail l)

  pub finish-256-agrees : (tail : List ℕ) (l : ℕ) → AgreeClosing (finish_outcome-256 s tail l) (finish_outcome-256 t tail l)
  unfolding finish_outcome-256
  finish-256-agrees tail l =
      closing-agrees no_words formed (same-formed e.held) (same-close_words-256 e.held l) tail l (same-tag-256 e.held tail l)

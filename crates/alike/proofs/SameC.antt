-- THE THEOREM of requests 2026-08 and 2026-09, of every C function that is lent a state: arrays that read alike get equal numbers, words,
-- counts, tags and buffers, and read alike again. By the outcomes of the inner calls, and by their arrays.
use mathlib.Core.List.{List}
use mathlib.Core.Path.{ap}
use Prim.Native.Nat.{ℕ}
use Rattle.standard.specs.States.{Counted, Held, Stored, formed, formed-128, tag_formed}
use Rattle.keystream.specs.Draws.{draw_outcome, fill_outcome}
use Rattle.mac.specs.Calls.{Closing, finish_outcome-128, finish_outcome-256, update_outcome}
use Rattle.mac.specs.Calls as mac
use Rattle.mask.specs.Outcome.{Outcome, clean_outcome, crate_outcome}
use Rattle.capi_arrays.specs.Arrays.{held_in, stored_in}
use Rattle.capi.specs.Generators.{draw_array, mask_array, words_array}
use Rattle.capi.specs.Tags.{closing_array, tag_array, two, two_closing}
use Rattle.capi.proofs.generators.zuc_draw.Reads as zuc-draw
use Rattle.capi.proofs.generators.zuc_mask_clean.Reads as zuc-mask-clean
use Rattle.capi.proofs.generators.zuc_mask_crate.Reads as zuc-mask-crate
use Rattle.capi.proofs.generators.zuc_words.Reads as zuc-words
use Rattle.capi.proofs.tags.zuc128_tag_finish.Reads as zuc128-tag-finish
use Rattle.capi.proofs.tags.zuc128_tag_update.Reads as zuc128-tag-update
use Rattle.capi.proofs.tags.zuc256_tag_finish.Reads as zuc256-tag-finish
use Rattle.capi.proofs.tags.zuc256_tag_update.Reads as zuc256-tag-update
use Rattle.alike.specs.Alike.{AlikeGenerator, AlikeTag}
use Rattle.alike.specs.Same.{AgreeClosing, AgreeMask, AgreeUpdate, SameAnswers}
use Rattle.alike.specs.SameArrays.{AgreeClosingArray, AgreeDrawArray, AgreeMaskArray, AgreeTagArray, AgreeWordsArray}
use Rattle.alike.proofs.Arrays.{alike-array, alike-tag-array}
use Rattle.alike.proofs.Outcomes.{clean-agrees, crate-agrees, draw-agrees, fill-agrees, finish-128-agrees, finish-256-agrees, update_agrees}
use Rattle.alike.proofs.Same.{as-told}
use Rattle.alike.proofs.Tags.{same-formed, same-formed-128}

-- draws
draw-arrays : {h k : Counted Held} → AlikeGenerator h k → AgreeDrawArray (draw_array (draw_outcome h)) (draw_array (draw_outcome k))
draw-arrays e = let g = draw-agrees e in record { number = g.number; word = g.word; array = alike-array g.state }

pub same-zuc-draw : SameAnswers AlikeGenerator AgreeDrawArray zuc-draw.Post (λ κs a. held_in a.0.now) (λ κs a. tt {0})
    (λ κs r s. record { number = r; word = s.1.0.now; array = s.0.now })
same-zuc-draw κs κs' a a' r r' s s' = as-told AlikeGenerator AgreeDrawArray (λ (h : Counted Held) (x : Unit {0}). draw_array (draw_outcome h)) (λ h k x. draw-arrays)

-- a buffer of words
words-arrays : {h k : Counted Held} (buffer : List ℕ) → AlikeGenerator h k → AgreeWordsArray (words_array (fill_outcome h buffer)) (words_array (fill_outcome k buffer))
words-arrays buffer e = let g = fill-agrees e buffer in record { number = g.number; array = alike-array g.state; buffer = g.buffer }

pub same-zuc-words : SameAnswers AlikeGenerator AgreeWordsArray zuc-words.Post (λ κs a. held_in a.0.now) (λ κs a. a.1.0.now)
    (λ κs r s. record { number = r; array = s.0.now; buffer = s.1.0.now })
same-zuc-words κs κs' a a' r r' s s' = as-told AlikeGenerator AgreeWordsArray (λ (h : Counted Held) (buffer : List ℕ). words_array (fill_outcome h buffer)) (λ h k. words-arrays)

-- masks
mask-arrays : {o o' : Outcome} → AgreeMask o o' → AgreeMaskArray (mask_array o) (mask_array o')
mask-arrays g = record { number = g.number; count = g.count; array = alike-array g.state; buffer = g.buffer }

pub same-zuc-mask-crate : SameAnswers {Rest = ℕ × List ℕ} AlikeGenerator AgreeMaskArray zuc-mask-crate.Post (λ κs a. held_in a.0.now) (λ κs a. (a.1.1.0, a.1.0.now))
    (λ κs r s. record { number = r; count = s.1.1.1.0.now; array = s.0.now; buffer = s.1.0.now })
same-zuc-mask-crate κs κs' a a' r r' s s' =
    as-told AlikeGenerator AgreeMaskArray (λ (h : Counted Held) (x : ℕ × List ℕ). mask_array (crate_outcome h x.0 x.1)) (λ h k x e. mask-arrays (crate-agrees e x.0 x.1))

pub same-zuc-mask-clean : SameAnswers {Rest = ℕ × List ℕ} AlikeGenerator AgreeMaskArray zuc-mask-clean.Post (λ κs a. held_in a.0.now) (λ κs a. (a.1.1.0, a.1.0.now))
    (λ κs r s. record { number = r; count = s.1.1.1.0.now; array = s.0.now; buffer = s.1.0.now })
same-zuc-mask-clean κs κs' a a' r r' s s' =
    as-told AlikeGenerator AgreeMaskArray (λ (h : Counted Held) (x : ℕ × List ℕ). mask_array (clean_outcome h x.0 x.1)) (λ h k x e. mask-arrays (clean-agrees e x.0 x.1))

-- updates of tags
tag-arrays : {o o' : mac.Outcome} → AgreeUpdate o o' → AgreeTagArray (tag_array o) (tag_array o')
tag-arrays g = record { number = g.number; array = alike-tag-array g.state }

pub same-zuc128-tag-update : SameAnswers AlikeTag AgreeTagArray zuc128-tag-update.Post (λ κs a. stored_in a.0.now) (λ κs a. a.1.0.now)
    (λ κs r s. record { number = r; array = s.0.now })
same-zuc128-tag-update κs κs' a a' r r' s s' =
    as-told AlikeTag AgreeTagArray (λ (t : Counted Stored) (m : List ℕ). tag_array (update_outcome (tag_formed formed-128 t) t m)) (λ t u m e. tag-arrays (update_agrees e formed-128 (same-formed-128 e.held) m))

pub same-zuc256-tag-update : SameAnswers AlikeTag AgreeTagArray zuc256-tag-update.Post (λ κs a. stored_in a.0.now) (λ κs a. a.1.0.now)
    (λ κs r s. record { number = r; array = s.0.now })
same-zuc256-tag-update κs κs' a a' r r' s s' =
    as-told AlikeTag AgreeTagArray (λ (t : Counted Stored) (m : List ℕ). tag_array (update_outcome (tag_formed formed t) t m)) (λ t u m e. tag-arrays (update_agrees e formed (same-formed e.held) m))

-- closings
closing-arrays : {o o' : Closing (List ℕ)} → AgreeClosing o o' → AgreeClosingArray (closing_array o) (closing_array o')
closing-arrays g = record { number = g.number; tag = g.tag; array = alike-tag-array g.state }

two-agree : {o o' : Closing ℕ} → AgreeClosing o o' → AgreeClosing (two_closing o) (two_closing o')
two-agree g = record { number = g.number; tag = ap two g.tag; state = g.state }

pub same-zuc128-tag-finish : SameAnswers {Rest = List ℕ × ℕ} AlikeTag AgreeClosingArray zuc128-tag-finish.Post (λ κs a. stored_in a.0.now)
    (λ κs a. (a.1.0.now, a.1.1.0)) (λ κs r s. record { number = r; tag = s.1.1.1.0.now; array = s.0.now })
same-zuc128-tag-finish κs κs' a a' r r' s s' =
    as-told AlikeTag AgreeClosingArray (λ (t : Counted Stored) (x : List ℕ × ℕ). closing_array (two_closing (finish_outcome-128 t x.0 x.1)))
    (λ t u x e. closing-arrays (two-agree (finish-128-agrees e x.0 x.1)))

pub same-zuc256-tag-finish : SameAnswers {Rest = List ℕ × ℕ} AlikeTag AgreeClosingArray zuc256-tag-finish.Post (λ κs a. stored_in a.0.now)
    (λ κs a. (a.1.0.now, a.1.1.0)) (λ κs r s. record { number = r; tag = s.1.1.1.0.now; array = s.0.now })
same-zuc256-tag-finish κs κs' a a' r r' s s' =
    as-told AlikeTag AgreeClosingArray (λ (t : Counted Stored) (x : List ℕ × ℕ). closing_array (finish_outcome-256 t x.0 x.1))
    (λ t u x e. closing-arrays (finish-256-agrees e x.0 x.1))

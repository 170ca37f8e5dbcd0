-- What a refusal leaves: every array and buffer as it came, zeros in the rest; a refused start leaves zeros. By the packing laws.
use lib.Dec.{leb}
use lib.ListN.{length, replicate}
use mathlib.Core.Bool.{Bool, true, false}
use mathlib.Core.List.{List}
use mathlib.Core.Path.{◌≡◌, refl}
use Prim.Native.Nat.{ℕ, ◌+◌, ◌*◌, ◌^◌, ◌<◌}
use Rattle.capi_arrays.proofs.Packing.{held-array, stored-array}
use Rattle.capi_arrays.specs.Arrays.{array_of, held_in, placed, regrouped, stored_in, tag_array_of}
use Rattle.capi.specs.Generators.{draw_array, mask_array, start_array, words_array}
use Rattle.capi.specs.Tags.{ClosingArray, tag_array}
use Rattle.keystream.specs.Draws.{draw_outcome, fill_outcome}
use Rattle.mac.specs.Calls.{closing, refused_tag, update_outcome, update_words}
use Rattle.keystream.specs.Starts.{refused_start}
use Rattle.standard.specs.Refusals.{bad_bits, bad_state, spent, tested}
use Rattle.mask.specs.Outcome.{mask_tested}
use Rattle.standard.specs.States.{generator_formed, limit, words_to_draw, words_to_fill, zero_stored, zeros}
use Rattle.standard.specs.Bits.{bit_at, bit_of, window}
use Rattle.standard.specs.Notation.{◌⟨◌⟩, listed}
use Rattle.zuc.specs.Reading.{places_of}

pub start-refused : (n : ℕ) → start_array (refused_start n) ≡ record { number = n; array = replicate 20 0 }
unfolding array_of placed places_of zeros
start-refused n = refl

pub tag-start-refused : (n : ℕ) → tag_array (refused_tag n) ≡ record { number = n; array = replicate 21 0 }
unfolding tag_array_of zero_stored zeros placed places_of regrouped listed window bit_at bit_of
tag-start-refused n = refl

module _ (a : List ℕ) (full : length a ≡ 20) where
  pub draw-refused : generator_formed (held_in a) ≡ false → draw_array (draw_outcome (held_in a)) ≡ record { number = bad_state; word = 0; array = a }
  unfolding draw_outcome tested
  draw-refused e = rw e (λ i. record { number = bad_state; word = 0; array = held-array a full i })

  pub words-refused : (out : List ℕ) → generator_formed (held_in a) ≡ false
      → words_array (fill_outcome (held_in a) out) ≡ record { number = bad_state; array = a; buffer = out }
  unfolding fill_outcome tested
  words-refused out e = rw e (λ i. record { number = bad_state; array = held-array a full i; buffer = out })

  pub draw-spent : generator_formed (held_in a) ≡ true → leb ((held_in a).count + words_to_draw) limit ≡ false
      → draw_array (draw_outcome (held_in a)) ≡ record { number = spent; word = 0; array = a }
  unfolding draw_outcome tested
  draw-spent e l = rw (e, l) (λ i. record { number = spent; word = 0; array = held-array a full i })

  pub words-spent : (out : List ℕ) → generator_formed (held_in a) ≡ true → leb ((held_in a).count + words_to_fill out) limit ≡ false
      → words_array (fill_outcome (held_in a) out) ≡ record { number = spent; array = a; buffer = out }
  unfolding fill_outcome tested
  words-spent out e l = rw (e, l) (λ i. record { number = spent; array = held-array a full i; buffer = out })

  -- in either mode, whatever the mask would be and however many words it would draw
  module _ (words bits : ℕ) (buf mask : List ℕ) where
    pub mask-bad-state : generator_formed (held_in a) ≡ false
        → mask_array (mask_tested (held_in a) words bits buf mask) ≡ record { number = bad_state; count = 0; array = a; buffer = buf }
    unfolding mask_tested tested
    mask-bad-state e = rw e (λ i. record { number = bad_state; count = 0; array = held-array a full i; buffer = buf })

    pub mask-bad-bits : generator_formed (held_in a) ≡ true → leb bits (length buf * 8) ≡ false
        → mask_array (mask_tested (held_in a) words bits buf mask) ≡ record { number = bad_bits; count = 0; array = a; buffer = buf }
    unfolding mask_tested tested
    mask-bad-bits e l = rw (e, l) (λ i. record { number = bad_bits; count = 0; array = held-array a full i; buffer = buf })

    pub mask-spent : generator_formed (held_in a) ≡ true → leb bits (length buf * 8) ≡ true → leb ((held_in a).count + words) limit ≡ false
        → mask_array (mask_tested (held_in a) words bits buf mask) ≡ record { number = spent; count = 0; array = a; buffer = buf }
    unfolding mask_tested tested
    mask-spent e l m = rw (e, l, m) (λ i. record { number = spent; count = 0; array = held-array a full i; buffer = buf })

module _ (a : List ℕ) (full : length a ≡ 21) (fits : (k : ℕ) → k < length a → a ⟨ k ⟩ < 2 ^ 64) where
  pub update-refused : (ok : Bool) (message : List ℕ) → ok ≡ false
      → tag_array (update_outcome ok (stored_in a) message) ≡ record { number = bad_state; array = a }
  unfolding update_outcome tested
  update-refused ok message e = rw e (λ i. record { number = bad_state; array = stored-array a full fits i })

  pub update-spent : (ok : Bool) (message : List ℕ) → ok ≡ true → leb ((stored_in a).count + update_words (stored_in a).held message) limit ≡ false
      → tag_array (update_outcome ok (stored_in a) message) ≡ record { number = spent; array = a }
  unfolding update_outcome tested
  update-spent ok message e l = rw (e, l) (λ i. record { number = spent; array = stored-array a full fits i })

  -- at either kind, whatever the tag would be, in the words that the array of a tag has of it
  module _ {Tag : Type 0} (words : Tag → List ℕ) (none tag : Tag) (ok : Bool) (draws : ℕ) (tail : List ℕ) (bits : ℕ) where
    abbrev finished : ClosingArray
    finished =
        let o = closing none ok (stored_in a) draws tail bits tag in
        record { number = o.number; tag = words o.tag; array = tag_array_of o.state }

    pub finish-bad-state : ok ≡ false → finished ≡ record { number = bad_state; tag = words none; array = a }
    unfolding closing tested
    finish-bad-state e = rw e (λ i. record { number = bad_state; tag = words none; array = stored-array a full fits i })

    pub finish-bad-bits : ok ≡ true → leb bits (length tail * 8) ≡ false → finished ≡ record { number = bad_bits; tag = words none; array = a }
    unfolding closing tested
    finish-bad-bits e l = rw (e, l) (λ i. record { number = bad_bits; tag = words none; array = stored-array a full fits i })

    pub finish-spent : ok ≡ true → leb bits (length tail * 8) ≡ true → leb ((stored_in a).count + draws) limit ≡ false
        → finished ≡ record { number = spent; tag = words none; array = a }
    unfolding closing tested
    finish-spent e l m = rw (e, l, m) (λ i. record { number = spent; tag = words none; array = stored-array a full fits i })

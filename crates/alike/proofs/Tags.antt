-- The running rule of tags over alike generators: parts of it depend on what a generator means alone, so alike states of tags stay alike under
-- every update, and close to one tag. By induction on the message's bytes.
use mathlib.Core.Bool.{Bool, ◌&&◌}
use mathlib.Core.List.{List, [], ◌∷◌, ◌++◌}
use mathlib.Core.Path.{◌≡◌, ◌∙◌, ap, subst}
use Prim.Native.Nat.{ℕ, suc, ◌+◌, ◌-◌, ◌*◌, ◌/◌, ◌%◌, ◌^◌}
use lib.Dec.{eqb, leb, ltb}
use lib.ListN.{drop, length, replicate, take}
use Rattle.standard.specs.Bits.{M, bit_of, window, z}
use Rattle.standard.specs.Generator.{word, word_at}
use Rattle.standard.specs.Integrity.{T, is_width, words_to_close-EIA3, words_to_close-ZUC256, words_to_update}
use Rattle.std.specs.Prelude.{if◌then◌else◌}
use Rattle.standard.specs.Notation.{◌⊕◌}
use Rattle.standard.specs.States.{Counted, Stored, all_zero, formed, formed-128, limit, tag_formed, unused}
use Rattle.mac.specs.Calls.{close_words-128, close_words-256, taken_in, update_words}
use Rattle.mac_registers.specs.Stored.{key_of, key_words, packed, tag_of, tag_words, tagging_of}
use Rattle.mac_registers.specs.Tagging.{Tagging, absorbed, closed-EIA3, closed-ZUC256, ended, extra_word, fed, last_tag, left_over, updated}
use Rattle.alike.specs.Alike.{Alike, AlikeStored, AlikeTag}
use Rattle.alike.proofs.Alike.{alike-formed, alike_moved, if-related}

-- tags in the making: their generators are alike, and all else is equal
pub record AlikeTagging (st st' : Tagging) : Type 0 where
  pub generator : Alike st.generator st'.generator
  pub key : st.key ≡ st'.key
  pub tag : st.tag ≡ st'.tag
  pub waiting : st.waiting ≡ st'.waiting

-- as a state of tags holds them
pub alike-tagging : {s t : Stored} → AlikeStored s t → AlikeTagging (tagging_of s) (tagging_of t)
unfolding tagging_of
alike-tagging e =
    record {
      generator = e.generator;
      key = λ i. key_of (e.width i) (e.key i);
      tag = λ i. tag_of (e.width i) (e.tag i);
      waiting = λ i. take (e.cnt i) (e.rem i);
    }

pub alike-packed : {w w' : ℕ} {st st' : Tagging} → w ≡ w' → AlikeTagging st st' → AlikeStored (packed w st) (packed w' st')
unfolding packed
alike-packed v e =
    record {
      generator = e.generator;
      key = λ i. key_words (v i) (e.key i);
      tag = λ i. tag_words (v i) (e.tag i);
      rem = λ i. e.waiting i ++ replicate (16 - length (e.waiting i)) 0;
      cnt = λ i. length (e.waiting i);
      width = v;
    }

-- a byte, and so the bytes of an update
module _ (t : ℕ) where
  alike-fed : {st st' : Tagging} {block block' : List ℕ} → AlikeTagging st st' → block ≡ block' → AlikeTagging (fed t st block) (fed t st' block')
  unfolding fed
  alike-fed e b =
      record {
        generator = alike_moved e.generator (t / 32);
        key = λ i. e.key i * 2 ^ t % 2 ^ (t + t) + window (z (word_at (e.generator.meaning i))) 0 t;
        tag = λ i. e.tag i ⊕ T t (bit_of (t + t) (e.key i)) 0 (M (b i)) t;
        waiting = λ i. [];
      }

  alike-absorbed : {st st' : Tagging} (byte : ℕ) → AlikeTagging st st' → AlikeTagging (absorbed t st byte) (absorbed t st' byte)
  unfolding absorbed
  alike-absorbed {st} byte e =
      let longer = ap (λ (waiting : List ℕ). waiting ++ (byte ∷ [])) e.waiting in
      if-related AlikeTagging (ltb (suc (length st.waiting) * 8) t) (λ i. ltb (suc (length (e.waiting i)) * 8) t)
      (record { generator = e.generator; key = e.key; tag = e.tag; waiting = longer }) (alike-fed e longer)

  pub alike-updated : {st st' : Tagging} (message : List ℕ) → AlikeTagging st st' → AlikeTagging (updated t st message) (updated t st' message)
  unfolding updated
  alike-updated [] e = e
  alike-updated {st = st} {st' = st'} (byte ∷ rest) e = alike-updated {st = absorbed t st byte} {st' = absorbed t st' byte} rest (alike-absorbed byte e)

-- a closing
module _ (t : ℕ) {st st' : Tagging} (e : AlikeTagging st st') (tail : List ℕ) (l : ℕ) where
  alike-ended : AlikeTagging (ended t st tail l) (ended t st' tail l)
  unfolding ended
  alike-ended = alike-updated t (take (l / 8) tail) e

  pub same-closed : closed-ZUC256 t st tail l ≡ closed-ZUC256 t st' tail l
  unfolding closed-ZUC256 last_tag left_over
  same-closed =
      λ i.
      alike-ended.tag i
      ⊕ T t (bit_of (t + t) (alike-ended.key i)) 0 (M (alike-ended.waiting i ++ drop (l / 8) tail)) (length (alike-ended.waiting i) * 8 + l % 8)
      ⊕ window (bit_of (t + t) (alike-ended.key i)) (length (alike-ended.waiting i) * 8 + l % 8) t

  pub same-extra : extra_word (ended t st tail l) (left_over (ended t st tail l) l) ≡ extra_word (ended t st' tail l) (left_over (ended t st' tail l) l)
  unfolding extra_word left_over
  same-extra =
      λ i.
      if eqb (length (alike-ended.waiting i) * 8 + l % 8) 0 then alike-ended.key i % 2 ^ 32 else word (alike-ended.generator.meaning i)

-- of a state of tags: the tests, an update, the tags, and the words that they draw
module _ {s t : Stored} (e : AlikeStored s t) where
  pub same-formed : formed s ≡ formed t
  unfolding formed
  same-formed =
      λ i.
      alike-formed e.generator i && is_width (e.width i) && all_zero (unused (e.width i) (e.key i) (e.tag i)) && ltb (e.cnt i) (e.width i)
      && all_zero (drop (e.cnt i) (e.rem i))

  pub same-formed-128 : formed-128 s ≡ formed-128 t
  unfolding formed-128
  same-formed-128 = λ i. same-formed i && eqb (e.width i) 4

  pub alike-after : (message : List ℕ)
      → AlikeStored (packed s.width (updated (s.width * 8) (tagging_of s) message)) (packed t.width (updated (t.width * 8) (tagging_of t) message))
  alike-after message =
      subst (λ (w : ℕ). AlikeStored (packed s.width (updated (s.width * 8) (tagging_of s) message)) (packed w (updated (w * 8) (tagging_of t) message))) e.width
      (alike-packed (λ i. s.width) (alike-updated (s.width * 8) message (alike-tagging e)))

  pub same-tag-128 : (tail : List ℕ) (l : ℕ) → closed-EIA3 (tagging_of s) tail l ≡ closed-EIA3 (tagging_of t) tail l
  unfolding closed-EIA3
  same-tag-128 tail l = λ i. same-closed 32 (alike-tagging e) tail l i ⊕ same-extra 32 (alike-tagging e) tail l i

  pub same-tag-256 : (tail : List ℕ) (l : ℕ)
      → tag_words s.width (closed-ZUC256 (s.width * 8) (tagging_of s) tail l) ≡ tag_words t.width (closed-ZUC256 (t.width * 8) (tagging_of t) tail l)
  same-tag-256 tail l =
      ap (tag_words s.width) (same-closed (s.width * 8) (alike-tagging e) tail l)
      ∙ ap (λ (w : ℕ). tag_words w (closed-ZUC256 (w * 8) (tagging_of t) tail l)) e.width

  pub same-update_words : (message : List ℕ) → update_words s message ≡ update_words t message
  same-update_words message = λ i. words_to_update (e.width i * 8) (e.cnt i) (length message)

  pub same-close_words-128 : (l : ℕ) → close_words-128 s l ≡ close_words-128 t l
  same-close_words-128 l = λ i. words_to_close-EIA3 (e.cnt i) l

  pub same-close_words-256 : (l : ℕ) → close_words-256 s l ≡ close_words-256 t l
  same-close_words-256 l = λ i. words_to_close-ZUC256 (e.width i * 8) (e.cnt i) l

-- and with its count
module _ {s t : Counted Stored} (e : AlikeTag s t) where
  pub same-tag_formed : (test : Stored → Bool) → test s.held ≡ test t.held → tag_formed test s ≡ tag_formed test t
  unfolding tag_formed
  same-tag_formed test f = λ i. f i && leb (e.count i) limit

  pub alike-taken_in : (message : List ℕ) → AlikeTag (taken_in s message) (taken_in t message)
  alike-taken_in message = record { held = alike-after e.held message; count = λ i. e.count i + same-update_words e.held message i }

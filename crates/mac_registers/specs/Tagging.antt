-- The running rule: a tag in the making at t bits, as numbers, and what starts, message bytes and closings do to it. Nobody need believe it:
-- the theorems rule-… of mac_laws/proofs/Theorems.antt say that a start, updates and a closing give the standard's tag.
use Rattle.std.specs.Prelude.{List, [], ◌∷◌, ◌++◌, ℕ, suc, ◌+◌, ◌*◌, ◌/◌, ◌%◌, ◌^◌, eqb, ltb, drop, length, take, if◌then◌else◌}
use Rattle.standard.specs.Notation.{◌⊕◌}
use Rattle.standard.specs.Bits.{M, bit_of, window, z}
use Rattle.standard.specs.Generator.{word, word_at}
use Rattle.standard.specs.Integrity.{T}
use Rattle.standard.specs.States.{Held, moved}

-- the generator, the key pair (the next 2t keystream bits to use), the tag of t bits, and the bytes that wait for a block
pub record Tagging : Type 0 where
  pub generator : Held
  pub key : ℕ
  pub tag : ℕ
  pub waiting : List ℕ

-- ZUC-128 and EIA3: no tag yet, and the first 64 bits in the key pair
unfoldable pub begun-EIA3 : Held → Tagging
begun-EIA3 h = record { generator = moved 2 h; key = window (z (word_at h.meaning)) 0 64; tag = 0; waiting = [] }

-- ZUC-256: the first t bits in the tag, and the next 2t in the key pair
unfoldable pub begun-ZUC256 : ℕ → Held → Tagging
begun-ZUC256 t h =
    record {
      generator = moved (3 * (t / 32)) h;
      key = window (z (word_at h.meaning)) t (t + t);
      tag = window (z (word_at h.meaning)) 0 t;
      waiting = [];
    }

-- a block of t message bits: the key pair's windows at its set bits go into the tag, and the key pair moves on by t bits
unfoldable pub fed : ℕ → Tagging → List ℕ → Tagging
fed t st block =
    record {
      generator = moved (t / 32) st.generator;
      key = st.key * 2 ^ t % 2 ^ (t + t) + window (z (word_at st.generator.meaning)) 0 t;
      tag = st.tag ⊕ T t (bit_of (t + t) st.key) 0 (M block) t;
      waiting = [];
    }

-- a message byte: it waits, or completes a block
unfoldable pub absorbed : ℕ → Tagging → ℕ → Tagging
absorbed t st byte =
    if ltb (suc (length st.waiting) * 8) t
    then record { generator = st.generator; key = st.key; tag = st.tag; waiting = st.waiting ++ (byte ∷ []) }
    else fed t st (st.waiting ++ (byte ∷ []))

-- the bytes of an update, one after the other
unfoldable pub updated : ℕ → Tagging → List ℕ → Tagging
updated t st [] = st
updated t st (byte ∷ rest) = updated t (absorbed t st byte) rest

-- a closing by l bits of a tail: first the tail's whole bytes; bits are then left over, fewer than a block
unfoldable pub ended : ℕ → Tagging → List ℕ → ℕ → Tagging
ended t st tail l = updated t st (take (l / 8) tail)

unfoldable pub left_over : Tagging → ℕ → ℕ
left_over st l = length st.waiting * 8 + l % 8

-- the windows at the set bits among the n left over, and the window after them
unfoldable pub last_tag : ℕ → Tagging → List ℕ → ℕ → ℕ
last_tag t st rest n =
    st.tag ⊕ T t (bit_of (t + t) st.key) 0 (M (st.waiting ++ rest)) n ⊕ window (bit_of (t + t) st.key) n t

-- ZUC-256: that is the tag
unfoldable pub closed-ZUC256 : ℕ → Tagging → List ℕ → ℕ → ℕ
closed-ZUC256 t st tail l = last_tag t (ended t st tail l) (drop (l / 8) tail) (left_over (ended t st tail l) l)

-- ZUC-128 and EIA3: one word more, the key pair's low half where no bit is left over, and else a fresh one
unfoldable pub extra_word : Tagging → ℕ → ℕ
extra_word st n = if eqb n 0 then st.key % 2 ^ 32 else word st.generator.meaning

unfoldable pub closed-EIA3 : Tagging → List ℕ → ℕ → ℕ
closed-EIA3 st tail l = closed-ZUC256 32 st tail l ⊕ extra_word (ended 32 st tail l) (left_over (ended 32 st tail l) l)

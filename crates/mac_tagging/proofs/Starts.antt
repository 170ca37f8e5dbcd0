-- A start on fresh words: the key pair, and for ZUC-256 the tag before it, are the first bits of the keystream.
use mathlib.Core.Path.{◌≡◌, ap, ◌∙◌}
use mathlib.Core.List.{List, [], ◌∷◌}
use Prim.Native.Nat.{ℕ, ◌+◌, ◌*◌, ◌/◌}
use native.Mathlib.Omega.{arith}
use lib.ListN.{replicate, take}
use Rattle.standard.specs.States.{Held, moved}
use Rattle.standard.specs.Bits.{window, z}
use Rattle.standard.specs.Generator.{word_at}
use Rattle.standard.specs.Notation.{listed}
use Rattle.mac_registers.specs.Stored.{key_words, packed, tag_words}
use Rattle.mac_registers.specs.Inner.{Width, bits_of}
use Rattle.mac_registers.specs.Tagging.{begun-EIA3, begun-ZUC256}
use Rattle.mac_registers.proofs.Fresh.{bits-drawn, quarters}
use Rattle.mac_blocks.proofs.Moves.{quarter}

module _ (σ next : Held) (words key : List ℕ) where
  pub begun-128 : next ≡ moved 2 σ → take 2 words ≡ listed (word_at σ.meaning) 0 2 → key ≡ key_words 4 (window (bits_of words) (0 * 32) (4 * 8 + 4 * 8))
      → record { generator = next; key = key; tag = 0 ∷ 0 ∷ []; rem = replicate 16 0; cnt = 0; width = 4 } ≡ packed 4 (begun-EIA3 σ)
  unfolding packed begun-EIA3 tag_words
  begun-128 en drawn ek =
      λ i. record {
        generator = en i;
        key = (ek ∙ ap (key_words 4) (bits-drawn words 2 σ drawn 0 64 (omega arith))) i;
        tag = 0 ∷ 0 ∷ [];
        rem = replicate 16 0;
        cnt = 0;
        width = 4;
      }

  module _ {w : ℕ} (v : Width w) (tag : List ℕ) where
    pub begun-256 : next ≡ moved (w / 4 * 3) σ → take (w / 4 * 3) words ≡ listed (word_at σ.meaning) 0 (w / 4 * 3)
        → tag ≡ tag_words w (window (bits_of words) (0 * 32) (w * 8)) → key ≡ key_words w (window (bits_of words) (w / 4 * 32) (w * 8 + w * 8))
        → record { generator = next; key = key; tag = tag; rem = replicate 16 0; cnt = 0; width = w } ≡ packed w (begun-ZUC256 (w * 8) σ)
    unfolding packed begun-ZUC256
    begun-256 en drawn et ek =
        λ i. record {
          generator = (en ∙ ap (λ (n : ℕ). moved n σ) three) i;
          key =
              (ek
              ∙ ap (key_words w)
              (bits-drawn words (w / 4 * 3) σ drawn (w / 4 * 32) (w * 8 + w * 8) (omega (arith, quarters v))
              ∙ ap (λ (a : ℕ). window (z (word_at σ.meaning)) a (w * 8 + w * 8)) (quarters v))) i;
          tag = (et ∙ ap (tag_words w) (bits-drawn words (w / 4 * 3) σ drawn 0 (w * 8) (omega (arith, quarters v)))) i;
          rem = replicate 16 0;
          cnt = 0;
          width = w;
        }
      where
        three : w / 4 * 3 ≡ 3 * (w * 8 / 32)
        three = omega (arith, quarter w)

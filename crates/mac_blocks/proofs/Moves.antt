-- What a block does to the state that a held struct packs: fresh words go into the key pair, its sum into the tag, and nothing waits.
use mathlib.Core.Path.{◌≡◌, sym, ap, ◌∙◌}
use mathlib.Core.List.{List, ◌++◌}
use Prim.Native.Nat.{ℕ, ◌+◌, ◌*◌, ◌/◌, ◌%◌, ◌^◌, ◌<◌}
use native.Mathlib.Omega.{arith}
use lib.ListN.{length, replicate, take}
use Rattle.standard.specs.Notation.{◌⊕◌}
use Rattle.standard.specs.Bits.{M, bit_of, window, z}
use Rattle.standard.specs.Generator.{word_at}
use Rattle.standard.specs.States.{moved}
use Rattle.standard.specs.Integrity.{T}
use Rattle.mac_registers.specs.Stored.{key_of, key_words, packed, tag_of, tag_words, tagging_of}
use Rattle.mac_registers.specs.Inner.{Holds, Width}
use Rattle.standard.specs.States.{Stored}
use Rattle.mac_registers.specs.Tagging.{fed, updated}
use Rattle.mac_registers.proofs.Cutting.{updated-block}
use Rattle.mac_registers.proofs.Packed.{tag_back, width-most}

-- as many words as a width has
pub quarter : (w : ℕ) → w / 4 ≡ w * 8 / 32
quarter w = omega arith

-- a block
pub fed-is : (s : Stored) → Width s.width → (block sum f key : List ℕ)
    → sum ≡ tag_words s.width (tag_of s.width s.tag ⊕ T (s.width * 8) (bit_of (s.width * 8 + s.width * 8) (key_of s.width s.key)) 0 (M block) (s.width * 8))
    → f ≡ tag_words s.width (window (z (word_at s.generator.meaning)) 0 (s.width * 8))
    → key ≡ key_words s.width (key_of s.width s.key * 2 ^ (s.width * 8) % 2 ^ (s.width * 8 + s.width * 8) + tag_of s.width f)
    → record { generator = moved (s.width / 4) s.generator; key = key; tag = sum; rem = replicate 16 0; cnt = 0; width = s.width }
    ≡ packed s.width (fed (s.width * 8) (tagging_of s) block)
unfolding packed fed tagging_of
fed-is s v block sum f key es ef ek =
    λ i. record {
      generator = moved (quarter s.width i) s.generator;
      key =
          (ek
          ∙ ap (λ (x : ℕ). key_words s.width (key_of s.width s.key * 2 ^ (s.width * 8) % 2 ^ (s.width * 8 + s.width * 8) + x))
          (ap (tag_of s.width) ef ∙ tag_back v (window (z (word_at s.generator.meaning)) 0 (s.width * 8)))) i;
      tag = es i;
      rem = replicate 16 0;
      cnt = 0;
      width = s.width;
    }

-- a held struct: the count of what waits, and the struct with nothing waiting
module _ (s : Stored) (h : Holds s) where
  pub cnt-is : length (tagging_of s).waiting ≡ s.cnt
  unfolding packed
  cnt-is = ap (λ (x : Stored). x.cnt) h.packs

  pub cnt-lt : s.cnt < s.width
  cnt-lt = omega (arith, cnt-is, h.good.short)

  pub cnt-most : s.cnt < 16
  cnt-most = omega (arith, cnt-lt, width-most h.good.a-width)

  -- with nothing waiting it is held too
  abbrev pub emptied : Stored
  emptied = record { generator = s.generator; key = s.key; tag = s.tag; rem = replicate 16 0; cnt = 0; width = s.width }

  pub emptied-held : Holds emptied
  unfolding packed tagging_of
  emptied-held =
      record {
        good =
            record {
              a-width = h.good.a-width;
              sound = h.good.sound;
              tag-lt = h.good.tag-lt;
              short = omega (arith, cnt-lt);
            };
        packs =
            λ i. record {
              generator = s.generator;
              key = ap (λ (x : Stored). x.key) h.packs i;
              tag = ap (λ (x : Stored). x.tag) h.packs i;
              rem = replicate 16 0;
              cnt = 0;
              width = s.width;
            };
      }

  -- a whole block where nothing waits
  pub block-is : (m : List ℕ) → s.cnt ≡ 0 → length m ≡ s.width
      → packed s.width (fed (s.width * 8) (tagging_of s) m) ≡ packed s.width (updated (s.width * 8) (tagging_of s) m)
  unfolding tagging_of
  block-is m e l =
      ap (packed s.width)
      (ap (λ (x : List ℕ). fed (s.width * 8) (tagging_of s) (x ++ m)) (sym (ap (λ (n : ℕ). take n s.rem) e))
      ∙ sym (updated-block (s.width * 8) m (tagging_of s) (omega (arith, cnt-lt)) (omega (arith, cnt-is))))

-- A tag of 32 bits in the making with nothing waiting: a turn of the bulk loop feeds it a block, and it goes into the struct and out of it.
use mathlib.Core.List.{List, [], ◌∷◌}
use mathlib.Core.Path.{◌≡◌, refl, sym, ap, ◌∙◌}
use native.Mathlib.Nat.{add-zero}
use native.Mathlib.Omega.{arith}
use Prim.Native.Nat.{ℕ, ◌+◌, ◌-◌, ◌*◌, ◌%◌, ◌^◌, ◌≤◌}
use lib.ListN.{drop, length, length-drop, replicate, take}
use lib.Seq.{length-take-le}
use Rattle.standard.proofs.Generator.{word_at-lt}
use Rattle.standard.proofs.Held.{moved-moved, word_at-moved}
use Rattle.standard.proofs.Window.{window-cell}
use Rattle.standard.specs.Bits.{M, window, z}
use Rattle.standard.specs.Generator.{word_at}
use Rattle.standard.specs.Notation.{◌⊕◌, ◌⟨◌⟩}
use Rattle.mac_registers.specs.InnerLookup.{summed}
use Rattle.mac_registers.specs.Stored.{key_of, key_words, packed, tag_of, tag_words, tagging_of}
use Rattle.standard.specs.States.{Held, Stored, moved}
use Rattle.mac_registers.specs.Tagging.{Tagging, fed, updated}
use Rattle.mac_registers.proofs.Cutting.{updated-block, updated-on}
use Rattle.standard.proofs.Register.{shl-keeps}
use Rattle.mac_registers.proofs.Widths.{block-bits}

abbrev pub idle : Held → ℕ → ℕ → Tagging
idle σ key tag = record { generator = σ; key = key; tag = tag; waiting = [] }

-- a block: word j goes into the key pair, and the windows at the set bits into the tag
fed-word : (σ : Held) (j key tag sum w : ℕ) (block : List ℕ) → sum ≡ summed 32 key (window (M block) 0 32) → w ≡ word_at σ.meaning j
    → idle (moved (j + 1) σ) (key % 2 ^ 32 * 2 ^ 32 + w) (tag ⊕ sum) ≡ fed 32 (idle (moved j σ) key tag) block
unfolding fed z
fed-word σ j key tag sum w block es ew =
    λ i. record {
      generator = sym (moved-moved j 1 σ) i;
      key =
          (ap (λ (x : ℕ). x + w) (sym (shl-keeps key 32 32))
          ∙ ap (λ (x : ℕ). key * 2 ^ 32 % 2 ^ (32 + 32) + x)
          (ew
          ∙ sym
          (window-cell 32 (omega arith) (word_at (moved j σ).meaning) 0 (word_at-lt (moved j σ).meaning 0) ∙ word_at-moved j 0 σ ∙ ap (word_at σ.meaning) (add-zero j)))) i;
      tag = ap (λ (x : ℕ). tag ⊕ x) (es ∙ block-bits 32 key block) i;
      waiting = [];
    }

-- the same of block j of a part, the blocks before it having been taken in
pub fed-part : (σ : Held) (st : Tagging) (part : List ℕ) (j key tag sum w : ℕ) → 4 * j + 4 ≤ length part
    → idle (moved j σ) key tag ≡ updated 32 st (take (4 * j) part)
    → sum ≡ summed 32 key (window (M (take (4 * j + 4 - 4 * j) (drop (4 * j) part))) 0 32)
    → w ≡ word_at σ.meaning j
    → idle (moved (j + 1) σ) (key % 2 ^ 32 * 2 ^ 32 + w) (tag ⊕ sum) ≡ updated 32 st (take (4 * (j + 1)) part)
fed-part σ st part j key tag sum w room old es ew =
    fed-word σ j key tag sum w block es ew
    ∙ sym (updated-block 32 block (idle (moved j σ) key tag) (omega (arith, four)) (omega (arith, four)))
    ∙ ap (λ (x : Tagging). updated 32 x block) old
    ∙ updated-on 32 st part (4 * j) (4 * j + 4) (omega arith)
    ∙ ap (λ (n : ℕ). updated 32 st (take n part)) next
  where
    block : List ℕ
    block = take (4 * j + 4 - 4 * j) (drop (4 * j) part)

    four : length block ≡ 4
    four = length-take-le (4 * j + 4 - 4 * j) (drop (4 * j) part) (omega (arith, length-drop (4 * j) part)) ∙ omega arith

    next : 4 * j + 4 ≡ 4 * (j + 1)
    next = omega arith

-- out of a struct where nothing waits, and back
pub taken_out : (s : Stored) → s.width ≡ 4 → s.cnt ≡ 0 → idle s.generator (s.key ⟨ 0 ⟩) (s.tag ⟨ 0 ⟩) ≡ tagging_of s
unfolding tagging_of key_of tag_of
taken_out s w c = rw (w, c) refl

pub put_back : (σ : Held) (key tag : ℕ)
    → record { generator = σ; key = key ∷ 0 ∷ 0 ∷ 0 ∷ []; tag = tag ∷ 0 ∷ []; rem = replicate 16 0; cnt = 0; width = 4 } ≡ packed 4 (idle σ key tag)
unfolding packed key_words tag_words
put_back σ key tag = refl

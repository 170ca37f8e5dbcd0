-- Words drawn before they are used: a block takes its own of them.
use mathlib.Core.Logic.{⊎_elim}
use mathlib.Core.Path.{◌≡◌, refl, sym, ap, ◌∙◌, subst}
use mathlib.Core.List.{List}
use Prim.Native.Nat.{ℕ, ◌+◌, ◌*◌, ◌-◌, ◌/◌, ◌%◌, ◌^◌, ◌<◌, ◌≤◌}
use native.Mathlib.Omega.{arith}
use lib.ListN.{drop, length, length-drop, take}
use lib.Seq.{length-take-le, take_all}
use Rattle.standard.specs.Bits.{M, bit_of, window}
use Rattle.standard.specs.Generator.{word_at}
use Rattle.standard.specs.States.{Held, Stored, moved}
use Rattle.standard.specs.Notation.{◌⊕◌, listed}
use Rattle.standard.specs.Integrity.{T}
use Rattle.standard.proofs.Held.{moved-moved, moved_none}
use Rattle.mac_registers.specs.Stored.{key_of, key_words, packed, tag_of, tag_words, tagging_of}
use Rattle.mac_registers.specs.Inner.{Good, Holds, Width, bits_of}
use Rattle.mac_registers.specs.Tagging.{updated}
use Rattle.mac_blocks.specs.InnerWhole.{empty_of}
use Rattle.mac_registers.proofs.Cutting.{updated-on}
use Rattle.mac_registers.proofs.Fresh.{bits-drawn, quarters}
use Rattle.mac_registers.proofs.Message.{window-after}
use Rattle.mac_registers.proofs.Packed.{at_packed, good-updated, held-as, width-whole}
use Rattle.mac_blocks.proofs.Moves.{block-is, fed-is}

-- a place before the end, both at whole blocks: there is a block more
abbrev Room : ℕ → Type 0
Room w = (i l n k : ℕ) → i ≡ n * w → l ≡ k * w → i < l → (i + w ≤ l) × (i % 4 ≡ 0) × (0 < w)

pub room : {w : ℕ} → Width w → Room w
room v =
    ⊎_elim (λ e. subst Room (sym e) (λ i l n k p q h. (omega arith, omega arith, omega arith)))
    (λ o. ⊎_elim (λ e. subst Room (sym e) (λ i l n k p q h. (omega arith, omega arith, omega arith)))
    (λ e. subst Room (sym e) (λ i l n k p q h. (omega arith, omega arith, omega arith))) o) v

-- a block more, with its words
module _ (w : ℕ) (key tag words part : List ℕ) (σ : Held) (held : Holds (empty_of w σ key tag))
    (drawn : take (length part / 4) words ≡ listed (word_at σ.meaning) 0 (length part / 4)) where
  abbrev After : ℕ → List ℕ → List ℕ → Type 0
  After i k t = empty_of w (moved (i / 4) σ) k t ≡ packed w (updated (w * 8) (tagging_of (empty_of w σ key tag)) (take i part))

  pub fed-none : After 0 key tag
  unfolding updated
  fed-none = ap (λ (τ : Held). empty_of w τ key tag) (moved_none σ) ∙ sym held.packs

  pub fed-on : (i : ℕ) (k t sum f k' : List ℕ) → After i k t → (n : ℕ) × (i ≡ n * w) → (m : ℕ) × (length part ≡ m * w)
      → i < length part
      → sum ≡ tag_words w (tag_of w t ⊕ T (w * 8) (bit_of (w * 8 + w * 8) (key_of w k)) 0 (M (take (i + w - i) (drop i part))) (w * 8))
      → f ≡ tag_words w (window (bits_of words) (i / 4 * 32) (w * 8))
      → k' ≡ key_words w (key_of w k * 2 ^ (w * 8) % 2 ^ (w * 8 + w * 8) + tag_of w f)
      → After (i + w) k' sum
  fed-on i k t sum f k' so n m less es ef ek =
      ap (λ (τ : Held). empty_of w τ k' sum) (ap (λ (n : ℕ). moved n σ) next ∙ sym (moved-moved (i / 4) (w / 4) σ))
      ∙ fed-is s held.good.a-width block sum f k' es (ef ∙ ap (tag_words w) (bits-drawn words (length part / 4) σ drawn (i / 4 * 32) (w * 8) ahead ∙ sym (window-after (w * 8) (i / 4) σ))) ek
      ∙ block-is s (held-as so good) block refl full
      ∙ at_packed (λ x y. packed x (updated (x * 8) y block)) so good
      ∙ ap (packed w) (updated-on (w * 8) (tagging_of (empty_of w σ key tag)) part i (i + w) (omega arith))
    where
      fits : (i + w ≤ length part) × (i % 4 ≡ 0) × (0 < w)
      fits = room held.good.a-width i (length part) n.0 m.0 n.1 m.1 less

      block : List ℕ
      block = take (i + w - i) (drop i part)

      whole : i + w - i ≡ w
      whole = omega arith

      full : length block ≡ w
      full = length-take-le (i + w - i) (drop i part) (omega (arith, fits.0, length-drop i part)) ∙ whole

      s : Stored
      s = empty_of w (moved (i / 4) σ) k t

      good : Good w (updated (w * 8) (tagging_of (empty_of w σ key tag)) (take i part))
      good = good-updated (take i part) held.good

      next : (i + w) / 4 ≡ i / 4 + w / 4
      next = omega (arith, (width-whole held.good.a-width).0, fits.1)

      below : (i + w) / 4 ≤ length part / 4
      below = omega (arith, fits.0)

      ahead : i / 4 * 32 + w * 8 ≤ length part / 4 * 32
      ahead = omega (arith, next, below, quarters held.good.a-width)

  -- and all of them
  pub fed-all : (i : ℕ) (k t : List ℕ) → After i k t → i ≡ length part
      → empty_of w (moved (length part / 4) σ) k t ≡ packed w (updated (w * 8) (tagging_of (empty_of w σ key tag)) part)
  fed-all i k t so e =
      ap (λ (n : ℕ). empty_of w (moved (n / 4) σ) k t) (sym e) ∙ so
      ∙ ap (λ (l : List ℕ). packed w (updated (w * 8) (tagging_of (empty_of w σ key tag)) l)) (take_all i part (omega arith))

-- a held struct where nothing waits
pub emptied-is : (s : Stored) → s.cnt ≡ 0 → tagging_of (empty_of s.width s.generator s.key s.tag) ≡ tagging_of s
unfolding tagging_of
emptied-is s e =
    ap (λ (n : ℕ). record { generator = s.generator; key = key_of s.width s.key; tag = tag_of s.width s.tag; waiting = take n s.rem }) (sym e)

-- The closing calls, from what the inner functions promise: the struct after the tail's whole bytes packs the abstract state then.
use mathlib.Core.Path.{◌≡◌, refl, sym, ap, ap₂, ◌∙◌, subst}
use mathlib.Core.List.{List, ◌++◌}
use Prim.Native.Nat.{ℕ, ◌+◌, ◌*◌, ◌/◌, ◌%◌, ◌^◌, ◌<◌}
use lib.Bits.{bit_xor, xor_lt}
use lib.ListN.{drop, length, take}
use Rattle.standard.specs.Notation.{◌⊕◌, ◌⟨◌⟩}
use Rattle.standard.specs.Bits.{M, bit_of, window}
use Rattle.standard.specs.Integrity.{T}
use Rattle.standard.proofs.Sum.{sum_lt}
use Rattle.standard.proofs.Window.{bit_of-lt, window-lt}
use Rattle.mac_registers.specs.Stored.{packed, tag_words, tagging_of}
use Rattle.mac_registers.specs.Inner.{Good, Holds}
use Rattle.standard.specs.States.{Stored}
use Rattle.mac_registers.specs.Tagging.{Tagging, closed-EIA3, closed-ZUC256, ended, extra_word, last_tag, left_over, updated}
use Rattle.mac_registers.proofs.Packed.{at_packed, good-updated, held-as}
use Rattle.mac_blocks.proofs.Moves.{cnt-is}

pub last_tag-lt : {w : ℕ} {st : Tagging} → Good w st → (rest : List ℕ) (n : ℕ) → last_tag (w * 8) st rest n < 2 ^ (w * 8)
unfolding last_tag
last_tag-lt {w} {st} g rest n =
    xor_lt (w * 8) (st.tag ⊕ T (w * 8) S 0 (M (st.waiting ++ rest)) n) (window S n (w * 8))
    (xor_lt (w * 8) st.tag (T (w * 8) S 0 (M (st.waiting ++ rest)) n) g.tag-lt (sum_lt (w * 8) S bits 0 (M (st.waiting ++ rest)) n))
    (window-lt S bits n (w * 8))
  where
    S : ℕ → ℕ
    S = bit_of (w * 8 + w * 8) st.key

    bits : (i : ℕ) → S i < 2
    bits = bit_of-lt (w * 8 + w * 8) st.key

module _ {w : ℕ} {st : Tagging} (g : Good w st) (tail : List ℕ) (l : ℕ) (e : Stored) (up : e ≡ packed w (updated (w * 8) st (take (l / 8) tail))) where
  end-good : Good w (ended (w * 8) st tail l)
  unfolding ended
  end-good = good-updated (take (l / 8) tail) g

  pub end-held : Holds e
  end-held = held-as up (good-updated (take (l / 8) tail) g)

  -- what is said of the struct's own reading, with the bits left over counted by it, said of the abstract end
  at-end : {A : Type 0} (F : ℕ → Tagging → ℕ → A) → F e.width (tagging_of e) (e.cnt * 8 + l % 8) ≡ F w (ended (w * 8) st tail l) (left_over (ended (w * 8) st tail l) l)
  unfolding ended left_over
  at-end F =
      ap (λ (n : ℕ). F e.width (tagging_of e) (n * 8 + l % 8)) (sym (cnt-is e end-held))
      ∙ at_packed (λ x y. F x y (length y.waiting * 8 + l % 8)) up (good-updated (take (l / 8) tail) g)

  pub closes-256 : (x : List ℕ) → x ≡ tag_words e.width (last_tag (e.width * 8) (tagging_of e) (drop (l / 8) tail) (e.cnt * 8 + l % 8))
      → x ≡ tag_words w (closed-ZUC256 (w * 8) st tail l)
  unfolding closed-ZUC256
  closes-256 x h = h ∙ at-end (λ a b n. tag_words a (last_tag (a * 8) b (drop (l / 8) tail) n))

  module _ (four : w ≡ 4) (x : List ℕ) (h : x ≡ tag_words e.width (last_tag (e.width * 8) (tagging_of e) (drop (l / 8) tail) (e.cnt * 8 + l % 8))) where
    tag_is : x ⟨ 0 ⟩ ≡ closed-ZUC256 (w * 8) st tail l
    unfolding tag_words
    tag_is = ap (λ (y : List ℕ). y ⟨ 0 ⟩) (closes-256 x h) ∙ rw four refl

    pub tag_fits : x ⟨ 0 ⟩ < 2 ^ 32
    unfolding closed-ZUC256
    tag_fits = rw tag_is (subst (λ (n : ℕ). closed-ZUC256 (w * 8) st tail l < 2 ^ (n * 8)) four (last_tag-lt end-good (drop (l / 8) tail) (left_over (ended (w * 8) st tail l) l)))

    pub width_four : e.width ≡ 4
    unfolding packed
    width_four = ap (λ (y : Stored). y.width) up ∙ four

    pub closes-128 : (word : ℕ) → word ≡ extra_word (tagging_of e) (e.cnt * 8 + l % 8) → x ⟨ 0 ⟩ ⊕ word ≡ closed-EIA3 st tail l
    unfolding closed-EIA3
    closes-128 word f =
        ap₂ bit_xor tag_is (f ∙ at-end (λ a b n. extra_word b n))
        ∙ ap (λ (n : ℕ). closed-ZUC256 (n * 8) st tail l ⊕ extra_word (ended (n * 8) st tail l) (left_over (ended (n * 8) st tail l) l)) four

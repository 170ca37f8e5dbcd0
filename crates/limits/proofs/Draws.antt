-- What the test of an update or a closing counts is what the call draws, of any well-formed state, also one that no start reaches; from the
-- words that bytes draw.
use mathlib.Core.Bool.{Bool}
use mathlib.Core.List.{List}
use mathlib.Core.Logic.{⊎_elim}
use mathlib.Core.Path.{◌≡◌, sym, ap, ◌∙◌, subst}
use Prim.Native.Nat.{ℕ, ◌+◌, ◌*◌, ◌/◌, ◌%◌, ◌≤◌}
use native.Mathlib.Nat.{div-div-eq-div-mul, eq-zero-or-pos, mul_comm, mul-div_cancel, mul-div-mul_left}
use native.Mathlib.Omega.{arith}
use lib.Dec.{lit<}
use lib.ListN.{length, take}
use lib.Seq.{length-take-le}
use borrow.Author.Tests.{eq-eqb, ne_eqb}
use Rattle.standard.specs.Integrity.{words_to_close-ZUC256, words_to_update}
use Rattle.std.specs.Prelude.{if◌then◌else◌}
use Rattle.standard.specs.States.{Stored, moved}
use Rattle.standard.proofs.Held.{moved_more}
use Rattle.mac_registers.specs.Inner.{Holds, extra_state}
use Rattle.mac_registers.specs.Stored.{packed, tagging_of}
use Rattle.mac_registers.specs.Tagging.{Tagging, ended, left_over, updated}
use Rattle.mac_counts.proofs.Drawn.{Drew, drew-updated}
use Rattle.mac.specs.Calls.{close_words-128, close_words-256, update_words}

module _ (s : Stored) (h : Holds s) where
  abbrev st : Tagging
  st = tagging_of s

  waiting : length st.waiting ≡ s.cnt
  unfolding packed
  waiting = ap (λ (x : Stored). x.cnt) h.packs

  drew : (m : List ℕ) → Drew s.width st (updated (s.width * 8) st m) (length m)
  drew m = drew-updated (omega (arith, h.good.short)) m st h.good.short

  pub update-draws : (m : List ℕ) → (updated (s.width * 8) st m).generator ≡ moved (update_words s m) st.generator
  update-draws m = (drew m).0 ∙ ap (λ (c : ℕ). moved (words_to_update (s.width * 8) c (length m)) st.generator) waiting

  -- and leaves so many bytes waiting
  pub update-leaves : (m : List ℕ) → length (updated (s.width * 8) st m).waiting ≡ (s.cnt + length m) % s.width
  update-leaves m = (drew m).1 ∙ ap (λ (c : ℕ). (c + length m) % s.width) waiting

  module _ (tail : List ℕ) (l : ℕ) (fits : l ≤ length tail * 8) where
    bytes : length (take (l / 8) tail) ≡ l / 8
    bytes = length-take-le (l / 8) tail (omega arith)

    whole : (w c : ℕ) → words_to_update (w * 8) c (l / 8) ≡ words_to_close-ZUC256 (w * 8) c l
    whole w c =
        ap (λ (n : ℕ). w * 8 / 32 * n)
        (ap (λ (n : ℕ). 8 * (c + l / 8) / n) (mul_comm w 8)
        ∙ mul-div-mul_left (c + l / 8) w (lit< tt)
        ∙ ap (λ (n : ℕ). n / w) eighth
        ∙ div-div-eq-div-mul (8 * c + l) 8 w
        ∙ ap (λ (n : ℕ). (8 * c + l) / n) (mul_comm 8 w))
      where
        eighth : c + l / 8 ≡ (8 * c + l) / 8
        eighth = omega arith

    -- ZUC-256: no word beyond those of the tail's whole bytes
    pub finish-draws-256 : (ended (s.width * 8) st tail l).generator ≡ moved (close_words-256 s l) st.generator
    unfolding ended
    finish-draws-256 =
        update-draws (take (l / 8) tail)
        ∙ ap (λ (n : ℕ). moved n st.generator) (ap (words_to_update (s.width * 8) s.cnt) bytes ∙ whole s.width s.cnt)

    -- ZUC-128 and EIA3: the generator after the extra word
    module _ (four : s.width ≡ 4) where
      abbrev end : Tagging
      end = ended 32 st tail l

      end-generator : end.generator ≡ moved (8 * (s.cnt + l / 8) / 32) st.generator
      unfolding ended
      end-generator =
          subst (λ (w : ℕ). (updated (w * 8) st (take (l / 8) tail)).generator ≡ moved (words_to_update (w * 8) s.cnt (length (take (l / 8) tail))) st.generator) four
          (update-draws (take (l / 8) tail))
          ∙ ap (λ (n : ℕ). moved n st.generator) (omega (arith, bytes))

      end-waiting : length end.waiting ≡ (s.cnt + l / 8) % 4
      unfolding ended
      end-waiting =
          subst (λ (w : ℕ). length (updated (w * 8) st (take (l / 8) tail)).waiting ≡ (s.cnt + length (take (l / 8) tail)) % w) four
          (update-leaves (take (l / 8) tail))
          ∙ ap (λ (n : ℕ). (s.cnt + n) % 4) bytes

      -- where no bit is left over, whole words
      none_left : length end.waiting * 8 + l % 8 ≡ 0 → 8 * (s.cnt + l / 8) / 32 ≡ close_words-128 s l
      none_left e =
          let k : ℕ = (s.cnt + l / 8) / 4 in
          let low : 8 * (s.cnt + l / 8) ≡ k * 32 = omega (arith, end-waiting, e) in
          let high : 8 * s.cnt + l ≡ k * 32 = omega (arith, end-waiting, e) in
          let up : (k * 32 + 31) / 32 ≡ k = omega arith in
          ap (λ (n : ℕ). n / 32) low ∙ mul-div_cancel k (lit< tt) ∙ sym (ap (λ (n : ℕ). (n + 31) / 32) high ∙ up)

      pub finish-draws-128 : extra_state end (left_over end l) ≡ moved (close_words-128 s l) st.generator
      unfolding extra_state left_over
      finish-draws-128 =
          ⊎_elim
          (λ e. ap (λ (x : Bool). if x then end.generator else moved 1 end.generator) (eq-eqb (length end.waiting * 8 + l % 8) 0 e)
          ∙ end-generator ∙ ap (λ (n : ℕ). moved n st.generator) (none_left e))
          (λ p. ap (λ (x : Bool). if x then end.generator else moved 1 end.generator) (ne_eqb (length end.waiting * 8 + l % 8) 0 (λ e. omega arith))
          ∙ ap (moved 1) end-generator ∙ sym (moved_more (8 * (s.cnt + l / 8) / 32) st.generator)
          ∙ ap (λ (n : ℕ). moved n st.generator) (omega (arith, end-waiting)))
          (eq-zero-or-pos (length end.waiting * 8 + l % 8))

-- Outcomes by cases: the branch of a definition that the tests of the code pick; and a one-shot is a closing with no update before it.
use mathlib.Core.Bool.{Bool, true, false}
use mathlib.Core.List.{List, [], ◌∷◌}
use mathlib.Core.Path.{◌≡◌, refl, sym, ap, ap₂, ◌∙◌, subst}
use Prim.Native.Nat.{ℕ, ◌+◌, ◌*◌, ◌/◌, ◌<◌, ◌≤◌}
use native.Mathlib.Nat.{zero-add}
use lib.Dec.{eqb, leb}
use lib.ListN.{length}
use borrow.Author.Tests.{eqb-true, leb-true}
use Rattle.standard.specs.Generator.{State, keystream, started}
use Rattle.standard.specs.Integrity.{IV-EIA3, drawn_after-ZUC256, drawn_by_tag-ZUC256, tag-EIA3, tag-ZUC256}
use Rattle.standard.specs.Loading.{load₁₂₈, load₂₅₆, row_of}
use Rattle.standard.specs.Refusals.{Test, bad_bits, bad_state, bits_test, iv_test, key_test, limit_test, spent, tested, width_test}
use Rattle.standard.specs.States.{Counted, Stored, formed, formed-128, from_start, from_zero, limit, tag_formed, zero_stored}
use Rattle.standard.proofs.Generator.{stream-is}
use Rattle.standard.proofs.Table.{and_left, and_right}
use Rattle.standard.proofs.Tested.{tested-map, tested-when}
use mathlib.Core.Logic.{⊎_elim}
use Rattle.keystream.specs.Starts.{accepted_start, refused_start, start_tag₂₅₆, start₁₂₈}
use Rattle.refusals.proofs.Once.{refused-number}
use Rattle.refusals.specs.declared.Refusal.{Refusal}
use Rattle.refusals.specs.Numbers.{refusal_number}
use Rattle.mac_registers.specs.Stored.{packed, tag_words}
use Rattle.mac_registers.specs.Inner.{Holds, Width}
use Rattle.mac_registers.specs.Tagging.{begun-EIA3, begun-ZUC256, closed-EIA3, closed-ZUC256, updated}
use Rattle.mac_registers.proofs.Packed.{width_is, width-whole}
use Rattle.mac_tagging.proofs.Rule.{rule-EIA3, rule-ZUC256}
use Rattle.mac.specs.Calls.{closing, no_words, once_outcome-128, once_outcome-256, once_outcome-EIA3, refused_closing, refused_once, start_outcome-128, start_outcome-256, start_outcome-EIA3}
use Rattle.mac.specs.Inner.{begun-128, begun-256, once-from-256, passed_up}

-- a refused start is passed up
pub refused_as : {A : Type 0} (refusal : Refusal) (rest : List Test) (refused : ℕ → A) (answer : A)
    → refused (refusal_number refusal) ≡ tested (passed_up (refused_start (refusal_number refusal)) ∷ rest) refused answer
unfolding tested
refused_as refusal rest refused answer = rw (refused-number refusal) refl

-- a closing, by its tests
module _ {Tag : Type 0} (none : Tag) (ok : Bool) (s : Counted Stored) (words : ℕ) (tail : List ℕ) (l : ℕ) (tag : Tag) where
  pub bad-state : ok ≡ false → refused_closing none s bad_state ≡ closing none ok s words tail l tag
  unfolding closing tested
  bad-state e = rw e refl

  pub bad-bits : ok ≡ true → leb l (length tail * 8) ≡ false → refused_closing none s bad_bits ≡ closing none ok s words tail l tag
  unfolding closing tested
  bad-bits e f = rw (e, f) refl

  pub too_many : ok ≡ true → leb l (length tail * 8) ≡ true → leb (s.count + words) limit ≡ false
      → refused_closing none s spent ≡ closing none ok s words tail l tag
  unfolding closing tested
  too_many e f g = rw (e, f, g) refl

  pub closed : ok ≡ true → leb l (length tail * 8) ≡ true → leb (s.count + words) limit ≡ true → (t : Tag) (z : Stored) → t ≡ tag → z ≡ zero_stored
      → record { number = 0; tag = t; state = from_start z } ≡ closing none ok s words tail l tag
  unfolding closing tested
  closed e f g t z et ez = rw (e, f, g) (ap₂ (λ (x : Tag) (y : Stored). record { number = 0; tag = x; state = from_start y }) et ez)

-- a one-shot's tag
pub once-EIA3 : (loaded : State) (m : List ℕ) (l : ℕ) → l ≤ length m * 8 → closed-EIA3 (begun-EIA3 (from_zero (started loaded))) m l ≡ tag-EIA3 (keystream loaded) m l
unfolding updated
once-EIA3 loaded m l h =
    rule-EIA3 (from_zero (started loaded)) [] m l h ∙ ap₂ (λ (w : ℕ → ℕ) (n : ℕ). tag-EIA3 w m n) (sym (stream-is loaded)) (zero-add l)

pub once-ZUC256 : {w : ℕ} → Width w → (loaded : State) (m : List ℕ) (l : ℕ) → l ≤ length m * 8
    → closed-ZUC256 (w * 8) (begun-ZUC256 (w * 8) (from_zero (started loaded))) m l ≡ tag-ZUC256 (w * 8) (keystream loaded) m l
unfolding updated
once-ZUC256 {w} v loaded m l h =
    rule-ZUC256 (w * 8) (width-whole v).0 (width-whole v).1 (from_zero (started loaded)) [] m l h
    ∙ ap₂ (λ (x : ℕ → ℕ) (n : ℕ). tag-ZUC256 (w * 8) x m n) (sym (stream-is loaded)) (zero-add l)

-- what is done with a start of the keystream, and with its refusals, is the definition's
module _ (key iv : List ℕ) where
  pub begun-128-is : begun-128 (start₁₂₈ key iv) ≡ start_outcome-128 key iv
  unfolding begun-128 start₁₂₈ start_outcome-128 tested
  begun-128-is = tested-map begun-128 (key_test 16 key ∷ iv_test 16 iv ∷ []) refused_start (accepted_start (load₁₂₈ key iv))

  module _ (w : ℕ) where
    pub begun-256-is : begun-256 w (start_tag₂₅₆ w key iv) ≡ start_outcome-256 w key iv
    unfolding begun-256 start_tag₂₅₆ start_outcome-256 tested
    begun-256-is = tested-map (begun-256 w) (width_test w ∷ key_test 32 key ∷ iv_test 23 iv ∷ []) refused_start (accepted_start (load₂₅₆ (row_of w) key iv))

    pub once-256-is : (m : List ℕ) (l : ℕ) → once-from-256 w (start_tag₂₅₆ w key iv) m l ≡ once_outcome-256 w key iv m l
    unfolding once-from-256 start_tag₂₅₆ once_outcome-256 tested
    once-256-is m l =
        tested-map (λ o. once-from-256 w o m l) (width_test w ∷ key_test 32 key ∷ iv_test 23 iv ∷ []) refused_start (accepted_start (load₂₅₆ (row_of w) key iv))
        ∙ tested-when (width_test w ∷ key_test 32 key ∷ iv_test 23 iv ∷ bits_test l m ∷ limit_test 0 (drawn_by_tag-ZUC256 (w * 8) l) ∷ []) (refused_once no_words) _ _
        (λ all. ap (λ (x : ℕ). record { number = 0; tag = tag_words w x })
        (once-ZUC256 (width_is w all.0) (load₂₅₆ (row_of w) key iv) m l (leb-true l (length m * 8) all.1.1.1.0)))

-- EIA3's IV is never refused for its length
module _ (count bearer direction : ℕ) (key : List ℕ) where
  pub begun-EIA3-is : start_outcome-128 key (IV-EIA3 count bearer direction) ≡ start_outcome-EIA3 count bearer direction key
  unfolding start_outcome-128 start_outcome-EIA3 tested IV-EIA3
  begun-EIA3-is = refl

  pub once-EIA3-is : (m : List ℕ) (l : ℕ) → once_outcome-128 key (IV-EIA3 count bearer direction) m l ≡ once_outcome-EIA3 count bearer direction key m l
  unfolding once_outcome-128 once_outcome-EIA3 tested IV-EIA3
  once-EIA3-is m l = refl

-- a ZUC-128 or EIA3 state is of width 4
pub formed-four : (s : Counted Stored) → tag_formed formed-128 s ≡ true → s.held.width ≡ 4
unfolding tag_formed formed-128
formed-four s e = eqb-true s.held.width 4 (and_right (formed s.held) (eqb s.held.width 4) (and_left (formed-128 s.held) (leb s.count limit) e))

-- fewer bytes wait than a block has
pub holds-short : {s : Stored} → Holds s → s.cnt < s.width
unfolding packed
holds-short {s} h = subst (λ (n : ℕ). n < s.width) (ap (λ (x : Stored). x.cnt) h.packs) h.good.short

-- what the start of a ZUC-256 tag has drawn
pub begun-words : {w : ℕ} → Width w → w / 4 * 3 ≡ drawn_after-ZUC256 (w * 8) 0
begun-words v = ⊎_elim (λ e. rw e refl) (λ o. ⊎_elim (λ e. rw e refl) (λ e. rw e refl) o) v

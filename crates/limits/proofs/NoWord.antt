-- An update or a closing that draws no word is never refused by 16, also of a state at the limit: a well-formed state's count is within it.
use mathlib.Core.Bool.{Bool, true, false, false≢true}
use mathlib.Core.List.{List}
use mathlib.Core.Path.{◌≡◌, refl, ap, ◌∙◌}
use Prim.Native.Nat.{ℕ, ◌+◌, ◌*◌}
use native.Mathlib.Nat.{add-zero}
use native.Mathlib.Omega.{arith}
use lib.Dec.{leb}
use lib.ListN.{length}
use Rattle.std.specs.Prelude.{if◌then◌else◌}
use Rattle.standard.specs.Refusals.{accepted, bad_bits, bad_state, spent, tested}
use Rattle.standard.specs.States.{Counted, Stored, formed, formed-128, from_start, limit, tag_formed, zero_stored}
use Rattle.standard.proofs.Table.{and_right}
use Rattle.mac.specs.Calls.{close_words-128, close_words-256, closing, finish_outcome-128, finish_outcome-256, no_words, refused_closing, refused_update, taken_in, update_outcome, update_words}

-- no word more than the count
left : (test : Stored → Bool) (s : Counted Stored) (words : ℕ) → words ≡ 0 → tag_formed test s ≡ true → leb (s.count + words) limit ≡ true
unfolding tag_formed
left test s words e ok = ap (λ (n : ℕ). leb n limit) (ap (λ (n : ℕ). s.count + n) e ∙ add-zero s.count) ∙ and_right (test s.held) (leb s.count limit) ok

pub update-no-word : (test : Stored → Bool) (s : Counted Stored) (m : List ℕ) → update_words s.held m ≡ 0
    → (update_outcome (tag_formed test s) s m).number ≡ spent → ⊥
unfolding update_outcome tested
update-no-word test s m e = by (tag_formed test s) (leb (s.count + update_words s.held m) limit) (left test s (update_words s.held m) e)
  where
    by : (a b : Bool) → (a ≡ true → b ≡ true) → (if a then (if b then record { number = accepted; state = taken_in s m } else refused_update s spent) else refused_update s bad_state).number ≡ spent → ⊥
    by true true h n = omega arith
    by true false h n = false≢true (h refl)
    by false b h n = omega arith

closing-no-word : {Tag : Type 0} (none : Tag) (ok : Bool) (s : Counted Stored) (words : ℕ) (tail : List ℕ) (l : ℕ) (tag : Tag)
    → (ok ≡ true → leb (s.count + words) limit ≡ true) → (closing none ok s words tail l tag).number ≡ spent → ⊥
unfolding closing tested
closing-no-word {Tag} none ok s words tail l tag = by ok (leb l (length tail * 8)) (leb (s.count + words) limit)
  where
    by : (a b c : Bool) → (a ≡ true → c ≡ true)
        → (if a then (if b then (if c then record { number = accepted; tag = tag; state = from_start zero_stored } else refused_closing none s spent) else refused_closing none s bad_bits)
        else refused_closing none s bad_state).number ≡ spent → ⊥
    by true true true h n = omega arith
    by true true false h n = false≢true (h refl)
    by true false c h n = omega arith
    by false b c h n = omega arith

pub finish-no-word-128 : (s : Counted Stored) (tail : List ℕ) (l : ℕ) → close_words-128 s.held l ≡ 0 → (finish_outcome-128 s tail l).number ≡ spent → ⊥
unfolding finish_outcome-128
finish-no-word-128 s tail l e =
    closing-no-word 0 (tag_formed formed-128 s) s (close_words-128 s.held l) tail l _ (left formed-128 s (close_words-128 s.held l) e)

pub finish-no-word-256 : (s : Counted Stored) (tail : List ℕ) (l : ℕ) → close_words-256 s.held l ≡ 0 → (finish_outcome-256 s tail l).number ≡ spent → ⊥
unfolding finish_outcome-256
finish-no-word-256 s tail l e = closing-no-word no_words (tag_formed formed s) s (close_words-256 s.held l) tail l _ (left formed s (close_words-256 s.held l) e)

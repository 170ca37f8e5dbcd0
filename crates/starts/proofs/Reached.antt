-- None of it is empty: every proper key and IV, with each row of constants, is started, and every number of words up to the limit is reached
-- behind it; by a start whose tests pass and one buffer of words.
use mathlib.Core.Bool.{true}
use mathlib.Core.List.{List, [], ◌∷◌}
use mathlib.Core.Path.{◌≡◌, refl, sym, ◌∙◌, subst}
use Prim.Native.Nat.{ℕ, ◌+◌, ◌≤◌}
use native.Mathlib.Nat.{zero-add}
use native.Mathlib.Omega.{arith}
use borrow.Author.Tests.{eq-eqb, le-leb}
use lib.Dec.{lit<, lit≤}
use lib.ListN.{length}
use Rattle.standard.specs.Generator.{State, started, word_at}
use Rattle.standard.specs.Integrity.{is_width}
use Rattle.standard.specs.Loading.{d-keystream, load₁₂₈, load₂₅₆, row_of}
use Rattle.standard.specs.Notation.{listed}
use Rattle.standard.specs.Refusals.{accepted, iv_test, key_test, limit_test, state_test, width_test}
use Rattle.standard.specs.States.{Counted, Held, drawn_on, from_start, from_zero, generator_formed, limit}
use Rattle.standard.proofs.Cells.{Cells}
use Rattle.standard.proofs.Generator.{Sound, after_none}
use Rattle.standard.proofs.Held.{ready-generator_formed}
use Rattle.standard.proofs.Listed.{length-listed}
use Rattle.standard.proofs.Parts.{OfBytes}
use Rattle.standard.proofs.Tested.{passed}
use Rattle.zuc_apart.specs.Given.{Given, Proper, load_of, zuc128, zuc256}
use Rattle.zuc_apart.proofs.Apart.{of_row, ranged}
use Rattle.keystream.specs.Draws.{FillOutcome, fill_outcome, refused_fill}
use Rattle.keystream.specs.Starts.{accepted_start, refused_start, start_tag₂₅₆, start₁₂₈, start₂₅₆}
use Rattle.starts.specs.Stands.{Stands, fill, zuc128-new, zuc256-new, zuc256-new-with-d}

abbrev first : Given → Counted Held
first a = from_start (from_zero (started (load_of a)))

-- a key of 32 bytes and an IV of 23, with the row of a tag's width
with-width : (width : ℕ) {key iv : List ℕ} → is_width width ≡ true → OfBytes 32 key → OfBytes 23 iv → Stands (zuc256 (row_of width) key iv) (first (zuc256 (row_of width) key iv))
unfolding start_tag₂₅₆
with-width width {key} {iv} w b v =
    zuc256-new-with-d width b.small v.small (accepted_start (load₂₅₆ (row_of width) key iv))
    (sym (passed (width_test width ∷ key_test 32 key ∷ iv_test 23 iv ∷ []) refused_start _ (w, (eq-eqb (length key) 32 b.long, (eq-eqb (length iv) 23 v.long, tt))))) refl

begins : (a : Given) → Proper a → Stands a (first a)
unfolding start₁₂₈ start₂₅₆
begins (zuc128 key iv) p =
    zuc128-new p.0.small p.1.small (accepted_start (load₁₂₈ key iv))
    (sym (passed (key_test 16 key ∷ iv_test 16 iv ∷ []) refused_start _ (eq-eqb (length key) 16 p.0.long, (eq-eqb (length iv) 16 p.1.long, tt)))) refl
begins (zuc256 d key iv) p =
    of_row (λ row. Stands (zuc256 row key iv) (first (zuc256 row key iv)))
    (zuc256-new p.1.small p.2.small (accepted_start (load₂₅₆ d-keystream key iv))
    (sym (passed (key_test 32 key ∷ iv_test 23 iv ∷ []) refused_start _ (eq-eqb (length key) 32 p.1.long, (eq-eqb (length iv) 23 p.2.long, tt)))) refl)
    (with-width 4 refl p.1 p.2) (with-width 8 refl p.1 p.2) (with-width 16 refl p.1 p.2) p.0

pub reached : (a : Given) → Proper a → (n : ℕ) → n ≤ limit → (g : Counted Held) × Stands a g × (g.count ≡ n)
unfolding fill_outcome
reached a p n h =
    let buffer : List ℕ = listed (λ i. 0) 0 n in
    let long : length buffer ≡ n = length-listed (λ i. 0) 0 n in
    let σ : State = started (load_of a) in
    let sound : Cells σ.cells = subst Sound (after_none σ) (ranged a p 0).sound in
    let done : FillOutcome = record { number = accepted; state = drawn_on (length buffer) (first a); buffer = listed (word_at σ) 0 (length buffer) } in
    let told : fill_outcome (first a) buffer ≡ done =
    passed (state_test (generator_formed (first a)) ∷ limit_test 0 (length buffer) ∷ []) (refused_fill (first a) buffer) done
    (ready-generator_formed (record { cells = sound; start = lit< tt }) (lit≤ tt), (le-leb (0 + length buffer) limit (omega arith), tt)) in
    (done.state, fill (begins a p) buffer done (sym told), zero-add (length buffer) ∙ long)

-- When a one-shot is accepted: exactly if its width, key, IV and bits fit and the words of the whole tag are within the limit; by its tests.
use mathlib.Core.List.{List, [], ◌∷◌}
use mathlib.Core.Logic.{◌↔◌}
use mathlib.Core.Path.{◌≡◌, refl, ap}
use Prim.Native.Nat.{ℕ, ◌+◌, ◌*◌, ◌≤◌}
use native.Mathlib.Omega.{arith}
use lib.Dec.{lit<}
use lib.ListN.{length}
use borrow.Author.Tests.{eq-eqb, eqb-true, le-leb, leb-true}
use Rattle.standard.specs.Generator.{keystream}
use Rattle.standard.specs.Integrity.{IV-EIA3, drawn_by_tag-EIA3, drawn_by_tag-ZUC256, tag-EIA3, tag-ZUC256}
use Rattle.standard.specs.Loading.{load₁₂₈, load₂₅₆, row_of}
use Rattle.standard.specs.Refusals.{Test, accepted, bits_test, iv_test, key_test, limit_test, tested, width_test}
use Rattle.standard.specs.States.{limit}
use Rattle.standard.proofs.Tested.{AllPass, Numbered, accepted-passed, passed}
use Rattle.mac_registers.specs.Inner.{Width}
use Rattle.mac_registers.specs.Stored.{tag_words}
use Rattle.mac_registers.proofs.Packed.{is-width, width_is}
use Rattle.mac.specs.Calls.{Once, no_words, once_outcome-128, once_outcome-256, once_outcome-EIA3, refused_once}

-- a one-shot is accepted exactly if all its tests pass
once-passes : {Tag : Type 0} (none tag : Tag) (tests : List Test) → Numbered tests
    → ((tested tests (refused_once none) (record { number = accepted; tag = tag })).number ≡ accepted) ↔ AllPass tests
once-passes {Tag} none tag tests low =
    let answer : Once Tag = record { number = accepted; tag = tag } in (
      accepted-passed (λ (o : Once Tag). o.number) (refused_once none) (λ n. refl) answer tests low,
      λ all. ap (λ (o : Once Tag). o.number) (passed tests (refused_once none) answer all),
    )

-- the last two tests of each
module _ (l words : ℕ) (m : List ℕ) where
  abbrev Last : Type 0
  Last = AllPass (bits_test l m ∷ limit_test 0 words ∷ [])

  fits : Last → (l ≤ length m * 8) × (words ≤ limit)
  fits all = (leb-true l (length m * 8) all.0, omega (arith, leb-true (0 + words) limit all.1.0))

  passing : (l ≤ length m * 8) × (words ≤ limit) → Last
  passing h = (le-leb l (length m * 8) h.0, (le-leb (0 + words) limit (omega (arith, h.1)), tt))

pub once-accepted-zuc128 : (key iv m : List ℕ) (l : ℕ)
    → ((once_outcome-128 key iv m l).number ≡ accepted)
    ↔ ((length key ≡ 16) × (length iv ≡ 16) × (l ≤ length m * 8) × (drawn_by_tag-EIA3 l ≤ limit))
unfolding once_outcome-128
once-accepted-zuc128 key iv m l =
    let D : ℕ = drawn_by_tag-EIA3 l in
    let by = once-passes 0 (tag-EIA3 (keystream (load₁₂₈ key iv)) m l) (key_test 16 key ∷ iv_test 16 iv ∷ bits_test l m ∷ limit_test 0 D ∷ [])
    (lit< tt, (lit< tt, (lit< tt, (lit< tt, tt)))) in (
      λ e. let all = by.0 e in
          let last = fits l D m all.1.1 in
          (eqb-true (length key) 16 all.0, eqb-true (length iv) 16 all.1.0, last.0, last.1),
      λ h. by.1 (eq-eqb (length key) 16 h.0, (eq-eqb (length iv) 16 h.1, passing l D m (h.2, h.3))),
    )

pub once-accepted-eia3 : (count bearer direction : ℕ) (key m : List ℕ) (l : ℕ)
    → ((once_outcome-EIA3 count bearer direction key m l).number ≡ accepted) ↔ ((length key ≡ 16) × (l ≤ length m * 8) × (drawn_by_tag-EIA3 l ≤ limit))
unfolding once_outcome-EIA3
once-accepted-eia3 count bearer direction key m l =
    let D : ℕ = drawn_by_tag-EIA3 l in
    let by = once-passes 0 (tag-EIA3 (keystream (load₁₂₈ key (IV-EIA3 count bearer direction))) m l) (key_test 16 key ∷ bits_test l m ∷ limit_test 0 D ∷ [])
    (lit< tt, (lit< tt, (lit< tt, tt))) in (
      λ e. let all = by.0 e in
          let last = fits l D m all.1 in
          (eqb-true (length key) 16 all.0, last.0, last.1),
      λ h. by.1 (eq-eqb (length key) 16 h.0, passing l D m (h.1, h.2)),
    )

pub once-accepted-zuc256 : (w : ℕ) (key iv m : List ℕ) (l : ℕ)
    → ((once_outcome-256 w key iv m l).number ≡ accepted)
    ↔ (Width w × (length key ≡ 32) × (length iv ≡ 23) × (l ≤ length m * 8) × (drawn_by_tag-ZUC256 (w * 8) l ≤ limit))
unfolding once_outcome-256
once-accepted-zuc256 w key iv m l =
    let D : ℕ = drawn_by_tag-ZUC256 (w * 8) l in
    let by = once-passes no_words (tag_words w (tag-ZUC256 (w * 8) (keystream (load₂₅₆ (row_of w) key iv)) m l))
    (width_test w ∷ key_test 32 key ∷ iv_test 23 iv ∷ bits_test l m ∷ limit_test 0 D ∷ [])
    (lit< tt, (lit< tt, (lit< tt, (lit< tt, (lit< tt, tt))))) in (
      λ e. let all = by.0 e in
          let last = fits l D m all.1.1.1 in
          (width_is w all.0, eqb-true (length key) 32 all.1.0, eqb-true (length iv) 23 all.1.1.0, last.0, last.1),
      λ h. by.1 (is-width h.0, (eq-eqb (length key) 32 h.1, (eq-eqb (length iv) 23 h.2, passing l D m (h.3, h.4)))),
    )

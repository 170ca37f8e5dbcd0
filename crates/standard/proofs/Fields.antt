-- Bearer and direction held against their fields: in them nothing is trimmed, and a strict form's list of tests is the plain form's; by the
-- tests' values.
use mathlib.Core.Bool.{Bool, true, false, ◌&&◌}
use mathlib.Core.List.{List, ◌∷◌}
use mathlib.Core.Logic.{◌↔◌, ◌⊎◌, inl, inr, ⊎_elim}
use mathlib.Core.Path.{◌≡◌, ◌∙◌, ap, ap₂, refl, sym}
use Prim.Native.Nat.{ℕ, ◌%◌, ◌^◌, ◌<◌, ◌≤◌}
use native.Mathlib.Omega.{arith}
use borrow.Author.Tests.{eq-eqb, eqb-true, le-leb, leb-false, leb-true, lt-leb, ne_eqb}
use lib.Dec.{leb, lit<}
use lib.ListN.{length}
use Rattle.standard.specs.Confidentiality.{IV-EEA3, bytes_iv-EEA3}
use Rattle.standard.specs.Integrity.{IV-EIA3, bytes_iv-EIA3}
use Rattle.std.specs.Prelude.{if◌then◌else◌}
use Rattle.standard.specs.Refusals.{Test, accepted, bad_field, bad_key, field_test, key_test, tested}
use Rattle.standard.proofs.Table.{and_left, and_right}
use Rattle.standard.proofs.Tested.{AllPass, Numbered, Without, accepted-exactly, accepted-is, never-told}

-- request 2026-04, in its own words
abbrev pub InField : ℕ → ℕ → Type 0
InField bearer direction = (bearer ≤ 31) × (direction ≤ 1)

abbrev pub OutOfField : ℕ → ℕ → Type 0
OutOfField bearer direction = (31 < bearer) ⊎ (1 < direction)

module _ (bearer direction : ℕ) where
  pub field-passes : InField bearer direction → (field_test bearer direction).passes ≡ true
  field-passes h = rw (le-leb bearer 31 h.0, le-leb direction 1 h.1) refl

  pub field-passed : (field_test bearer direction).passes ≡ true → InField bearer direction
  field-passed e = (
    leb-true bearer 31 (and_left (leb bearer 31) (leb direction 1) e),
    leb-true direction 1 (and_right (leb bearer 31) (leb direction 1) e),
  )

  pub field-fails : OutOfField bearer direction → (field_test bearer direction).passes ≡ false
  field-fails h = ⊎_elim (λ b. rw (lt-leb bearer 31 b) refl) (λ d. rw (lt-leb direction 1 d) (and_none (leb bearer 31))) h
    where
      and_none : (t : Bool) → t && false ≡ false
      and_none true = refl
      and_none false = refl

  pub field-failed : (field_test bearer direction).passes ≡ false → OutOfField bearer direction
  field-failed = by (leb bearer 31) refl
    where
      by : (t : Bool) → leb bearer 31 ≡ t → t && leb direction 1 ≡ false → OutOfField bearer direction
      by true b e = inr (leb-false direction 1 e)
      by false b e = inl (leb-false bearer 31 b)

  kept-bearer : InField bearer direction → bearer % 2 ^ 5 ≡ bearer
  kept-bearer h = omega arith

  kept-direction : InField bearer direction → direction % 2 ≡ direction
  kept-direction h = omega arith

  -- the document's IV, of the very numbers
  pub as-given-EEA3 : (count : ℕ) → InField bearer direction → IV-EEA3 count bearer direction ≡ bytes_iv-EEA3 count bearer direction
  unfolding IV-EEA3
  as-given-EEA3 count h = ap₂ (bytes_iv-EEA3 count) (kept-bearer h) (kept-direction h)

  pub as-given-EIA3 : (count : ℕ) → InField bearer direction → IV-EIA3 count bearer direction ≡ bytes_iv-EIA3 count bearer direction
  unfolding IV-EIA3
  as-given-EIA3 count h = ap₂ (bytes_iv-EIA3 count) (kept-bearer h) (kept-direction h)

-- A strict form: the test of the fields stands behind that of the key and before the rest. What it tells, the number in that, and what is
-- known of the numbers
pub record Strict (A : Type 0) : Type 0 where
  pub key : List ℕ
  pub bearer : ℕ
  pub direction : ℕ
  pub rest : List Test
  pub refused : ℕ → A
  pub answer : A
  pub number : A → ℕ
  pub told : (n : ℕ) → number (refused n) ≡ n
  pub ok : number answer ≡ accepted
  pub numbered : Numbered rest
  pub others : Without bad_field rest

module _ {A : Type 0} (f : Strict A) where
  abbrev fields : Test
  fields = field_test f.bearer f.direction

  abbrev pub strictly : A
  strictly = tested (key_test 16 f.key ∷ fields ∷ f.rest) f.refused f.answer

  -- what it tells by its tests
  pub bad-key : (length f.key ≡ 16 → ⊥) → f.refused bad_key ≡ strictly
  unfolding tested
  bad-key other = rw (ne_eqb (length f.key) 16 other) refl

  pub bad-field : length f.key ≡ 16 → fields.passes ≡ false → f.refused bad_field ≡ strictly
  unfolding tested
  bad-field same e = rw (eq-eqb (length f.key) 16 same, e) refl

  pub in_field : InField f.bearer f.direction → strictly ≡ tested (key_test 16 f.key ∷ f.rest) f.refused f.answer
  unfolding tested
  in_field h = rw (field-passes f.bearer f.direction h) refl

  -- either test decides, by its value
  by_tests : (k t : Bool) → A
  by_tests k t = if k then (if t then tested f.rest f.refused f.answer else f.refused bad_field) else f.refused bad_key

  module _ (o : A) (is : o ≡ strictly) where
    number_is : f.number o ≡ f.number strictly
    number_is = ap f.number is

    -- accepted exactly if the key has 16 bytes, both numbers fit, and the rest passes
    pub strict-accepted : (f.number o ≡ accepted) ↔ ((length f.key ≡ 16) × InField f.bearer f.direction × AllPass f.rest)
    strict-accepted =
        let exactly = accepted-exactly f.number f.refused f.told f.answer f.ok (key_test 16 f.key ∷ fields ∷ f.rest) (lit< tt, (lit< tt, f.numbered)) in (
          λ e. let all = exactly.0 (sym number_is ∙ e) in (eqb-true (length f.key) 16 all.0, field-passed f.bearer f.direction all.1.0, all.1.1),
          λ h. number_is ∙ exactly.1 (eq-eqb (length f.key) 16 h.0, (field-passes f.bearer f.direction h.1, h.2)),
        )

    -- its answer
    pub strict-answer : f.number o ≡ accepted → o ≡ f.answer
    strict-answer e =
        is ∙ accepted-is f.number f.refused f.told f.answer (key_test 16 f.key ∷ fields ∷ f.rest) (lit< tt, (lit< tt, f.numbered)) (sym number_is ∙ e)

    -- refused by 8 exactly if the key has 16 bytes and a number is past its field
    pub strict-refused : (f.number o ≡ bad_field) ↔ ((length f.key ≡ 16) × OutOfField f.bearer f.direction)
    unfolding tested by_tests
    strict-refused = (
      λ e. let h = only (key_test 16 f.key).passes fields.passes (sym number_is ∙ e) in
          (eqb-true (length f.key) 16 h.0, field-failed f.bearer f.direction h.1),
      λ h. number_is ∙ rw (eq-eqb (length f.key) 16 h.0, field-fails f.bearer f.direction h.1) (f.told bad_field),
    )
      where
        only : (k t : Bool) → f.number (by_tests k t) ≡ bad_field → (k ≡ true) × (t ≡ false)
        only true true e =
            absurd (never-told f.number f.refused f.told f.answer bad_field (λ z. let q : accepted ≡ bad_field = sym f.ok ∙ z in omega (arith, q)) f.rest f.others e)
        only true false e = (refl, refl)
        only false t e = let q : bad_key ≡ bad_field = sym (f.told bad_key) ∙ e in absurd (omega (arith, q))

    -- refused neither by 2 nor by 8, it was given numbers that fit
    pub strict-fits : (f.number o ≡ bad_key → ⊥) → (f.number o ≡ bad_field → ⊥) → InField f.bearer f.direction
    unfolding tested by_tests
    strict-fits not_key not-field =
        field-passed f.bearer f.direction (only (key_test 16 f.key).passes fields.passes (λ e. not_key (number_is ∙ e)) (λ e. not-field (number_is ∙ e)))
      where
        only : (k t : Bool) → (f.number (by_tests k t) ≡ bad_key → ⊥) → (f.number (by_tests k t) ≡ bad_field → ⊥) → t ≡ true
        only true true a b = refl
        only true false a b = absurd (b (f.told bad_field))
        only false t a b = absurd (a (f.told bad_key))

-- EEA3 in one call (request 2026-04): it is a start and a mask of it; OBS[i] = IBS[i] ⊕ z[i]; when it is accepted. And strictly: the plain form
-- on numbers that pass 8, when it is refused by 8, and that it takes bearer and direction as given. By the tests that were passed, with the
-- mode as a test: `clean` is true for clean mode and false for crate mode, and at either these are the calls' own definitions (`modes`).
use mathlib.Core.Bool.{Bool, true, false}
use mathlib.Core.List.{List, [], ◌∷◌, ◌++◌}
use mathlib.Core.Logic.{◌↔◌}
use mathlib.Core.Path.{◌≡◌, refl, sym, ap, ◌∙◌}
use Prim.Native.Nat.{ℕ, ◌+◌, ◌*◌, ◌<◌, ◌≤◌}
use native.Mathlib.Omega.{arith}
use borrow.Author.Tests.{eq-eqb, eqb-false, eqb-true, le-leb, leb-true}
use lib.Dec.{eqb, lit<}
use lib.ListN.{length}
use Rattle.standard.specs.Bits.{M, z}
use Rattle.standard.specs.Confidentiality.{IV-EEA3, OBS, half_iv-EEA3}
use Rattle.standard.specs.Generator.{keystream}
use Rattle.standard.specs.Loading.{load₁₂₈}
use Rattle.std.specs.Prelude.{if◌then◌else◌}
use Rattle.standard.specs.Refusals.{Test, accepted, bad_field, bad_key, bits_test, field_test, key_test, limit_test, tested}
use Rattle.standard.specs.States.{limit}
use Rattle.standard.proofs.Fields.{InField, OutOfField, bad-field, bad-key, field-passed, strict-accepted, strict-answer, strict-fits, strict-refused}
use Rattle.standard.proofs.Masking.{obs-clean, obs-crate}
use Rattle.standard.proofs.Promise.{Says}
use Rattle.standard.proofs.Tested.{accepted-exactly, accepted-is}
use Rattle.zuc_loading.proofs.Loaded.{Bytes}
use Rattle.keystream.specs.Starts.{StartOutcome, refused_start, start-EEA3, strict_start-EEA3}
use Rattle.keystream.proofs.Strict.{form as start-form, strict-eea3}
use Rattle.mask.specs.Modes.{mask_outcome, mode_mask, mode_words, plain-EEA3, strict-EEA3}
use Rattle.mask.specs.Once.{Once, clean-EEA3, crate-EEA3, drawn_once, once_told, plain_tested, refused_once, strict_clean-EEA3, strict_crate-EEA3, strict_tested, without_state}
use Rattle.mask.proofs.Once.{eea3-starts, form, once_is, once-key, strict-mask}
use Rattle.mask.proofs.eea3.mask_clean.Reads as eea3-mask-clean
use Rattle.mask.proofs.eea3.mask_clean_strict.Reads as eea3-mask-clean-strict
use Rattle.mask.proofs.eea3.mask_crate.Reads as eea3-mask-crate
use Rattle.mask.proofs.eea3.mask_crate_strict.Reads as eea3-mask-crate-strict

-- the promises are the equations that the theorems ask for
pub called-eea3-mask-crate : Says eea3-mask-crate.Post
    (λ κs a r s. once_told r s.1.1.1.1.0.now ≡ plain-EEA3 false a.0 a.1.0 a.1.1.0 a.1.1.1.0.now a.1.1.1.1.1.0 a.1.1.1.1.0.now)
called-eea3-mask-crate κs a r s p = p

pub called-eea3-mask-clean : Says eea3-mask-clean.Post
    (λ κs a r s. once_told r s.1.1.1.1.0.now ≡ plain-EEA3 true a.0 a.1.0 a.1.1.0 a.1.1.1.0.now a.1.1.1.1.1.0 a.1.1.1.1.0.now)
called-eea3-mask-clean κs a r s p = p

pub called-eea3-mask-crate-strict : Says eea3-mask-crate-strict.Post
    (λ κs a r s. once_told r s.1.1.1.1.0.now ≡ strict-EEA3 false a.0 a.1.0 a.1.1.0 a.1.1.1.0.now a.1.1.1.1.1.0 a.1.1.1.1.0.now)
called-eea3-mask-crate-strict κs a r s p = p

pub called-eea3-mask-clean-strict : Says eea3-mask-clean-strict.Post
    (λ κs a r s. once_told r s.1.1.1.1.0.now ≡ strict-EEA3 true a.0 a.1.0 a.1.1.0 a.1.1.1.0.now a.1.1.1.1.1.0 a.1.1.1.1.0.now)
called-eea3-mask-clean-strict κs a r s p = p

module _ (count bearer direction : ℕ) (key : List ℕ) (L : ℕ) (buffer : List ℕ) where
  -- a mode by its test is the mode by its name
  pub modes : (plain-EEA3 true count bearer direction key L buffer ≡ clean-EEA3 count bearer direction key L buffer)
      × (plain-EEA3 false count bearer direction key L buffer ≡ crate-EEA3 count bearer direction key L buffer)
      × (strict-EEA3 true count bearer direction key L buffer ≡ strict_clean-EEA3 count bearer direction key L buffer)
      × (strict-EEA3 false count bearer direction key L buffer ≡ strict_crate-EEA3 count bearer direction key L buffer)
  modes = (refl, refl, refl, refl)

  -- a start that is refused for its key
  key-refused : eqb (length key) 16 ≡ false → start-EEA3 count bearer direction key ≡ refused_start bad_key
  unfolding start-EEA3 tested
  key-refused e = rw e refl

  module _ (clean : Bool) where
    abbrev words : ℕ
    words = mode_words clean L buffer

    -- what follows a start: a mask of its state, of which the state is not seen; or the start's refusal
    abbrev pub masked : StartOutcome → Once
    masked start = if eqb start.number accepted then without_state (mask_outcome clean start.state L buffer) else refused_once buffer start.number

    -- ONE CALL IS START AND MASK
    pub one-call : Bytes key → plain-EEA3 clean count bearer direction key L buffer ≡ masked (start-EEA3 count bearer direction key)
    one-call hk = by (eqb (length key) 16) refl
      where
        by : (b : Bool) → eqb (length key) 16 ≡ b → plain-EEA3 clean count bearer direction key L buffer ≡ masked (start-EEA3 count bearer direction key)
        by true e =
            let same = eqb-true (length key) 16 e in
            sym (once_is count bearer direction key L buffer clean hk same) ∙ sym (ap masked (eea3-starts count bearer direction key same))
        by false e = sym (once-key count bearer direction key L buffer clean (eqb-false (length key) 16 e)) ∙ sym (ap masked (key-refused e))

    -- and strictly, a strict start and a mask
    abbrev both : Type 0
    both = strict-EEA3 clean count bearer direction key L buffer ≡ masked (strict_start-EEA3 count bearer direction key)

    past-field : (b : Bool) → eqb (length key) 16 ≡ b → (field_test bearer direction).passes ≡ false → both
    unfolding strict_tested strict_start-EEA3
    past-field true k e =
        let same = eqb-true (length key) 16 k in
        sym (bad-field (form count bearer direction key L buffer clean) same e) ∙ ap masked (bad-field (start-form count bearer direction key) same e)
    past-field false k e =
        let other = eqb-false (length key) 16 k in
        sym (bad-key (form count bearer direction key L buffer clean) other) ∙ ap masked (bad-key (start-form count bearer direction key) other)

    pub one-call-strict : Bytes key → both
    one-call-strict hk = by (field_test bearer direction).passes refl
      where
        by : (b : Bool) → (field_test bearer direction).passes ≡ b → both
        by true e =
            let h = field-passed bearer direction e in
            strict-mask count bearer direction key L buffer clean h ∙ one-call hk ∙ ap masked (sym (strict-eea3 count bearer direction key h))
        by false e = past-field (eqb (length key) 16) refl e

    -- a mode's mask is OBS
    obs : (w : ℕ → ℕ) (i : ℕ) → L ≤ length buffer * 8 → i < L → M (mode_mask clean w L buffer) i ≡ OBS (M buffer) (z w) i
    obs w i h l = by clean
      where
        by : (b : Bool) → M (mode_mask b w L buffer) i ≡ OBS (M buffer) (z w) i
        by true = obs-clean w L buffer i h l
        by false = obs-crate w L buffer i h l

    -- the plain form: accepted exactly if the key has 16 bytes, the bit length fits and the words are within the limit; then it has drawn
    -- the mode's words, and its bits are OBS by the keystream of key and IV
    module _ (o : Once) (is : o ≡ plain-EEA3 clean count bearer direction key L buffer) where
      tests : List Test
      tests = key_test 16 key ∷ bits_test L buffer ∷ limit_test 0 words ∷ []

      abbrev pub answer : Once
      answer = drawn_once words (mode_mask clean (keystream (load₁₂₈ key (IV-EEA3 count bearer direction))) L buffer)

      number_is : o.number ≡ (plain-EEA3 clean count bearer direction key L buffer).number
      number_is = ap (λ (x : Once). x.number) is

      pub one-call-accepted : (o.number ≡ accepted) ↔ ((length key ≡ 16) × (L ≤ length buffer * 8) × (words ≤ limit))
      unfolding plain_tested tests
      one-call-accepted =
          let exactly = accepted-exactly (λ (x : Once). x.number) (refused_once buffer) (λ n. refl) answer refl tests (lit< tt, (lit< tt, (lit< tt, tt))) in (
            λ e. let all = exactly.0 (sym number_is ∙ e) in
                (eqb-true (length key) 16 all.0, leb-true L (length buffer * 8) all.1.0, omega (arith, leb-true (0 + words) limit all.1.1.0)),
            λ h. number_is
                ∙ exactly.1 (eq-eqb (length key) 16 h.0, (le-leb L (length buffer * 8) h.1, (le-leb (0 + words) limit (omega (arith, h.2)), tt))),
          )

      pub one-call-is : o.number ≡ accepted → o ≡ answer
      unfolding plain_tested tests
      one-call-is e = is ∙ accepted-is (λ (x : Once). x.number) (refused_once buffer) (λ n. refl) answer tests (lit< tt, (lit< tt, (lit< tt, tt))) (sym number_is ∙ e)

      pub one-call-obs : o.number ≡ accepted → (i : ℕ) → i < L → M o.buffer i ≡ OBS (M buffer) (z (keystream (load₁₂₈ key (IV-EEA3 count bearer direction)))) i
      one-call-obs e i l = ap (λ (x : Once). M x.buffer i) (one-call-is e) ∙ obs (keystream (load₁₂₈ key (IV-EEA3 count bearer direction))) i (one-call-accepted.0 e).1 l

    -- the strict form: beside that, both numbers must fit; it is refused by 8 exactly if the key has 16 bytes and one does not; and the IV is
    -- the document's of these very numbers. (That it is the plain form on numbers that pass 8: `strict-mask` of mask/proofs/Once.antt)
    module _ (o : Once) (is : o ≡ strict-EEA3 clean count bearer direction key L buffer) where
      abbrev pub given : ℕ → ℕ
      given = keystream (load₁₂₈ key (half_iv-EEA3 count bearer direction ++ half_iv-EEA3 count bearer direction))

      pub strict-mask-accepted : (o.number ≡ accepted) ↔ ((length key ≡ 16) × InField bearer direction × (L ≤ length buffer * 8) × (words ≤ limit))
      unfolding strict_tested
      strict-mask-accepted =
          let exactly = strict-accepted (form count bearer direction key L buffer clean) o is in (
            λ e. let h = exactly.0 e in (h.0, h.1, leb-true L (length buffer * 8) h.2.0, omega (arith, leb-true (0 + words) limit h.2.1.0)),
            λ h. exactly.1 (h.0, h.1, (le-leb L (length buffer * 8) h.2, (le-leb (0 + words) limit (omega (arith, h.3)), tt))),
          )

      pub strict-mask-refused : (o.number ≡ bad_field) ↔ ((length key ≡ 16) × OutOfField bearer direction)
      unfolding strict_tested
      strict-mask-refused = strict-refused (form count bearer direction key L buffer clean) o is

      pub strict-mask-fits : (o.number ≡ bad_key → ⊥) → (o.number ≡ bad_field → ⊥) → InField bearer direction
      unfolding strict_tested
      strict-mask-fits = strict-fits (form count bearer direction key L buffer clean) o is

      pub strict-mask-as-given : o.number ≡ accepted → o ≡ drawn_once words (mode_mask clean given L buffer)
      unfolding strict_tested
      strict-mask-as-given = strict-answer (form count bearer direction key L buffer clean) o is

      pub strict-mask-obs : o.number ≡ accepted → (i : ℕ) → i < L → M o.buffer i ≡ OBS (M buffer) (z given) i
      strict-mask-obs e i l = ap (λ (x : Once). M x.buffer i) (strict-mask-as-given e) ∙ obs given i (strict-mask-accepted.0 e).2 l
